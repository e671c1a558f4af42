use Rattle.std.proofs.Common.{[], get_or, ap, arith}
use Rattle.escape_lanes.specs.Mode.{json}
use Rattle.escape_lanes.proofs.TableLemmas.{entry_in_table, get_or-marks, marks}
use Rattle.escape_lanes.proofs.tables.json_row.Goals as goal

pub returns-clause-row : goal.returns-clause-row
returns-clause-row c =
    let entry = c.json_entry in
    ap (λ e. (get_or (marks json) c.args.b 0, e)) (entry_in_table json c.args.b entry.result.now (0, []) (omega arith) entry.ensures.count entry.ensures.bytes)

pub returns-clause-need : goal.returns-clause-need
returns-clause-need c = get_or-marks json c.args.b 0 (omega arith)
