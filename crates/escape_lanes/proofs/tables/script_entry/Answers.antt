use Rattle.std.proofs.Common.{[], ap, arith}
use Rattle.escape_lanes.specs.Mode.{script}
use Rattle.escape_lanes.proofs.TableLemmas.{get_or-entries}
use Rattle.escape_lanes.proofs.tables.script_entry.Goals as goal

pub returns-clause-count : goal.returns-clause-count
returns-clause-count c = ap (λ e. e.0) (get_or-entries script c.args.b (0, []) (omega arith))

pub returns-clause-bytes : goal.returns-clause-bytes
returns-clause-bytes c = ap (λ e. e.1) (get_or-entries script c.args.b (0, []) (omega arith))
