use Rattle.std.proofs.Common.{[], arith}
use Rattle.escape_lanes.proofs.TableLemmas.{get_or-rows}
use Rattle.escape_lanes.proofs.tables.spread_row.Goals as goal

pub returns : goal.returns
returns c = get_or-rows c.args.flags [] (omega arith)
