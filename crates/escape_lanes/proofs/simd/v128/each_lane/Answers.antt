use Rattle.std.proofs.Common.{rules}
use Rattle.escape_lanes.proofs.WordLemmas.{word-from_bytes}
use Rattle.escape_lanes.proofs.simd.v128.each_lane.Goals as goal

pub returns : goal.returns
returns c = word-from_bytes _ c.from_le_bytes.result (search rules) (search rules) c.from_le_bytes.ensures
