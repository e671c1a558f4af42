use Rattle.std.proofs.Common.{arith}
use Rattle.escape_lanes.proofs.BitLemmas.{ones-gaps}
use Rattle.escape_lanes.proofs.simd.lane_bits.count_gaps.Goals as goal

pub returns-clause-count : goal.returns-clause-count
returns-clause-count c = ones-gaps 64 c.args.count c.args.flags c.clear_high_bits.result (omega arith) (omega arith) (omega arith) c.clear_high_bits.ensures
