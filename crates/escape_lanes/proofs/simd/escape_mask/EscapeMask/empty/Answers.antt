use Rattle.escape_lanes.proofs.BitLemmas.{bits-zero}
use Rattle.escape_lanes.proofs.simd.escape_mask.EscapeMask.empty.Goals as goal

pub invariant_of-result : goal.invariant_of-result
invariant_of-result g c = rw (c.of.ensures.0, c.of.ensures.1) (bits-zero 64)
