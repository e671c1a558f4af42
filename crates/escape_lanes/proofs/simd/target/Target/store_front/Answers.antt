use Rattle.std.proofs.Common.{arith}
use Rattle.escape_lanes.proofs.simd.target.Target.store_front.Goals as goal

pub whole_as_slice-put : goal.whole_as_slice-put
whole_as_slice-put g c = omega (arith, g.met.S.LoadStore.at_most, c.requires.lanes)
