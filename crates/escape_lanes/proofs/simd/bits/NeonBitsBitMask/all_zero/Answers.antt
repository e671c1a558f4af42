use Rattle.escape_lanes.proofs.simd.bits.NeonBitsBitMask.all_zero.Goals as goal

pub returns : goal.returns
returns c = c.all_zero.ensures
