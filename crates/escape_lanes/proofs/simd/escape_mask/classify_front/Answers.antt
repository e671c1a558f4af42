use Rattle.std.proofs.Common.{◌-◌, ◌∙◌, arith}
use Rattle.escape_lanes.proofs.EscapeMaskLemmas.{mask-front}
use Rattle.escape_lanes.specs.Mode.{mode_numbered}
use Rattle.escape_lanes.proofs.simd.escape_mask.classify_front.Goals as goal

pub invariant_of-result : goal.invariant_of-result
invariant_of-result g c =
    let met = g.met.V.Classifier in let wide = g.met.V.LoadStore.width c.args.v.now ∙ met.lane_count in let lanes = g.V.LoadStore.lanes c.args.v.now in
    rw (c.clear_high_bits.ensures, c.of.ensures.0, c.of.ensures.1) (mask-front (mode_numbered g.row.MODE) lanes c.args.bytes.now c.escape_bits.result (64 - g.row.N) c.requires.2 (omega (arith, wide, c.requires.1)) (omega (arith, wide, met.most)) c.escape_bits.ensures.lanes)
