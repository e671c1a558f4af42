use Rattle.std.proofs.Common.{◌∙◌, sym}
use Rattle.escape_lanes.proofs.WordLemmas.{bits-both, flagged-words}
use Rattle.escape_lanes.proofs.simd.v128.lane_bits.Goals as goal

pub returns : goal.returns
returns c =
    let low = c.flag_bits.ensures in let high = c.flag_bits-2.ensures in
    bits-both c.flag_bits.result c.flag_bits-2.result _ _ low.below high.below low.bits high.bits
    ∙ sym (flagged-words c.args.low c.args.high)
