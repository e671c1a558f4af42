use Rattle.std.proofs.Common.{◌∙◌}
use Rattle.escape_lanes.specs.Words.{word-bytes}
use Rattle.escape_lanes.proofs.WordLemmas.{words-stored}
use Rattle.escape_lanes.proofs.simd.v128.Simd128uSimd.storeu.Goals as goal

pub returns : goal.returns
returns c =
    let low = c.copy_from_slice.ensures.after ∙ c.bytes_of.ensures in
    let high = c.copy_from_slice-2.ensures.after ∙ c.bytes_of-2.ensures in
    rw (low, high) (words-stored _ _ c.args.dst.now (word-bytes c.args.self.now.low).full (word-bytes c.args.self.now.high).full c.requires)
