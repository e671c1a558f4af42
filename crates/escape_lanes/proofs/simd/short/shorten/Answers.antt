use Rattle.std.proofs.Common.{◌-◌, length, drop, map, refl, ap, ◌∙◌, arith}
use Rattle.std.proofs.lemmas.List.{take-take}
use Rattle.escape_lanes.specs.Short.{shortened}
use Rattle.escape_lanes.proofs.ShortLemmas.{shortened-lanes}
use Rattle.escape_lanes.proofs.simd.short.shorten.Goals as goal

pub swizzle : goal.swizzle
swizzle c = (shortened-lanes c.load-bytes.result c.load-bytes.ensures.bytes _ refl).0

pub returns : goal.returns
returns c =
    let text = c.args.text.now in let at = c.args.at in
    (shortened-lanes c.load-bytes.result c.load-bytes.ensures.bytes _ refl).1 ∙ ap (map shortened) (c.load-bytes.ensures.lanes ∙ take-take 16 (length text - at) (drop at text) (omega (arith, c.requires)))
