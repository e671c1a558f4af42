use Rattle.std.proofs.Common.{◌-◌, ◌++◌, length, take, drop, replicate, ap, ◌∙◌, arith, length-drop}
use Rattle.std.proofs.lemmas.List.{take_all, take_rest}
use Rattle.escape_lanes.specs.declared.simd.last.TheConstants.{PLACES}
use Rattle.escape_lanes.proofs.DownLemmas.{places_ok, moved_down}
use Rattle.escape_lanes.proofs.LastLemmas.{drop-last}
use Rattle.escape_lanes.proofs.simd.last.moved_down.Goals as goal

pub swizzle : goal.swizzle
swizzle c = places_ok c.load-last.result c.load.result (16 - c.args.count) (omega arith) c.load-last.ensures.bytes.full (c.load.ensures.lanes ∙ ap (take 16) (take_rest PLACES (16 - c.args.count)))

pub returns : goal.returns
returns c =
    let src = c.args.src.now in let count = c.args.count in
    let last = c.load-last.ensures.lanes ∙ ap (take 16) (take_rest src (length src - 16)) ∙ take_all 16 (drop (length src - 16) src) (omega (arith, length-drop (length src - 16) src, c.requires.long)) in
    moved_down c.load-last.result c.load.result (16 - count) (omega arith) c.load-last.ensures.bytes.full (c.load.ensures.lanes ∙ ap (take 16) (take_rest PLACES (16 - count)))
    ∙ ap (λ lanes. drop (16 - count) lanes ++ replicate (16 - count) 0) last
    ∙ ap (λ lanes. lanes ++ replicate (16 - count) 0) (drop-last src 16 c.type_inv.src c.requires.long count (omega arith))
