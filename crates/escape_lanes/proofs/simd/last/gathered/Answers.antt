use Rattle.std.proofs.Common.{[], ◌++◌, length, take, drop, get_or, ap, ap₂, ◌∙◌}
use borrow.Rule.Simd.Moves.{swz_l}
use mir.Syntax.{w8}
use Rattle.escape_lanes.proofs.GatherLemmas.{gathered}
use Rattle.escape_lanes.specs.declared.simd.last.TheConstants.{GATHERED}
use Rattle.escape_lanes.proofs.simd.last.gathered.Goals as goal

pub returns : goal.returns
returns c =
    let src = c.args.src.now in
    let second = c.four_lanes-2.ensures ∙ ap (λ k. take 4 (drop k src)) c.min.ensures in
    let third = c.four_lanes-3.ensures ∙ ap (λ k. take 4 (drop k src)) c.min-2.ensures in
    let low = c.both_4-low.ensures ∙ ap₂ (λ xs ys. xs ++ ys) c.four_lanes.ensures second in
    let high = c.both_4-high.ensures ∙ ap₂ (λ xs ys. xs ++ ys) third c.four_lanes-4.ensures in
    ap (λ xs. swz_l w8 16 xs 0 (get_or GATHERED (length src) [])) (c.both_8.ensures ∙ ap₂ (λ xs ys. xs ++ ys) low high)
    ∙ gathered src c.requires.several c.requires.few
