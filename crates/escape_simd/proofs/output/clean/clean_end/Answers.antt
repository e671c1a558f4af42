use Rattle.escape_simd.proofs.Words.{◌+◌, ◌≤◌, List, ℕ, length, sym, ◌∙◌, arith, mode_numbered}
use Rattle.escape_simd.proofs.Lanes.{bytes-clean}
use Rattle.escape_simd.proofs.Parts.{clean-four, front-more}
use Rattle.escape_simd.proofs.output.clean.clean_end.Goals as goal

pub chunks-preserved : goal.chunks-preserved
chunks-preserved g c =
    let mode = mode_numbered g.row.MODE in let src : List ℕ = c.args.src.now in let end : ℕ = c.chunks.end in
    let four = c.classify_four.ensures in
    let inside : end + 128 ≤ length src = omega (arith, c.chunks.invariant.inside, c.chunks-test.true) in
    front-more mode src c.args.at end 128 c.chunks.invariant inside (clean-four mode 32 src end inside four.first four.second four.third four.fourth four.clear c.if-classify_four.true)

pub vectors-preserved : goal.vectors-preserved
vectors-preserved g c =
    let mode = mode_numbered g.row.MODE in let src : List ℕ = c.args.src.now in let end : ℕ = c.vectors.end in let told = c.mask_at.ensures in
    let inside : end + 32 ≤ length src = omega (arith, c.vectors.invariant.inside, c.vectors-test.true) in
    front-more mode src c.args.at end 32 c.vectors.invariant inside (bytes-clean mode src end 32 c.mask_at.result told.bytes told.from inside (sym c.is_clear.ensures ∙ c.if-is_clear.true))
