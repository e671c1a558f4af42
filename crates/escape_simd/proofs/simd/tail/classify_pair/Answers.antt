use Rattle.escape_simd.proofs.Words.{◌-◌, ◌∙◌, ℕ, List, length, length-drop, drop, ap, arith, take_all, whole_mask}
use Rattle.escape_simd.proofs.simd.tail.classify_pair.Goals as goal

pub returns-clause-masks : goal.returns-clause-masks
returns-clause-masks g c =
    let text : List ℕ = c.args.text.now in let last : ℕ = length text - g.row.N in
    record { few = c.requires.few; front = λ _. c.classify-first.ensures.told; back = c.classify-last.ensures.told ∙ ap whole_mask (take_all g.row.N (drop last text) (omega (arith, length-drop last text, c.requires.several))) }
