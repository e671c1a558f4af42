use Rattle.escape_simd.proofs.Words.{◌≡◌, ◌∙◌, Bool, true, false, not, refl, sym, ap, ◌+◌, ◌-◌, arith, bits_of, length-bits_of, mode_numbered}
use Rattle.escape_simd.proofs.Vectors.{short-lanes}
use Rattle.escape_simd.proofs.simd.blocks.are_short.Goals as goal

-- not that it is not
twice : (a b : Bool) → a ≡ not b → not a ≡ true → b ≡ true
twice a true is denied = refl
twice a false is denied = sym (sym denied ∙ ap not is)

pub returns-then-has_short_escapes : goal.returns-then-has_short_escapes
returns-then-has_short_escapes g c = λ short k h set needed.
    let here : c.args.at + g.row.N - c.args.at ≡ g.row.N = omega arith in
    let told = rw here at c.has_long.ensures in
    short-lanes (mode_numbered g.row.MODE) g.row.N c.args.src.now c.args.at (bits_of 64 c.args.bits) c.requires.inside (omega (arith, c.requires.most, length-bits_of 64 c.args.bits)) (twice c.has_long.result _ told short) k h set needed
