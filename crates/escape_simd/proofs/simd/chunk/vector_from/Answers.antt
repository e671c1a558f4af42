use Rattle.escape_simd.proofs.Words.{◌≡◌, ◌-◌, ◌+◌, ◌∙◌, ℕ, List, length, length-drop, length-take-le, take, drop, ap, arith, bytes_of, mode_numbered, mask_from, whole_mask}
use Rattle.escape_simd.proofs.Lanes.{mask-left}
use Rattle.escape_simd.proofs.Vectors.{advanced-bordered, vector-left}
use Rattle.escape_simd.proofs.simd.chunk.vector_from.Goals as goal

pub skip-rest-requires : goal.skip-rest-requires
skip-rest-requires g c =
    let r = c.requires in let src : List ℕ = c.args.src.now in let at : ℕ = c.args.at in let several = g.met.V.Classifier.several in
    let long = ap (λ m. length m.bytes) r.0 ∙ length-take-le g.row.N (drop at src) (omega (arith, length-drop at src, r.2)) in
    (omega arith, (ap (λ m. m.from) r.0, omega (arith, r.1.near), omega (arith, long, r.1.near, several)))

pub escape_by_mask-requires : goal.escape_by_mask-requires
escape_by_mask-requires g c =
    let r = c.requires in let p = r.1 in let mode = mode_numbered g.row.MODE in let n : ℕ = g.row.N in let src : List ℕ = c.args.src.now in let at : ℕ = c.args.at in let from : ℕ = c.args.from in
    let there : at + (from - at) ≡ from = omega (arith, p.whole) in
    let told = c.skip-rest.ensures ∙ ap (λ m. mask_from (drop (from - at) m.bytes) 0 m.stored) r.0 ∙ mask-left src at n (from - at) (omega (arith, p.near, p.whole, g.met.V.Classifier.several)) ∙ ap (λ k. whole_mask (take (n - (from - at)) (drop k src))) there in
    (omega arith, (omega arith, (told, vector-left mode n src at from c.args.to (length (bytes_of c.args.target.now)) g.met.V.Classifier.several p r.2 r.3)))

pub returns : goal.returns
returns g c = advanced-bordered (omega (arith, c.requires.1.whole, c.requires.1.near, g.met.V.Classifier.several)) c.escape_by_mask.ensures
