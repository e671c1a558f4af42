use Rattle.escape_simd.proofs.Words.{◌≡◌, ◌+◌, ◌-◌, ◌∙◌, ◌++◌, ℕ, List, length, length-drop, take, drop, replicate, ap, arith, take_all, take-append_seam}
use Rattle.escape_simd.proofs.output.clean.mask_at.Goals as goal

pub returns-then-count-eq-N : goal.returns-then-count-eq-N
returns-then-count-eq-N g c =
    let whole : 32 ≡ c.args.count = omega (arith, c.if-count-eq-N.true) in
    let told = c.classify.ensures.told in record { bytes = ap (λ m. m.bytes) told ∙ ap (λ n. take n (drop c.args.at c.args.src.now)) whole; from = ap (λ m. m.from) told }

pub classify_front-requires : goal.classify_front-requires
classify_front-requires g c =
    let src : List ℕ = c.args.src.now in let at : ℕ = c.args.at in let count : ℕ = c.args.count in
    let ends : at + count ≡ length src = c.requires.last (omega (arith, c.requires.few, c.if-count-eq-N.false)) in
    let here : length src - count ≡ at = omega (arith, ends) in
    let all : take (length src - at) (drop at src) ≡ drop at src = take_all (length src - at) (drop at src) (omega (arith, length-drop at src)) in
    let loaded = c.load_last.ensures ∙ ap (λ k. drop k src ++ replicate (32 - count) 0) here in
    (omega arith, (omega (arith, ap length all, length-drop at src, ends, c.if-count-eq0.false), omega (arith, ap length all, length-drop at src, ends, c.requires.few), rw all (ap (take (length (drop at src))) loaded ∙ take-append_seam (drop at src) (replicate (32 - count) 0))))

pub returns : goal.returns
returns g c =
    let src : List ℕ = c.args.src.now in let at : ℕ = c.args.at in let count : ℕ = c.args.count in
    let ends : at + count ≡ length src = c.requires.last (omega (arith, c.requires.few, c.if-count-eq-N.false)) in
    let here : length src - at ≡ count = omega (arith, ends) in
    let told = c.classify_front.ensures.told in record { bytes = ap (λ m. m.bytes) told ∙ ap (λ n. take n (drop at src)) here; from = ap (λ m. m.from) told }
