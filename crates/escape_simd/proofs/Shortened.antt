-- Bytes with a short escape, and what stands for them.
use Rattle.escape_simd.proofs.Words.{min, ◌≡◌, ℕ, ◌+◌, ◌*◌, ◌/◌, ◌%◌, ◌<◌, true, false, List, [], ◌∷◌, length, ap, sym, take, drop, map, ◌∙◌, arith, drop-map, take-map, take-take, nat_tests, Mode, needs_escape, replacement, shortened, source_len}
use Rattle.std.proofs.lemmas.List.{take_min}
use Rattle.escape_simd.proofs.Lanes.{part-later}
use Rattle.escape_simd.proofs.ReplacementLemmas.{source_len-one}

-- a short escape is a reverse solidus and the shortened byte
pub short-escape : (mode : Mode) (b : ℕ) → b < 256 → needs_escape mode b ≡ true → length (replacement mode b) ≡ 2 → replacement mode b ≡ 0x5c ∷ shortened b ∷ []
unfolding replacement shortened
short-escape mode b h needed two = grind (arith, nat_tests)

-- it begins no separator: e2 alone has one byte
pub source_len-short : (mode : Mode) (b : ℕ) (bs : List ℕ) → length (replacement mode b) ≡ 2 → source_len mode (b ∷ bs) ≡ 1
unfolding replacement
source_len-short mode b bs two = grind (arith, nat_tests, source_len-one)

-- a byte that needs no escape is not changed, as it is in each mode whose control characters need one
abbrev pub KeepsClean : Mode → Type 0
KeepsClean mode = (b : ℕ) → needs_escape mode b ≡ false → shortened b ≡ b

-- so does each that has an escape of two bytes
pub keeps-clean : (mode : Mode) (b : ℕ) → length (replacement mode b) ≡ 2 → KeepsClean mode
unfolding shortened replacement
keeps-clean mode b two = λ x clean. grind (arith, nat_tests)

-- the half of a piece that is the block of that number
pub block-half : (src : List ℕ) (at block : ℕ) (v half : List ℕ) → v ≡ map shortened (take 16 (drop (at + 16 * (block / 2)) src)) → take 8 half ≡ take 8 (drop (8 * (block % 2)) v)
    → take 8 half ≡ take 8 (map shortened (take 16 (drop (at + 8 * block) src)))
block-half src at block v half is e =
    let here : at + 16 * (block / 2) + 8 * (block % 2) ≡ at + 8 * block = omega arith in
    let eight = rw here at (part-later src (at + 16 * (block / 2)) 16 (8 * (block % 2)) 8 (omega arith)) in
    e ∙ rw is (simp (drop-map, take-map, eight, take-take 8 16 (drop (at + 8 * block) src) (omega arith)))

-- and it begins with a text's first bytes, as many as a mask is of
pub block-told : (text held half : List ℕ) (m : ℕ) → held ≡ take m text → length held ≡ m → take 8 half ≡ take 8 (map shortened (take 16 text)) → take (min 8 (length held)) half ≡ map shortened (take 8 held)
block-told text held half m is long e =
    let k : ℕ = min 8 (length held) in
    sym (take-take k 8 half (omega arith)) ∙ ap (take k) e ∙ take-take k 8 (map shortened (take 16 text)) (omega arith) ∙ take-map shortened k (take 16 text)
    ∙ ap (map shortened) (take-take k 16 text (omega arith) ∙ sym (take-take k m text (omega (arith, long))) ∙ sym (ap (take k) is) ∙ take_min 8 held)
