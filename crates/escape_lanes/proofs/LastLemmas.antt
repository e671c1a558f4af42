-- The last bytes of a text in a vector: words that are joined, lanes that move down, and halves.
use Rattle.std.proofs.Common.{Fits, ◌≡◌, ℕ, zero, suc, ◌+◌, ◌-◌, ◌*◌, ◌/◌, ◌%◌, ◌^◌, ◌<◌, ◌≤◌, List, [], ◌∷◌, ◌++◌, length, take, drop, replicate, get_or, bit_or, refl, sym, ap, ◌∙◌, arith, length-drop}
use native.Mathlib.Nat.{pow-suc}
use Rattle.std.proofs.Math.Nat.{add-zero, add-sub_assoc}
use Rattle.std.specs.Int.Bits.{or_self, or_shifted_r}
use Rattle.std.proofs.lemmas.List.{append_assoc, take-append-drop, drop-drop, get_or-drop, replicate-append-replicate}
use Rattle.std.specs.Simd.Lanes.{number_l, digits_l}
use mir.Syntax.{w8}

-- each element is a byte
abbrev pub AreSmall : List ℕ → Type 0
AreSmall xs = (k : ℕ) → Fits w8 (get_or xs k 0)

-- the first, the middle and the last of one to three bytes at their places
or-three : (xs : List ℕ) → AreSmall xs → 0 < length xs → length xs < 4
    → bit_or (get_or xs 0 0) (bit_or (get_or xs (length xs / 2) 0 * 2 ^ (8 * (length xs / 2)) % 2 ^ 64) (get_or xs (length xs - 1) 0 * 2 ^ (8 * (length xs - 1)) % 2 ^ 64)) ≡ number_l 256 xs
or-three [] small some few = absurd (omega arith)
or-three (x ∷ []) small some few =
    let bx = (small 0).fits in
    let e : x * 1 % 2 ^ 64 ≡ x = omega arith in
    rw (e, or_self x, or_self x) (omega arith)
or-three (x ∷ y ∷ []) small some few =
    let bx = (small 0).fits in let by = (small 1).fits in
    let e : y * 256 % 2 ^ 64 ≡ y * 2 ^ 8 = omega arith in
    rw (e, or_self (y * 2 ^ 8)) (omega (arith, or_shifted_r y 8 x bx))
or-three (x ∷ y ∷ z ∷ []) small some few =
    let bx = (small 0).fits in let by = (small 1).fits in let bz = (small 2).fits in
    let e : y * 256 % 2 ^ 64 ≡ y * 2 ^ 8 = omega arith in
    let f : z * 65536 % 2 ^ 64 ≡ z * 2 ^ 16 = omega arith in
    let g : z * 2 ^ 16 + y * 2 ^ 8 ≡ (z * 256 + y) * 2 ^ 8 = omega arith in
    rw (e, f, or_shifted_r z 16 (y * 2 ^ 8) (omega arith), g) (omega (arith, or_shifted_r (z * 256 + y) 8 x bx))
or-three (w ∷ x ∷ y ∷ z ∷ xs) small some few = absurd (omega arith)

-- a number of bytes has eight bits for each
pub number-lt : (xs : List ℕ) → AreSmall xs → number_l 256 xs < 256 ^ length xs
number-lt [] small = omega arith
number-lt (x ∷ xs) small = let byte = (small 0).fits in omega (arith, number-lt xs (λ k. small (suc k)), pow-suc 256 (length xs))

-- the bytes of a number are those that it was made of, and then zeros
pub digits-number : (n : ℕ) (xs : List ℕ) → AreSmall xs → length xs ≤ n → digits_l 256 n (number_l 256 xs) ≡ xs ++ replicate (n - length xs) 0
digits-number zero [] small le = refl
digits-number zero (x ∷ xs) small le = absurd (omega arith)
digits-number (suc n) [] small le =
    let e : suc n - 0 ≡ suc (n - 0) = omega arith in
    rw e (ap (λ ys. 0 ∷ ys) (digits-number n [] small (omega arith)))
digits-number (suc n) (x ∷ xs) small le =
    let byte = (small 0).fits in
    let m = number_l 256 xs in
    let low : (x + 256 * m) % 256 ≡ x = omega arith in
    let high : (x + 256 * m) / 256 ≡ m = omega arith in
    let e : suc n - suc (length xs) ≡ n - length xs = omega arith in
    rw (low, high, e) (ap (λ ys. x ∷ ys) (digits-number n xs (λ k. small (suc k)) (omega arith)))

-- the last count bytes of a text
module _ (src : List ℕ) (count : ℕ) (small : AreSmall src) (inside : count ≤ length src) where
  -- they are count bytes
  length-last : length (drop (length src - count) src) ≡ count
  length-last = omega (arith, length-drop (length src - count) src)

  -- and the last few of them are the text's
  pub drop-last : (k : ℕ) → k ≤ count → drop (count - k) (drop (length src - count) src) ≡ drop (length src - k) src
  drop-last k le = drop-drop (count - k) (length src - count) src ∙ ap (λ i. drop i src) (omega arith)

  -- each is a byte
  small-last : AreSmall (drop (length src - count) src)
  small-last k = rw (get_or-drop (length src - count) src k 0) (small (length src - count + k))

  -- the bytes of their number are they, and then zeros
  pub digits-last : count ≤ 16 → digits_l 256 16 (number_l 256 (drop (length src - count) src)) ≡ drop (length src - count) src ++ replicate (16 - count) 0
  digits-last few =
      let last = drop (length src - count) src in
      digits-number 16 last small-last (omega (arith, length-last)) ∙ ap (λ (k : ℕ). last ++ replicate (16 - k) 0) length-last

  -- one to three, as the first, the middle and the last
  pub number_up_to_three : 0 < count → count < 4
      → bit_or (get_or src (length src - count) 0) (bit_or (get_or src (length src - count + count / 2) 0 * 2 ^ (8 * (count / 2)) % 2 ^ 64) (get_or src (length src - count + count - 1) 0 * 2 ^ (8 * (count - 1)) % 2 ^ 64))
      ≡ number_l 256 (drop (length src - count) src)
  number_up_to_three some few =
      let at = length src - count in let last = drop at src in
      let first : get_or src at 0 ≡ get_or last 0 0 = ap (λ i. get_or src i 0) (sym (add-zero at)) ∙ sym (get_or-drop at src 0 0) in
      let middle : get_or src (at + count / 2) 0 ≡ get_or last (count / 2) 0 = sym (get_or-drop at src (count / 2) 0) in
      let end : get_or src (at + count - 1) 0 ≡ get_or last (count - 1) 0 = ap (λ i. get_or src i 0) (add-sub_assoc some at) ∙ sym (get_or-drop at src (count - 1) 0) in
      let e = rw length-last at (or-three last small-last (omega (arith, length-last)) (omega (arith, length-last))) in
      rw (first, middle, end) e

  -- in the low one of two vectors of w lanes
  pub low_half : (w : ℕ) → count ≤ w
      → (drop (length src - count) src ++ replicate (w - count) 0) ++ replicate w 0 ≡ drop (length src - count) src ++ replicate (2 * w - count) 0
  low_half w le =
      let last = drop (length src - count) src in
      append_assoc last (replicate (w - count) 0) (replicate w 0)
      ∙ ap (λ zeros. last ++ zeros) (replicate-append-replicate (w - count) w 0 ∙ ap (λ k. replicate k 0) (omega arith))

  -- in both of them
  pub both_halves : (w : ℕ) → w ≤ count → count ≤ 2 * w
      → take w (drop (length src - count) src) ++ (drop (length src - (count - w)) src ++ replicate (w - (count - w)) 0) ≡ drop (length src - count) src ++ replicate (2 * w - count) 0
  both_halves w several few =
      let last = drop (length src - count) src in
      let e : drop (length src - (count - w)) src ≡ drop w last = rw (← drop-last (count - w) (omega arith)) (ap (λ i. drop i last) (omega arith)) in
      let k : w - (count - w) ≡ 2 * w - count = omega arith in
      rw (e, k) (sym (append_assoc (take w last) (drop w last) _) ∙ ap (λ xs. xs ++ replicate (2 * w - count) 0) (take-append-drop w last))
