-- The bits of a number, lowest first: more and fewer of them, a shift, the first set one cleared, and how many are set.
use Rattle.std.proofs.Common.{◌≡◌, ℕ, zero, suc, ◌+◌, ◌-◌, min, ◌*◌, ◌/◌, ◌%◌, ◌^◌, ◌≤◌, ◌<◌, Bool, false, not, cond, ◌&&◌, List, [], ◌∷◌, ◌++◌, length, take, drop, replicate, nat_eq, bit_and, refl, sym, ap, ap₂, ◌∙◌, inl, inr, arith, add-one, suc-mul}
use Rattle.std.proofs.lemmas.Bool.{cases_eq}
use Rattle.std.proofs.lemmas.Bool.Decides.{nat_tests}
use Rattle.std.proofs.lemmas.List.Sums.{sum_by-cons}
use Rattle.std.proofs.lemmas.Nat.{and_mask, mod-pow-add, mod_below, pow-add, pow_pos, shr-shr, shr_below, shr_high}
use Rattle.std.specs.Int.Count.{count_trailing_zeros}
use Rattle.std.specs.Int.RustNames.{count_ones}
use Rattle.std.specs.List.{count_by}
use lib.Bits.{and_step, and_self}
use lib.Count.{ones, ones_in, ones_step, under}
use Rattle.escape_lanes.specs.Bits.{bits_of, first_set, none_set, clear_first, clear_last, gaps, length-bits_of}

-- one bit more
pub bits-suc : (k x : ℕ) → bits_of (suc k) x ≡ nat_eq (x % 2) 1 ∷ bits_of k (x / 2)
unfolding bits_of
bits-suc k x = refl

-- no bits
bits-nil : (x : ℕ) → bits_of 0 x ≡ []
unfolding bits_of
bits-nil x = refl

-- no bit of 0 is set
pub bits-zero : (k : ℕ) → bits_of k 0 ≡ replicate k false
unfolding bits_of
bits-zero zero = refl
bits-zero (suc k) = ap (λ bs. false ∷ bs) (bits-zero k)

-- a number of n bits has no more of them
pub bits-wide : (n j x : ℕ) → x < 2 ^ n → bits_of (n + j) x ≡ bits_of n x ++ replicate j false
bits-wide zero j x h =
    let none : x ≡ 0 = omega arith in
    let count : 0 + j ≡ j = omega arith in
    rw (none, count, bits-nil 0) (bits-zero j)
bits-wide (suc n) j x h =
    let count : suc n + j ≡ suc (n + j) = omega arith in
    let half : x / 2 < 2 ^ n = shr_below x n 1 (rw add-one h) in
    rw (count, bits-suc (n + j) x, bits-suc n x, bits-wide n j (x / 2) half) refl

-- the first m bits
pub bits-take : (m j x : ℕ) → take m (bits_of (m + j) x) ≡ bits_of m x
bits-take zero j x = sym (bits-nil x)
bits-take (suc m) j x =
    let count : suc m + j ≡ suc (m + j) = omega arith in
    rw (count, bits-suc (m + j) x, bits-suc m x) (ap (λ bs. nat_eq (x % 2) 1 ∷ bs) (bits-take m j (x / 2)))

-- the bits past the first m
pub bits-drop : (m j x : ℕ) → drop m (bits_of (m + j) x) ≡ bits_of j (x / 2 ^ m)
bits-drop zero j x =
    let count : 0 + j ≡ j = omega arith in
    let whole : x / 2 ^ 0 ≡ x = omega arith in
    rw (count, whole) refl
bits-drop (suc m) j x =
    let count : suc m + j ≡ suc (m + j) = omega arith in
    let place : 1 + m ≡ suc m = omega arith in
    let rest : x / 2 / 2 ^ m ≡ x / 2 ^ suc m = rw place at (shr-shr x 1 m) in
    rw (count, bits-suc (m + j) x, ← rest) (bits-drop m j (x / 2))

-- the bits of a number that is shifted down
pub bits_shifted : (k m x : ℕ) → m ≤ k → x < 2 ^ k → bits_of k (x / 2 ^ m) ≡ drop m (bits_of k x) ++ replicate m false
bits_shifted k m x le h =
    let back : k - m + m ≡ k = omega arith in
    let more : m + (k - m) ≡ k = omega arith in
    let small : x / 2 ^ m < 2 ^ (k - m) = shr_below x (k - m) m (rw back h) in
    rw back at (bits-wide (k - m) m (x / 2 ^ m) small) ∙ ap (λ bs. bs ++ replicate m false) (rw more at (sym (bits-drop m (k - m) x)))

-- the first w bits are those of a rest
pub bits-low : (w x : ℕ) → bits_of w (x % 2 ^ w) ≡ bits_of w x
bits-low zero x = bits-nil (x % 2 ^ 0) ∙ sym (bits-nil x)
bits-low (suc w) x =
    let parts : x % 2 ^ suc w ≡ x / 2 % 2 ^ w * 2 + x % 2 = rw add-one at (mod-pow-add x w 1) in
    let last : x % 2 ^ suc w % 2 ≡ x % 2 = omega (arith, parts) in
    let half : x % 2 ^ suc w / 2 ≡ x / 2 % 2 ^ w = omega (arith, parts) in
    rw (bits-suc w (x % 2 ^ suc w), bits-suc w x, last, half) (ap (λ bs. nat_eq (x % 2) 1 ∷ bs) (bits-low w (x / 2)))

-- the bits of a rest, and none above them
bits-rest : (k m x : ℕ) → m ≤ k → bits_of k (x % 2 ^ m) ≡ take m (bits_of k x) ++ replicate (k - m) false
bits-rest k m x le =
    let more : m + (k - m) ≡ k = omega arith in
    rw more at (bits-wide m (k - m) (x % 2 ^ m) (mod_below x (2 ^ m) (pow_pos m))) ∙ ap (λ bs. bs ++ replicate (k - m) false) (bits-low m x ∙ rw more at (sym (bits-take m (k - m) x)))

-- a row of ones, shifted down
ones_shr : (d n : ℕ) → (2 ^ (d + n) - 1) / 2 ^ n ≡ 2 ^ d - 1
ones_shr d n =
    let high = pow_pos d in
    let low = pow_pos n in
    let more : suc (2 ^ d - 1) ≡ 2 ^ d = omega (arith, high) in
    let whole : 2 ^ d * 2 ^ n ≡ (2 ^ d - 1) * 2 ^ n + 2 ^ n = rw more at (suc-mul (2 ^ d - 1) (2 ^ n)) in
    let parts : 2 ^ (d + n) - 1 ≡ (2 ^ d - 1) * 2 ^ n + (2 ^ n - 1) = rw (pow-add 2 d n) (omega (arith, whole, low)) in
    rw parts (shr_high (2 ^ d - 1) n (2 ^ n - 1) (omega (arith, low)))

-- the bits that it leaves
pub bits_cleared : (k x n : ℕ) → n ≤ k → bits_of k (bit_and x ((2 ^ k - 1) / 2 ^ n)) ≡ clear_last n (bits_of k x)
bits_cleared k x n le =
    let split : k - n + n ≡ k = omega arith in
    let left : k - (k - n) ≡ n = omega arith in
    let ones : (2 ^ k - 1) / 2 ^ n ≡ 2 ^ (k - n) - 1 = rw split at (ones_shr (k - n) n) in
    rw (ones, and_mask x (k - n), length-bits_of k x) (rw left at (bits-rest k (k - n) x (omega arith)))

-- all bits cleared
pub bits_all_cleared : (k x n : ℕ) → n ≡ k → bits_of k 0 ≡ clear_last n (bits_of k x)
bits_all_cleared k x n all =
    let none : k - k ≡ 0 = omega arith in
    rw (all, length-bits_of k x, none) (bits-zero k)

-- the count goes on where the lowest bit is clear
trailing_step : (k n : ℕ) → count_trailing_zeros (suc k) n ≡ under (n % 2) (count_trailing_zeros k (n / 2))
unfolding count_trailing_zeros
trailing_step k n = refl

-- the place of the lowest set bit
pub trailing_bits : (k x : ℕ) → count_trailing_zeros k x ≡ first_set (bits_of k x)
unfolding count_trailing_zeros first_set bits_of
trailing_bits zero x = refl
trailing_bits (suc k) x =
    elim (cases_eq (x % 2) 0) [
      | inl even ↦ rw (bits-suc k x, trailing_step k x, even) (ap suc (trailing_bits k (x / 2)))
      | inr odd ↦ let one : x % 2 ≡ 1 = omega arith in rw (bits-suc k x, trailing_step k x, one) refl
    ]

-- whether the number is 0
pub zero_bits : (k x : ℕ) → x < 2 ^ k → nat_eq x 0 ≡ none_set (bits_of k x)
unfolding none_set bits_of
zero_bits zero x h = let none : x ≡ 0 = omega arith in rw none refl
zero_bits (suc k) x h =
    let rest = zero_bits k (x / 2) (shr_below x k 1 (rw add-one h)) in
    elim (cases_eq (x % 2) 0) [
      | inl even ↦
          let half : nat_eq x 0 ≡ nat_eq (x / 2) 0 = grind (arith, nat_tests) in
          rw (bits-suc k x, even, half) rest
      | inr odd ↦
          let one : x % 2 ≡ 1 = omega arith in
          let some : nat_eq x 0 ≡ false = grind (arith, nat_tests) in
          rw (bits-suc k x, one, some) refl
    ]

-- the lanes cleared after one that is clear
cleared-suc : (n : ℕ) (bs : List Bool) → false ∷ clear_first (n + 1) bs ≡ clear_first (suc n + 1) (false ∷ bs)
cleared-suc n bs = let e : suc n + 1 ≡ suc (n + 1) = omega arith in rw e refl

-- the first set bit cleared, as a number less one has all below it set and it clear
pub bits_first_cleared : (k x : ℕ) → 0 < x → x < 2 ^ k → bits_of k (bit_and x (x - 1)) ≡ clear_first (first_set (bits_of k x) + 1) (bits_of k x)
unfolding first_set
bits_first_cleared zero x some h = absurd (omega arith)
bits_first_cleared (suc k) x some h =
    let y : ℕ = bit_and x (x - 1) in
    elim (cases_eq (x % 2) 0) [
      | inl even ↦
          let half : (x - 1) / 2 ≡ x / 2 - 1 = omega arith in
          let low : min (x % 2) ((x - 1) % 2) ≡ 0 = omega arith in
          let z : ℕ = bit_and (x / 2) (x / 2 - 1) in
          let is : y ≡ z * 2 + 0 = and_step x (x - 1) ∙ ap₂ (λ u v. u * 2 + v) (ap (bit_and (x / 2)) half) low in
          let p : y % 2 ≡ 0 = omega (arith, is) in
          let q : y / 2 ≡ z = omega (arith, is) in
          let rest = bits_first_cleared k (x / 2) (omega (arith, even, some)) (shr_below x k 1 (rw add-one h)) in
          rw (bits-suc k y, bits-suc k x, p, q, even) (ap (λ bs. false ∷ bs) rest ∙ cleared-suc (first_set (bits_of k (x / 2))) (bits_of k (x / 2)))
      | inr odd ↦
          let half : (x - 1) / 2 ≡ x / 2 = omega arith in
          let low : min (x % 2) ((x - 1) % 2) ≡ 0 = omega arith in
          let is : y ≡ x / 2 * 2 + 0 = and_step x (x - 1) ∙ ap₂ (λ u v. u * 2 + v) (ap (bit_and (x / 2)) half ∙ and_self (x / 2)) low in
          let p : y % 2 ≡ 0 = omega (arith, is) in
          let q : y / 2 ≡ x / 2 = omega (arith, is) in
          let one : x % 2 ≡ 1 = omega arith in
          rw (bits-suc k y, bits-suc k x, p, q, one) refl
    ]

-- where a bit is set, the number isn't 0
pub some_bit : (k x : ℕ) → x < 2 ^ k → none_set (bits_of k x) ≡ false → 1 ≤ x
some_bit k x h some = let zero_is = zero_bits k x h in grind (arith, nat_tests, zero_is, some)

-- the count goes on after a lane
counted-cons : (b : Bool) (bs : List Bool) → count_by (λ b. b) (b ∷ bs) ≡ cond b 1 0 + count_by (λ b. b) bs
counted-cons b bs = sum_by-cons (λ c. cond c 1 0) b bs

-- no bit of 0 is set
ones-zero : count_ones 0 ≡ 0
unfolding ones ones_in
ones-zero = refl

-- a bit as a truth value
bit-value : (n : ℕ) → cond (nat_eq (n % 2) 1) 1 0 ≡ n % 2
bit-value n = elim (cases_eq (n % 2) 0) [
  | inl even ↦ rw even refl
  | inr odd ↦ let one : n % 2 ≡ 1 = omega arith in rw one refl
]

-- how many bits are set
pub ones_bits : (k x : ℕ) → x < 2 ^ k → count_ones x ≡ count_by (λ b. b) (bits_of k x)
unfolding bits_of
ones_bits zero x h = let none : x ≡ 0 = omega arith in rw none ones-zero
ones_bits (suc k) x h =
    let rest = ones_bits k (x / 2) (shr_below x k 1 (rw add-one h)) in
    let last = counted-cons (nat_eq (x % 2) 1) (bits_of k (x / 2)) in
    ones_step x ∙ omega (arith, bit-value x, rest, last)

-- none of lanes that are clear
counted-clear : (bs : List Bool) (n : ℕ) → count_by (λ b. b) (bs ++ replicate n false) ≡ count_by (λ b. b) bs
counted-clear [] zero = refl
counted-clear [] (suc n) = counted-cons false (replicate n false) ∙ omega (arith, counted-clear [] n)
counted-clear (b ∷ bs) n = counted-cons b (bs ++ replicate n false) ∙ omega (arith, counted-cons b bs, counted-clear bs n)

-- a bit put below k others, of k + 1
bits-up : (k b x : ℕ) → b < 2 → (x * 2 + b) % 2 ^ suc k ≡ x % 2 ^ k * 2 + b
bits-up k b x small =
    let parts : (x * 2 + b) % 2 ^ suc k ≡ (x * 2 + b) / 2 % 2 ^ k * 2 + (x * 2 + b) % 2 = rw add-one at (mod-pow-add (x * 2 + b) k 1) in
    let high : (x * 2 + b) / 2 ≡ x = omega arith in
    let low : (x * 2 + b) % 2 ≡ b = omega arith in
    parts ∙ ap₂ (λ u v. u % 2 ^ k * 2 + v) high low

-- one lane more
gaps-cons : (before b : Bool) (bs : List Bool) → gaps before (b ∷ bs) ≡ cond (before && not b) 1 0 + gaps b bs
unfolding gaps
gaps-cons before b bs = refl

-- no lanes
gaps-nil : (before : Bool) → gaps before [] ≡ 0
unfolding gaps
gaps-nil before = refl

-- the gaps among the first m of k bits, where b is the bit before the first
gaps-bits : (k m b x : ℕ) → b < 2 → x < 2 ^ k → count_by (λ b. b) (take m (bits_of k (bit_and (2 ^ k - 1 - x) ((x * 2 + b) % 2 ^ k)))) ≡ gaps (nat_eq b 1) (take m (bits_of k x))
gaps-bits k zero b x small h = sym (gaps-nil (nat_eq b 1))
gaps-bits zero (suc m) b x small h = rw (bits-nil (bit_and (2 ^ 0 - 1 - x) ((x * 2 + b) % 2 ^ 0)), bits-nil x) (sym (gaps-nil (nat_eq b 1)))
gaps-bits (suc k) (suc m) b x small h =
    let n : ℕ = 2 ^ suc k - 1 - x in
    let s : ℕ = (x * 2 + b) % 2 ^ suc k in
    let y : ℕ = bit_and n s in
    let double : 2 ^ suc k ≡ 2 ^ k * 2 = omega arith in
    let half : x / 2 < 2 ^ k = omega (arith, h, double) in
    let up = bits-up k b x small in
    let n_low : n % 2 ≡ 1 - x % 2 = omega (arith, h, double) in
    let n_high : n / 2 ≡ 2 ^ k - 1 - x / 2 = omega (arith, h, double) in
    let s_low : s % 2 ≡ b = omega (arith, up) in
    let s_high : s / 2 ≡ x % 2 ^ k = omega (arith, up) in
    let same : x % 2 ^ k ≡ (x / 2 * 2 + x % 2) % 2 ^ k = ap (λ z. z % 2 ^ k) (omega arith) in
    let z : ℕ = bit_and (2 ^ k - 1 - x / 2) ((x / 2 * 2 + x % 2) % 2 ^ k) in
    let is : y ≡ z * 2 + min (1 - x % 2) b = and_step n s ∙ ap₂ (λ u v. u * 2 + v) (ap₂ bit_and n_high (s_high ∙ same)) (ap₂ min n_low s_low) in
    let high : y / 2 ≡ z = omega (arith, is) in
    let low : nat_eq (y % 2) 1 ≡ (nat_eq b 1 && not (nat_eq (x % 2) 1)) = grind (arith, nat_tests, is) in
    let rest = gaps-bits k m (x % 2) (x / 2) (omega arith) half in
    rw (bits-suc k y, bits-suc k x, low, high)
    (counted-cons (nat_eq b 1 && not (nat_eq (x % 2) 1)) (take m (bits_of k z)) ∙ ap (λ c. cond (nat_eq b 1 && not (nat_eq (x % 2) 1)) 1 0 + c) rest ∙ sym (gaps-cons (nat_eq b 1) (nat_eq (x % 2) 1) (take m (bits_of k (x / 2)))))

-- the same, of a number whose last bits were cleared
pub ones-gaps : (k m x y : ℕ) → m ≤ k → x < 2 ^ k → y < 2 ^ k → bits_of k y ≡ clear_last (k - m) (bits_of k (bit_and (2 ^ k - 1 - x) (x * 2 % 2 ^ k))) → count_ones y ≡ gaps false (take m (bits_of k x))
ones-gaps k m x y le h small is =
    let z : ℕ = bit_and (2 ^ k - 1 - x) (x * 2 % 2 ^ k) in
    let left : length (bits_of k z) - (k - m) ≡ m = omega (arith, length-bits_of k z) in
    let plain : x * 2 + 0 ≡ x * 2 = omega arith in
    ones_bits k y small ∙ ap (count_by (λ b. b)) is
    ∙ rw left (counted-clear (take m (bits_of k z)) (k - m))
    ∙ rw plain at (gaps-bits k m 0 x (omega arith) h)
