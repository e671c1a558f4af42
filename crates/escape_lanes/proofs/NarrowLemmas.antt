-- Four bits a lane as bytes.
use Rattle.std.proofs.Common.{◌≡◌, ℕ, zero, suc, ◌+◌, ◌*◌, ◌/◌, ◌%◌, ◌<◌, true, not, ◌∷◌, length, map, nat_eq, nat_le, bit_and, bit_or, get_or, refl, ap, ◌∙◌, arith}
use Rattle.std.proofs.lemmas.Bool.{agree_below_at, eqb-true}
use Rattle.std.specs.Simd.Lanes.{number_l, digits_l}
use Rattle.escape_lanes.specs.Bits.{groups_of, nibbles_of}
use Rattle.escape_lanes.specs.Lanes.{AreBytes, flagged_lanes}

-- both halves of a byte, each in a byte of its own, and 0x7f more
abbrev pub apart : ℕ → ℕ
apart b = (bit_and (bit_or b (b * 16 % 65536)) 3855 + 32639) % 65536

apart-is : (b : ℕ) → b < 256 → apart b ≡ b % 16 + 127 + 256 * (b / 16 + 127)
apart-is b small = eqb-true (apart b) (b % 16 + 127 + 256 * (b / 16 + 127)) (agree_below_at (λ b. nat_eq (apart b) (b % 16 + 127 + 256 * (b / 16 + 127))) (λ b. true) 256 b refl small)

-- which has the top bit where a half isn't 0
half-flagged : (p : ℕ) → p < 16 → nat_le 0x80 (p + 127) ≡ not (nat_eq p 0)
half-flagged p small = agree_below_at (λ p. nat_le 0x80 (p + 127)) (λ p. not (nat_eq p 0)) 16 p refl small

-- the halves of k bytes of a number, each in a lane
widened : (k n : ℕ) → flagged_lanes (digits_l 256 (2 * k) (number_l 65536 (map apart (digits_l 256 k n)))) ≡ groups_of 4 (2 * k) n
unfolding groups_of
widened zero n = refl
widened (suc k) n =
    let b : ℕ = n % 256 in let r = number_l 65536 (map apart (digits_l 256 k (n / 256))) in
    let e : 2 * suc k ≡ suc (suc (2 * k)) = omega arith in
    let a : apart b ≡ b % 16 + 127 + 256 * (b / 16 + 127) = apart-is b (omega arith) in
    let low : (apart b + 65536 * r) % 256 ≡ n % 16 + 127 = omega (arith, a) in
    let high : (apart b + 65536 * r) / 256 % 256 ≡ n / 16 % 16 + 127 = omega (arith, a) in
    let more : (apart b + 65536 * r) / 256 / 256 ≡ r = omega (arith, a) in
    let rest : n / 16 / 16 ≡ n / 256 = omega arith in
    rw (e, low, high, more, rest, half-flagged (n % 16) (omega arith), half-flagged (n / 16 % 16) (omega arith)) (ap (λ cs. not (nat_eq (n % 16) 0) ∷ not (nat_eq (n / 16 % 16) 0) ∷ cs) (widened k (n / 256)))

-- sixteen lanes of four bits
pub nibbles-widened : (n : ℕ) → flagged_lanes (digits_l 256 16 (number_l 65536 (map apart (digits_l 256 8 (n + 0))))) ≡ nibbles_of 16 n
nibbles-widened n = let e : n + 0 ≡ n = omega arith in ap (λ m. flagged_lanes (digits_l 256 16 (number_l 65536 (map apart (digits_l 256 8 m))))) e ∙ widened 8 n

-- digits are bytes
digits-full : (k m : ℕ) → length (digits_l 256 k m) ≡ k
digits-full zero m = refl
digits-full (suc k) m = ap suc (digits-full k (m / 256))

digits-small : (k m i : ℕ) → i < k → get_or (digits_l 256 k m) i 0 < 256
digits-small zero m i few = absurd (omega (arith, few))
digits-small (suc k) m zero few = omega arith
digits-small (suc k) m (suc i) few = digits-small k (m / 256) i (omega (arith, few))

pub digits-bytes : (n m : ℕ) → AreBytes n (digits_l 256 n m)
digits-bytes n m = record { full = digits-full n m; small = digits-small n m }
