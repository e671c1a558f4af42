-- Lanes of vectors and of masks, at every width.
use Rattle.std.proofs.Common.{◌≡◌, ℕ, ◌<◌, ◌≤◌, ◌^◌, ◌+◌, ◌*◌, ◌/◌, ◌%◌, Bool, true, false, cond, ◌||◌, ◌&&◌, List, [], ◌∷◌, ◌++◌, length, drop, map, nat_eq, bit_or, bit_and, get_or, refl, sym, ap, ◌∙◌, zero, suc, arith}
use Rattle.std.proofs.Math.Nat.{mod-eq_of_lt}
use Rattle.std.proofs.Math.Pow.{pow_mono}
use Rattle.std.proofs.lemmas.Bool.{agree_below, agree_below_at}
use Rattle.std.proofs.lemmas.List.{length-map, get_or-map, ext_get_or}
use Rattle.std.proofs.lemmas.Nat.{and_mod, and_shr, or_mod, or_shr}
use Rattle.std.proofs.lemmas.Simd.{put_chunk_is, length-zip2, tops_compared, mask_l-lt}
use Rattle.std.specs.Simd.Lanes.{zip2, mask_l, put_chunk, top}
use mir.Syntax.{w8}
use Rattle.escape_lanes.specs.Bits.{bits_of}
use Rattle.escape_lanes.specs.Lanes.{AreBytes}

-- the bits above the lowest
mask-half : (b : Bool) (m : ℕ) → (cond b 1 0 + 2 * m) / 2 ≡ m
mask-half true m = omega arith
mask-half false m = omega arith

-- the lowest bit
mask-bit : (b : Bool) (m : ℕ) → nat_eq ((cond b 1 0 + 2 * m) % 2) 1 ≡ b
mask-bit true m = let e : (1 + 2 * m) % 2 ≡ 1 = omega arith in rw e refl
mask-bit false m = let e : (0 + 2 * m) % 2 ≡ 0 = omega arith in rw e refl

-- the bits of the number that has these bits
pub bits-mask : (bs : List Bool) (k : ℕ) → length bs ≡ k → bits_of k (mask_l bs) ≡ bs
unfolding bits_of
bits-mask [] zero h = refl
bits-mask [] (suc k) h = absurd (omega arith)
bits-mask (b ∷ bs) zero h = absurd (omega arith)
bits-mask (b ∷ bs) (suc k) h = rw (mask-bit b (mask_l bs), mask-half b (mask_l bs), bits-mask bs k (omega arith))

-- the number that has a bit for each lane of two vectors that passes the test t
module _ (t : ℕ → ℕ → Bool) (n : ℕ) (xs ys : List ℕ) (l : length xs ≡ n) (r : length ys ≡ n) (few : n ≤ 64) where
  -- a truth value for each
  length-both : length (zip2 t xs ys) ≡ n
  length-both = length-zip2 t xs ys (l ∙ sym r) ∙ l

  -- it has no bit past the last lane
  small : mask_l (zip2 t xs ys) < 2 ^ n
  small = rw length-both at (mask_l-lt (zip2 t xs ys))

  -- the number, with no word of vectors
  counted : mask_l (map (top 7) (zip2 (λ a b. cond (t a b) 255 0) xs ys)) % 2 ^ 64 ≡ mask_l (zip2 t xs ys)
  counted =
      let most : 2 ^ n ≤ 2 ^ 64 = pow_mono {i = n} {j = 64} few in
      ap (λ bs. mask_l bs % 2 ^ 64) (tops_compared w8 t xs ys) ∙ mod-eq_of_lt (omega (arith, small, most))

  pub bits-below : mask_l (map (top 7) (zip2 (λ a b. cond (t a b) 255 0) xs ys)) % 2 ^ 64 < 2 ^ n
  bits-below = rw counted small

  -- its bits are the lanes
  pub bits-set : bits_of n (mask_l (map (top 7) (zip2 (λ a b. cond (t a b) 255 0) xs ys)) % 2 ^ 64) ≡ zip2 t xs ys
  bits-set = rw counted (bits-mask (zip2 t xs ys) n length-both)

-- a store of a vector at the front of a slice
pub stored_first : (d l : List ℕ) (n : ℕ) → length l ≡ n → n ≤ length d → put_chunk 0 d l ≡ l ++ drop n d
stored_first d l n e h = put_chunk_is 0 d l (omega arith) ∙ rw e refl

-- two tests that agree on every byte
pub map-agree : (f g : ℕ → Bool) → ((b : ℕ) → b < 256 → f b ≡ g b) → (n : ℕ) (v : List ℕ) → AreBytes n v → map f v ≡ map g v
map-agree f g same n v bytes =
    ext_get_or false (map f v) (map g v) (length-map v f ∙ sym (length-map v g)) (λ i h.
    let lt : i < length v = omega (arith, length-map v f) in
    let k : i < n = omega (arith, bytes.full) in
    get_or-map f v i 0 false lt ∙ same (get_or v i 0) (bytes.small i k) ∙ sym (get_or-map g v i 0 false lt))

-- the same by computation for each of the 256
pub map-bytes : (f g : ℕ → Bool) (n : ℕ) (v : List ℕ) → AreBytes n v → agree_below f g 256 ≡ true → map f v ≡ map g v
map-bytes f g n v bytes same = map-agree f g (λ b h. agree_below_at f g 256 b same h) n v bytes

-- an or of two bits
pub bit-or : (p q : ℕ) → p < 2 → q < 2 → nat_eq (bit_or p q) 1 ≡ (nat_eq p 1 || nat_eq q 1)
bit-or zero zero hp hq = refl
bit-or zero (suc zero) hp hq = refl
bit-or (suc zero) zero hp hq = refl
bit-or (suc zero) (suc zero) hp hq = refl
bit-or zero (suc (suc q)) hp hq = absurd (omega arith)
bit-or (suc zero) (suc (suc q)) hp hq = absurd (omega arith)
bit-or (suc (suc p)) q hp hq = absurd (omega arith)

-- an and of two bits
bit-and : (p q : ℕ) → p < 2 → q < 2 → nat_eq (bit_and p q) 1 ≡ (nat_eq p 1 && nat_eq q 1)
bit-and zero zero hp hq = refl
bit-and zero (suc zero) hp hq = refl
bit-and (suc zero) zero hp hq = refl
bit-and (suc zero) (suc zero) hp hq = refl
bit-and zero (suc (suc q)) hp hq = absurd (omega arith)
bit-and (suc zero) (suc (suc q)) hp hq = absurd (omega arith)
bit-and (suc (suc p)) q hp hq = absurd (omega arith)

-- an or of two numbers, bit by bit
pub bits_or : (k m n : ℕ) → bits_of k (bit_or m n) ≡ zip2 ◌||◌ (bits_of k m) (bits_of k n)
unfolding bits_of
bits_or zero m n = refl
bits_or (suc k) m n = rw (or_mod m n 1, or_shr m n 1, bit-or (m % 2) (n % 2) (omega arith) (omega arith), bits_or k (m / 2) (n / 2)) refl

-- the same for an and
pub bits_and : (k m n : ℕ) → bits_of k (bit_and m n) ≡ zip2 ◌&&◌ (bits_of k m) (bits_of k n)
unfolding bits_of
bits_and zero m n = refl
bits_and (suc k) m n = rw (and_mod m n 1, and_shr m n 1, bit-and (m % 2) (n % 2) (omega arith) (omega arith), bits_and k (m / 2) (n / 2)) refl
