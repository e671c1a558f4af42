-- The nibble tables, and the look-ups of a vector's lanes in them.
use Rattle.std.proofs.Common.{◌≡◌, ℕ, ◌+◌, ◌-◌, ◌*◌, ◌/◌, ◌%◌, ◌^◌, ◌<◌, List, ◌++◌, length, replicate, map, get_or, slice_index, bit_and, sym, ap, ◌∙◌, inl, inr, arith, length-append}
use Rattle.std.proofs.lemmas.Bool.Decides.{leb_tells}
use Rattle.std.proofs.lemmas.List.{get_or-append_right, get_or_append_left, get_or-map, ext_get_or, length-map}
use Rattle.std.proofs.lemmas.Nat.{and_le_r}
use Rattle.std.proofs.lemmas.Simd.{swz_l, SwzOk, SwzOk-from_below, length-swz_l, get_or-swz_l_below, zip2_splat, map-map, Each1-from_get_or}
use Rattle.std.specs.Simd.Lanes.{zip2}
use mir.Syntax.{w8}
use Rattle.escape_lanes.specs.Lanes.{AreBelow, AreBytes}
use Rattle.escape_lanes.specs.Nibble.{at_low_half, at_high_half}
use Rattle.escape_lanes.proofs.FlagLemmas.{below-map}

-- t has the table s in each of its blocks of sixteen, n lanes in all
pub record Repeats (s : List ℕ) (n : ℕ) (t : List ℕ) : Type 0 where
  pub full : length t ≡ n
  pub again : (k : ℕ) → k < n → get_or t k 0 ≡ get_or s (k % 16) 0

-- once
pub once : (s : List ℕ) → length s ≡ 16 → Repeats s 16 s
once s full = record { full = full; again = λ k h. ap (λ i. get_or s i 0) (omega arith) }

-- and twice as often
pub twice : {s t u : List ℕ} (n : ℕ) → n % 16 ≡ 0 → Repeats s n t → u ≡ t ++ t → Repeats s (n + n) u
twice {s} {t} n blocks r is = rw is (record {
  full = length-append t t ∙ omega (arith, r.full);
  again = λ k h. elim (leb_tells n k) [
    | inl past ↦ get_or-append_right t t n k 0 r.full past.1 ∙ r.again (k - n) (omega (arith, past.1)) ∙ ap (λ i. get_or s i 0) (omega (arith, past.1))
    | inr under ↦ get_or_append_left t t 0 k (omega (arith, r.full, under.1)) ∙ r.again k under.1
  ];
})

-- look-ups at places below 16, one for each lane of a vector
module _ (n : ℕ) (js : List ℕ) (places : AreBelow 16 n js) (blocks : n % 16 ≡ 0) where
  -- they stay within their blocks
  pub places_ok : SwzOk w8 16 n 0 js
  places_ok =
      let l = places.full in
      SwzOk-from_below w8 16 (n / 16) n 0 js (omega arith) (omega arith)
      (Each1-from_get_or (λ j. j < 16) js 0 (λ i h. places.small i (omega arith)))

  -- in the table s
  pub looked_up : (t s : List ℕ) → Repeats s n t → swz_l w8 16 t 0 js ≡ map (slice_index s) js
  looked_up t s r =
      let l = length-swz_l w8 16 t 0 js in
      ext_get_or 0 _ _ (l ∙ sym (length-map js (slice_index s))) (λ i h.
      let lt : i < n = omega (arith, l, places.full) in
      let j : get_or js i 0 < 16 = places.small i lt in
      let k : 16 * ((0 + i) / 16) + get_or js i 0 < n = omega arith in
      let e : (16 * ((0 + i) / 16) + get_or js i 0) % 16 ≡ get_or js i 0 = omega arith in
      get_or-swz_l_below w8 16 t 0 js i (omega (arith, l)) j
      ∙ r.again _ k
      ∙ ap (slice_index s) e
      ∙ sym (get_or-map (slice_index s) js i 0 0 (omega (arith, l))))

-- the places of the halves of bytes
module _ (n : ℕ) (v : List ℕ) (bytes : AreBytes n v) where
  -- by the low half
  low : zip2 bit_and v (replicate n 15) ≡ map (λ b. bit_and b 15) v
  low = zip2_splat bit_and v n 15 bytes.full

  -- by the high half
  high : zip2 (λ a b. a / 2 ^ b) v (replicate n 4) ≡ map (λ b. b / 16) v
  high = zip2_splat (λ a b. a / 2 ^ b) v n 4 bytes.full

  -- each is below 16
  pub low_places : AreBelow 16 n (zip2 bit_and v (replicate n 15))
  low_places = rw low (below-map 16 (λ b. bit_and b 15) (λ b h. omega (arith, and_le_r b 15)) n v bytes)

  pub high_places : AreBelow 16 n (zip2 (λ a b. a / 2 ^ b) v (replicate n 4))
  high_places = rw high (below-map 16 (λ b. b / 16) (λ b h. omega arith) n v bytes)

  -- what a table has there
  pub low-looked_up : (s : List ℕ) → map (slice_index s) (zip2 bit_and v (replicate n 15)) ≡ map (at_low_half s) v
  low-looked_up s = ap (map (slice_index s)) low ∙ map-map (slice_index s) (λ b. bit_and b 15) v

  pub high-looked_up : (s : List ℕ) → map (slice_index s) (zip2 (λ a b. a / 2 ^ b) v (replicate n 4)) ≡ map (at_high_half s) v
  high-looked_up s = ap (map (slice_index s)) high ∙ map-map (slice_index s) (λ b. b / 16) v
