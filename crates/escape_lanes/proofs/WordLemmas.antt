-- Words as eight lanes: what arithmetic on a word does to its lanes, and its flags.
use Rattle.std.proofs.Common.{◌≡◌, ℕ, zero, suc, ◌+◌, ◌-◌, ◌*◌, ◌/◌, ◌%◌, ◌^◌, ◌≤◌, ◌<◌, Bool, true, cond, List, [], ◌∷◌, ◌++◌, length, take, drop, map, replicate, nat_eq, nat_le, nat_lt, bit_and, bit_or, bit_xor, get_or, refl, sym, ap, ap₂, ◌∙◌, arith, length-append, length-drop}
use native.Mathlib.Nat.{pow-suc, mul_left_comm}
use Rattle.std.proofs.Math.Seq.{take-append_seam, drop-append_seam}
use Rattle.std.proofs.lemmas.Bool.{agree_below, agree_below_at, eqb-true}
use Rattle.std.proofs.lemmas.List.{append-nil, length-map, map-append, map-id, take-append-drop, drop-drop}
use Rattle.std.proofs.lemmas.Nat.{and_block, and_le_r, le_bytes_8, and_mod, and_shr, or_mod, or_shr, xor_lt, xor_mod, xor_shr}
use Rattle.std.proofs.lemmas.Simd.{Each1-replicate, mask_l-lt, splat_is_map, zip2_of_maps, zip2_splat}
use Rattle.std.proofs.lemmas.Slice.{take-put_mid, drop-put_mid}
use Rattle.std.specs.Int.{w64, from_le_bytes}
use Rattle.std.specs.Int.Bits.{and_zero_r, or_shifted_r}
use Rattle.std.specs.Simd.Lanes.{Each1, digits_l, number_l, zip2, mask_l}
use borrow.Rule.Slice.PartMut.{put_mid}
use Rattle.escape_lanes.specs.Bits.{bits_of}
use Rattle.escape_lanes.specs.Lanes.{flagged_lanes}
use Rattle.escape_lanes.specs.Mode.{Mode}
use Rattle.escape_lanes.specs.Replacement.{needs_escape}
use Rattle.escape_lanes.specs.Words.{lanes_of_word, lanes_of_words, word-bytes}
use Rattle.escape_lanes.proofs.FlagLemmas.{flags-by}
use Rattle.escape_lanes.proofs.LaneLemmas.{bits-mask}
use Rattle.escape_lanes.proofs.LastLemmas.{AreSmall, digits-number, number-lt}

-- ---- a word and its bytes

-- the bytes of a number below 256 ^ k are that number
number-digits : (k x : ℕ) → x < 256 ^ k → number_l 256 (digits_l 256 k x) ≡ x
number-digits zero x h = omega arith
number-digits (suc k) x h = omega (arith, number-digits k (x / 256) (omega arith))

-- the lanes of a word, as its bytes are written
pub word_to_bytes : (x : ℕ)
    → x % 256 ∷ x / 256 % 256 ∷ x / 65536 % 256 ∷ x / 16777216 % 256 ∷ x / 4294967296 % 256 ∷ x / 1099511627776 % 256 ∷ x / 281474976710656 % 256 ∷ x / 72057594037927936 % 256 ∷ []
    ≡ lanes_of_word x
unfolding lanes_of_word
word_to_bytes x =
    let two : x / 256 / 256 ≡ x / 65536 = omega arith in
    let three : x / 65536 / 256 ≡ x / 16777216 = omega arith in
    let four : x / 16777216 / 256 ≡ x / 4294967296 = omega arith in
    let five : x / 4294967296 / 256 ≡ x / 1099511627776 = omega arith in
    let six : x / 1099511627776 / 256 ≡ x / 281474976710656 = omega arith in
    let seven : x / 281474976710656 / 256 ≡ x / 72057594037927936 = omega arith in
    rw (two, three, four, five, six, seven) refl

-- the lanes of a word that was read from eight bytes
pub word-from_bytes : (bs : List ℕ) (x : ℕ) → length bs ≡ 8 → ((i : ℕ) → get_or bs i 0 < 256) → x ≡ from_le_bytes w64 bs → lanes_of_word x ≡ bs
word-from_bytes bs x full small is = sym (word_to_bytes x) ∙ le_bytes_8 bs x full small is

-- the lanes of a word that was read as a number of eight bytes
pub word-read : (bs : List ℕ) → length bs ≡ 8 → AreSmall bs → lanes_of_word (number_l 256 bs % 2 ^ 64) ≡ bs
unfolding lanes_of_word
word-read bs full small =
    let below : number_l 256 bs < 256 ^ 8 = rw full at (number-lt bs small) in
    let whole : number_l 256 bs % 2 ^ 64 ≡ number_l 256 bs = omega (arith, below) in
    let none : 8 - length bs ≡ 0 = omega (arith, full) in
    ap (digits_l 256 8) whole ∙ digits-number 8 bs small (omega (arith, full)) ∙ ap (λ (k : ℕ). bs ++ replicate k 0) none ∙ append-nil bs

-- ---- arithmetic on lanes

-- an operation on bits acts lane by lane
module _ (op : ℕ → ℕ → ℕ) (low : (a b : ℕ) → op a b % 256 ≡ op (a % 256) (b % 256)) (high : (a b : ℕ) → op a b / 256 ≡ op (a / 256) (b / 256)) where
  digits-op : (k x y : ℕ) → digits_l 256 k (op x y) ≡ zip2 op (digits_l 256 k x) (digits_l 256 k y)
  digits-op zero x y = refl
  digits-op (suc k) x y = rw (low x y, high x y, digits-op k (x / 256) (y / 256)) refl

-- the and of two words
and-words : (x y : ℕ) → lanes_of_word (bit_and x y) ≡ zip2 bit_and (lanes_of_word x) (lanes_of_word y)
unfolding lanes_of_word
and-words x y = digits-op bit_and (λ a b. and_mod a b 8) (λ a b. and_shr a b 8) 8 x y

-- the or of two words
or-words : (x y : ℕ) → lanes_of_word (bit_or x y) ≡ zip2 bit_or (lanes_of_word x) (lanes_of_word y)
unfolding lanes_of_word
or-words x y = digits-op bit_or (λ a b. or_mod a b 8) (λ a b. or_shr a b 8) 8 x y

-- the exclusive or of two words
xor-words : (x y : ℕ) → lanes_of_word (bit_xor x y) ≡ zip2 bit_xor (lanes_of_word x) (lanes_of_word y)
unfolding lanes_of_word
xor-words x y = digits-op bit_xor (λ a b. xor_mod a b 8) (λ a b. xor_shr a b 8) 8 x y

-- a sum acts lane by lane where no lane runs over
digits-sum : (k x y : ℕ) → Each1 (λ a. a < 128) (digits_l 256 k x) → Each1 (λ b. b < 128) (digits_l 256 k y) → digits_l 256 k (x + y) ≡ zip2 (λ a b. a + b) (digits_l 256 k x) (digits_l 256 k y)
digits-sum zero x y l r = refl
digits-sum (suc k) x y l r =
    let a : x % 256 < 128 = l.0 in let b : y % 256 < 128 = r.0 in
    let low : (x + y) % 256 ≡ x % 256 + y % 256 = omega arith in
    let high : (x + y) / 256 ≡ x / 256 + y / 256 = omega arith in
    rw (low, high, digits-sum k (x / 256) (y / 256) l.1 r.1) refl

-- the same of two words
sum-words : (x y : ℕ) → Each1 (λ a. a < 128) (lanes_of_word x) → Each1 (λ b. b < 128) (lanes_of_word y) → lanes_of_word (x + y) ≡ zip2 (λ a b. a + b) (lanes_of_word x) (lanes_of_word y)
unfolding lanes_of_word
sum-words x y l r = digits-sum 8 x y l r

-- a word with one byte in each of its lanes
splat-below : (x b : ℕ) → x < 2 ^ 64 → lanes_of_word x ≡ replicate 8 b → b < 128 → x < 2 ^ 63
unfolding lanes_of_word
splat-below x b h each small =
    let number : number_l 256 (replicate 8 b) ≡ x = ap (number_l 256) (sym each) ∙ number-digits 8 x (omega arith) in
    omega (arith, number)

-- the lanes that f gives are all below 128
each-below : (f : ℕ → ℕ) → ((b : ℕ) → f b < 128) → (v : List ℕ) → Each1 (λ a. a < 128) (map f v)
each-below f small [] = tt
each-below f small (b ∷ v) = (small b, each-below f small v)

-- the sums of a word, of which each word that is written out has one byte in each of its lanes
module _ (x : ℕ) (k c m : ℕ) (kept flipped more : ℕ)
    (is_kept : lanes_of_word kept ≡ replicate 8 k) (is_flipped : lanes_of_word flipped ≡ replicate 8 c) (is_more : lanes_of_word more ≡ replicate 8 m)
    (hk : k < 128) (hc : c < 128) (hm : m < 128) where
  -- no lane runs over, nor the word
  pub sums-fit : kept < 2 ^ 64 → flipped < 2 ^ 64 → more < 2 ^ 64 → bit_xor (bit_and x kept) flipped + more < 2 ^ 64
  sums-fit fk fc fm =
      let a : kept < 2 ^ 63 = splat-below kept k fk is_kept hk in
      let b : flipped < 2 ^ 63 = splat-below flipped c fc is_flipped hc in
      let d : more < 2 ^ 63 = splat-below more m fm is_more hm in
      let e = xor_lt 63 (bit_and x kept) flipped (omega (arith, and_le_r x kept)) b in
      omega (arith, d, e)

  -- each lane before the last sum
  abbrev turned : ℕ → ℕ
  turned b = bit_xor (bit_and b k) c

  -- it is below 128
  turned-lt : (b : ℕ) → turned b < 128
  turned-lt b = xor_lt 7 (bit_and b k) c (omega (arith, and_le_r b k)) hc

  -- the lanes before the last sum
  turned-lanes : lanes_of_word (bit_xor (bit_and x kept) flipped) ≡ map turned (lanes_of_word x)
  turned-lanes =
      let v = lanes_of_word x in let full = (word-bytes x).full in
      let bits : lanes_of_word (bit_and x kept) ≡ map (λ b. bit_and b k) v = and-words x kept ∙ ap (λ ys. zip2 bit_and v ys) is_kept ∙ zip2_splat bit_and v 8 k full in
      xor-words (bit_and x kept) flipped ∙ zip2_of_maps bit_xor (λ b. bit_and b k) (λ b. c) v bits (is_flipped ∙ splat_is_map v 8 c full)

  -- the lanes of the sums
  pub sums-lanes : lanes_of_word (bit_xor (bit_and x kept) flipped + more) ≡ map (λ b. bit_xor (bit_and b k) c + m) (lanes_of_word x)
  sums-lanes =
      let v = lanes_of_word x in let full = (word-bytes x).full in
      sum-words (bit_xor (bit_and x kept) flipped) more (rw turned-lanes (each-below turned turned-lt v)) (rw is_more (Each1-replicate (λ b. b < 128) 8 m hm))
      ∙ zip2_of_maps (λ a b. a + b) turned (λ b. m) v turned-lanes (is_more ∙ splat_is_map v 8 m full)

-- ---- flags

-- flags computed from a word: an or of two words, joined with the word itself, with the top bits flipped
pub word-flags : (f : ℕ → ℕ) (mode : Mode) (x y top : ℕ) → lanes_of_word y ≡ map f (lanes_of_word x) → lanes_of_word top ≡ replicate 8 128
    → agree_below (λ b. nat_lt (bit_xor (bit_or (f b) b) 128) 256) (λ b. true) 256 ≡ true → agree_below (λ b. nat_le 0x80 (bit_xor (bit_or (f b) b) 128)) (needs_escape mode) 256 ≡ true
    → flagged_lanes (lanes_of_word (bit_xor (bit_or y x) top)) ≡ map (needs_escape mode) (lanes_of_word x)
word-flags f mode x y top is is_top small same =
    let v = lanes_of_word x in let bytes = word-bytes x in
    let joined : lanes_of_word (bit_or y x) ≡ map (λ b. bit_or (f b) b) v = or-words y x ∙ zip2_of_maps bit_or f (λ b. b) v is (sym (map-id v)) in
    let whole = xor-words (bit_or y x) top ∙ zip2_of_maps bit_xor (λ b. bit_or (f b) b) (λ b. 128) v joined (is_top ∙ splat_is_map v 8 128 bytes.full) in
    (flags-by (λ b. bit_xor (bit_or (f b) b) 128) (needs_escape mode) 8 v (lanes_of_word (bit_xor (bit_or y x) top)) bytes whole small same).lanes

-- the and of two words that were computed lane by lane
pub and-maps : (f g : ℕ → ℕ) (v : List ℕ) (x y : ℕ) → lanes_of_word x ≡ map f v → lanes_of_word y ≡ map g v → lanes_of_word (bit_and x y) ≡ map (λ b. bit_and (f b) (g b)) v
and-maps f g v x y is also = and-words x y ∙ zip2_of_maps bit_and f g v is also

-- the or
pub or-maps : (f g : ℕ → ℕ) (v : List ℕ) (x y : ℕ) → lanes_of_word x ≡ map f v → lanes_of_word y ≡ map g v → lanes_of_word (bit_or x y) ≡ map (λ b. bit_or (f b) (g b)) v
or-maps f g v x y is also = or-words x y ∙ zip2_of_maps bit_or f g v is also

-- the exclusive or
pub xor-maps : (f g : ℕ → ℕ) (v : List ℕ) (x y : ℕ) → lanes_of_word x ≡ map f v → lanes_of_word y ≡ map g v → lanes_of_word (bit_xor x y) ≡ map (λ b. bit_xor (f b) (g b)) v
xor-maps f g v x y is also = xor-words x y ∙ zip2_of_maps bit_xor f g v is also

-- the top bit of a byte, by computation for each
top-bit : (b : ℕ) → b < 256 → bit_and b 128 ≡ cond (nat_le 0x80 b) 128 0
top-bit b h = eqb-true _ _ (agree_below_at (λ p. nat_eq (bit_and p 128) (cond (nat_le 0x80 p) 128 0)) (λ p. true) 256 b refl h)

-- the top bits of lanes
abbrev top_lanes : List Bool → List ℕ
top_lanes = map (λ b. cond b 128 0)

-- the top bits of all bytes of a number
digits-tops : (k x : ℕ) → bit_and x (number_l 256 (replicate k 128)) ≡ number_l 256 (top_lanes (flagged_lanes (digits_l 256 k x)))
digits-tops zero x = and_zero_r x
digits-tops (suc k) x =
    let n : ℕ = x / 256 in let p : ℕ = x % 256 in
    let parts : n * 256 + p ≡ x = omega arith in
    let tops : ℕ = number_l 256 (replicate k 128) in
    let mask : 128 + 256 * tops ≡ tops * 256 + 128 = omega arith in
    let split : bit_and x (128 + 256 * tops) ≡ bit_and n tops * 256 + bit_and p 128 = rw mask (rw parts at (and_block 8 n tops p 128 (omega arith) (omega arith))) in
    omega (arith, split, digits-tops k n, top-bit p (omega arith))

-- the same of a word
pub word-tops : (x : ℕ) → bit_and x 9259542123273814144 ≡ number_l 256 (top_lanes (flagged_lanes (lanes_of_word x)))
unfolding lanes_of_word
word-tops x = digits-tops 8 x

-- the top byte of the product that brings the top bits together
abbrev gathered : ℕ → ℕ
gathered tops = tops * 567382630219905 % 18446744073709551616 / 72057594037927936

-- it is the number of these bits, by computation for each
gathered-is : (n : ℕ) → n < 256 → gathered (number_l 256 (top_lanes (bits_of 8 n))) ≡ n
unfolding bits_of
gathered-is n h = eqb-true _ _ (agree_below_at (λ m. nat_eq (gathered (number_l 256 (top_lanes (bits_of 8 m)))) m) (λ m. true) 256 n refl h)

-- one bit for each lane of a word that is flagged
pub word_bits : (x : ℕ) → bits_of 8 (bit_and x 9259542123273814144 * 567382630219905 % 18446744073709551616 / 72057594037927936) ≡ flagged_lanes (lanes_of_word x)
word_bits x =
    let bs = flagged_lanes (lanes_of_word x) in
    let full : length bs ≡ 8 = length-map (lanes_of_word x) (λ b. nat_le 0x80 b) ∙ (word-bytes x).full in
    let small : mask_l bs < 256 = rw full at (mask_l-lt bs) in
    let number : gathered (number_l 256 (top_lanes bs)) ≡ mask_l bs = rw (bits-mask bs 8 full) at (gathered-is (mask_l bs) small) in
    ap (λ tops. bits_of 8 (gathered tops)) (word-tops x) ∙ ap (bits_of 8) number ∙ bits-mask bs 8 full

-- ---- two words

-- the bits of two numbers, one after the other
bits-append : (j k low high : ℕ) → low < 2 ^ j → bits_of (j + k) (high * 2 ^ j + low) ≡ bits_of j low ++ bits_of k high
unfolding bits_of
bits-append zero k low high h =
    let count : 0 + k ≡ k = omega arith in
    let whole : high * 2 ^ 0 + low ≡ high = omega (arith, h) in
    rw (count, whole) refl
bits-append (suc j) k low high h =
    let count : suc j + k ≡ suc (j + k) = omega arith in
    let power : 2 ^ suc j ≡ 2 * 2 ^ j = omega (arith, pow-suc 2 j) in
    let double : high * 2 ^ suc j ≡ 2 * (high * 2 ^ j) = rw power (omega (arith, mul_left_comm high 2 (2 ^ j))) in
    let below : low / 2 < 2 ^ j = omega (arith, h, power) in
    let last : (high * 2 ^ suc j + low) % 2 ≡ low % 2 = omega (arith, double) in
    let rest : (high * 2 ^ suc j + low) / 2 ≡ high * 2 ^ j + low / 2 = omega (arith, double) in
    rw (count, last, rest, bits-append j k (low / 2) high below) refl

-- the bits of both, in one number of 16 bits
pub bits-both : (low high : ℕ) (bs cs : List Bool) → low < 256 → high < 256 → bits_of 8 low ≡ bs → bits_of 8 high ≡ cs → bits_of 16 (bit_or low (high * 256 % 65536)) ≡ bs ++ cs
bits-both low high bs cs l h is_low is_high =
    let fits : high * 256 % 65536 ≡ high * 256 = omega arith in
    rw (fits, or_shifted_r high 8 low l, ← is_low, ← is_high) (bits-append 8 8 low high l)

-- the flags of two words
pub flagged-words : (low high : ℕ) → flagged_lanes (lanes_of_words low high) ≡ flagged_lanes (lanes_of_word low) ++ flagged_lanes (lanes_of_word high)
flagged-words low high = map-append (λ b. nat_le 0x80 b) (lanes_of_word low) (lanes_of_word high)

-- two words, stored one after the other at the front of a slice
pub words-stored : (low high d : List ℕ) → length low ≡ 8 → length high ≡ 8 → 16 ≤ length d → put_mid 8 8 (low ++ drop 8 d) high ≡ (low ++ high) ++ drop 16 d
words-stored low high d l h room =
    let xs = low ++ drop 8 d in
    let long : length xs ≡ length d = omega (arith, length-append low (drop 8 d), length-drop 8 d) in
    let front : take 8 xs ≡ low = rw l at (take-append_seam low (drop 8 d)) in
    let back : drop 16 xs ≡ drop 16 d =
    sym (drop-drop 8 8 xs) ∙ ap (drop 8) (rw l at (drop-append_seam low (drop 8 d))) ∙ drop-drop 8 8 d in
    sym (take-append-drop 16 (put_mid 8 8 xs high))
    ∙ ap₂ (λ ys zs. ys ++ zs)
    (take-put_mid 8 8 xs high 16 (omega (arith, h)) (omega (arith, long)) ∙ ap (λ ys. ys ++ high) front)
    (drop-put_mid 8 8 xs high 16 (omega arith) (omega (arith, long)) h ∙ back)
