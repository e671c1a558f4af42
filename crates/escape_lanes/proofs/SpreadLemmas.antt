-- Eight bytes put apart: how one look-up does it.
use Rattle.std.proofs.Common.{◌≡◌, ℕ, zero, suc, ◌+◌, ◌-◌, ◌*◌, ◌/◌, ◌%◌, ◌<◌, ◌≤◌, Bool, true, false, cond, List, [], ◌∷◌, ◌++◌, length, take, take_all, drop, replicate, nat_eq, nat_le, ltb, get_or, refl, sym, ap, ap₂, subst, ◌∙◌, arith, length-append}
use Rattle.std.proofs.Math.Seq.{drop-cons}
use Rattle.std.proofs.lemmas.Bool.{agree_below_at}
use Rattle.std.proofs.lemmas.Bool.Decides.{nat_tests}
use Rattle.std.proofs.lemmas.List.{drop_at, get_or-drop, length-take-le, take_at}
use Rattle.std.proofs.lemmas.List.Sums.{count_by-le-length, sum_by-cons}
use Rattle.std.proofs.lemmas.Simd.{SwzOk, swz_l, pick_l-range_with_len}
use Rattle.std.specs.List.{range_with_len}
use Rattle.std.specs.Simd.Lanes.{pick_l}
use mir.Syntax.{w8}
use Rattle.escape_lanes.specs.Bits.{bits_of}
use Rattle.escape_lanes.specs.Spread.{spread_from, spread, put_apart, flag_count}
use Rattle.escape_lanes.proofs.BitLemmas.{bits-low}

-- Counts of flags

-- one more
pub count-cons : (b : Bool) (bs : List Bool) → flag_count (b ∷ bs) ≡ cond b 1 0 + flag_count bs
count-cons b bs = sum_by-cons (λ c. cond c 1 0) b bs

-- The look-up

-- how many places a row has before the fill
length-spread : (i : ℕ) (flags : List Bool) → length (spread_from i flags) ≡ length flags + flag_count flags
unfolding spread_from
length-spread i [] = omega arith
length-spread i (b ∷ flags) = grind (arith, nat_tests, count-cons b flags, length-spread (suc i) flags)

-- the places can be looked up in a block from the p-th lane on, and these bytes are found there
pub record Looks (block : List ℕ) (p : ℕ) (places found : List ℕ) : Type 0 where
  pub safe : SwzOk w8 16 16 p places
  pub is : swz_l w8 16 block p places ≡ found

-- one place more
look : {block : List ℕ} {p b : ℕ} {places found : List ℕ} (j : ℕ) → p < 16 → j < 16 → get_or block j 0 ≡ b → Looks block (suc p) places found → Looks block p (j ∷ places) (b ∷ found)
look {block} {p} j few small is rest =
    let here : 16 * (p / 16) + j ≡ j = omega arith in
    let low : ltb j 16 ≡ true = grind (arith, nat_tests) in
    let stays : nat_le 128 j ≡ false = grind (arith, nat_tests) in
    record { safe = rw (here, low, stays) (tt, rest.safe); is = rw (here, stays) (ap₂ (λ x xs. x ∷ xs) is rest.is) }

-- a block of eight bytes and eight reverse solidi, looked up at the places of its bytes from the i-th on, and then n times at place 8
looked_up : (block : List ℕ) → length block ≡ 16 → get_or block 8 0 ≡ 0x5c → (p i n : ℕ) (flags : List Bool) → p + length flags + flag_count flags + n ≤ 16 → i + length flags ≤ 8
    → Looks block p (spread_from i flags ++ replicate n 8) (put_apart flags (take (length flags) (drop i block)) ++ replicate n 0x5c)
unfolding spread_from put_apart
looked_up block whole solidus p i zero [] few room = record { safe = tt; is = refl }
looked_up block whole solidus p i (suc n) [] few room = look 8 (omega arith) (omega arith) solidus (looked_up block whole solidus (suc p) i n [] (omega arith) room)
looked_up block whole solidus p i n (true ∷ flags) few room =
    let c = count-cons true flags in
    let rest = looked_up block whole solidus (suc (suc p)) (suc i) n flags (omega arith) (omega arith) in
    rw (drop-cons block i 0 (omega arith)) (look 8 (omega arith) (omega arith) solidus (look i (omega arith) (omega arith) refl rest))
looked_up block whole solidus p i n (false ∷ flags) few room =
    let c = count-cons false flags in
    let rest = looked_up block whole solidus (suc p) (suc i) n flags (omega arith) (omega arith) in
    rw (drop-cons block i 0 (omega arith)) (look i (omega arith) (omega arith) refl rest)

-- eight flags, and the whole of such a block
pub spread-looked_up : (flags : List Bool) (block : List ℕ) → length flags ≡ 8 → length block ≡ 16 → drop 8 block ≡ replicate 8 0x5c
    → Looks block 0 (spread flags) (put_apart flags (take 8 block) ++ replicate (8 - flag_count flags) 0x5c)
spread-looked_up flags block eight whole solidi =
    let most = count_by-le-length (λ b. b) flags in
    let fill : 16 - length (spread_from 0 flags) ≡ 8 - flag_count flags = omega (arith, length-spread 0 flags) in
    let solidus : get_or block 8 0 ≡ 0x5c = sym (get_or-drop 8 block 0 0) ∙ ap (λ xs. get_or xs 0 0) solidi in
    rw fill (rw eight at (looked_up block whole solidus 0 0 (8 - flag_count flags) flags (omega arith) (omega arith)))

-- eight lanes, and eight reverse solidi
pub first-half : (v : List ℕ) → length v ≡ 16 → pick_l 0 (v ++ replicate 16 0x5c) (0 ∷ 1 ∷ 2 ∷ 3 ∷ 4 ∷ 5 ∷ 6 ∷ 7 ∷ 16 ∷ 17 ∷ 18 ∷ 19 ∷ 20 ∷ 21 ∷ 22 ∷ 23 ∷ []) ≡ take 8 v ++ replicate 8 0x5c
first-half v full =
    let is : pick_l 0 v (range_with_len 0 16) ≡ v = pick_l-range_with_len 0 v 0 16 (omega (arith, full)) ∙ take_all 16 v (omega (arith, full)) in
    subst (λ (w : List ℕ). pick_l 0 (w ++ replicate 16 0x5c) (0 ∷ 1 ∷ 2 ∷ 3 ∷ 4 ∷ 5 ∷ 6 ∷ 7 ∷ 16 ∷ 17 ∷ 18 ∷ 19 ∷ 20 ∷ 21 ∷ 22 ∷ 23 ∷ []) ≡ take 8 w ++ replicate 8 0x5c) is refl

-- a block that is flagged, with reverse solidi behind its bytes
pub block-looked_up : (flags : List Bool) (v : List ℕ) → length flags ≡ 8 → length v ≡ 16
    → Looks (take 8 v ++ replicate 8 0x5c) 0 (spread flags) (put_apart flags (take 8 v) ++ replicate (8 - flag_count flags) 0x5c)
block-looked_up flags v eight whole =
    let block : List ℕ = take 8 v ++ replicate 8 0x5c in
    let half : length (take 8 v) ≡ 8 = length-take-le 8 v (omega (arith, whole)) in
    rw (take_at (take 8 v) (replicate 8 0x5c) 8 half) at
    (spread-looked_up flags block eight (omega (arith, half, length-append (take 8 v) (replicate {A = ℕ} 8 0x5c))) (drop_at (take 8 v) (replicate 8 0x5c) 8 half))

-- Blocks

-- a block has a flag where its byte isn't 0, by computation for each of the 256
pub byte-none : (x : ℕ) → nat_eq (flag_count (bits_of 8 x)) 0 ≡ nat_eq (x % 256) 0
unfolding bits_of
byte-none x = ap (λ bs. nat_eq (flag_count bs) 0) (sym (bits-low 8 x)) ∙ agree_below_at (λ b. nat_eq (flag_count (bits_of 8 b)) 0) (λ b. nat_eq b 0) 256 (x % 256) refl (omega arith)
