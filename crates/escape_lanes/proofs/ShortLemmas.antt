-- Bytes with a short escape: how a vector of them is shortened, and asked for the others.
use Rattle.std.proofs.Common.{◌≡◌, ◌≢◌, ℕ, zero, suc, ◌+◌, ◌-◌, ◌*◌, ◌/◌, ◌%◌, ◌^◌, ◌<◌, ◌≤◌, Bool, true, false, cond, ◌&&◌, ◌||◌, List, [], ◌∷◌, ◌++◌, length, take, take_all, drop, replicate, map, nat_eq, nat_le, nat_lt, ltb, bit_and, bit_or, bit_xor, get_or, set, refl, sym, ap, ap₂, subst, ◌∙◌, arith, inl, inr}
use Rattle.std.proofs.Math.Nat.{lt_irrefl}
use Rattle.std.proofs.Math.Seq.{take-add}
use Rattle.std.proofs.lemmas.Bool.{agree_below, agree_below_at, eqb-true}
use Rattle.std.proofs.lemmas.Bool.Decides.{leb_tells, nat_tests}
use Rattle.std.proofs.lemmas.Grind.{get_or-set_at}
use Rattle.std.proofs.lemmas.List.{get_or-drop, get_or-set_other, get_or-take, length-drop, length-map, length-take-le, map-append}
use Rattle.std.proofs.lemmas.Nat.{and_le_l, and_le_r}
use Rattle.std.proofs.lemmas.Simd.{Each1-from_get_or, SwzOk, map-map, mask_l-lt, mask_l-mod, pick_l-range_with_len, swz_l}
use Rattle.std.specs.Int.Bits.{or_add_and}
use Rattle.std.specs.List.{range_with_len}
use Rattle.std.specs.Simd.Lanes.{mask_l, pick_l, sel_l, top, zip2}
use lib.Lanes.{Each1}
use mir.Syntax.{w8}
use mir.Val.{zeroes}
use Rattle.escape_lanes.specs.Bits.{bits_of, length-bits_of, none_set}
use Rattle.escape_lanes.specs.Lanes.{AreBytes}
use Rattle.escape_lanes.specs.Mode.{Mode, json, html, script}
use Rattle.escape_lanes.specs.Replacement.{replacement}
use Rattle.escape_lanes.specs.Short.{is_long, shortened}
use Rattle.escape_lanes.proofs.BitLemmas.{bits-wide}
use Rattle.escape_lanes.proofs.LaneLemmas.{bits_and, bits-mask, map-bytes}
use Rattle.escape_lanes.proofs.BitLemmas.{zero_bits}

-- A vector

-- the letters of short escapes, by the control character
abbrev pub letters : List ℕ
letters = 0 ∷ 0 ∷ 0 ∷ 0 ∷ 0 ∷ 0 ∷ 0 ∷ 0 ∷ 0x62 ∷ 0x74 ∷ 0x6e ∷ 0 ∷ 0x66 ∷ 0x72 ∷ 0 ∷ 0 ∷ []

-- where the letter of a byte is looked up
abbrev place : ℕ → ℕ
place b = bit_xor ((b + cond (top 7 (cond (nat_lt 0x70 (255 - b)) 255 0)) 0x70 (255 - b)) % 2 ^ 8) 0x70

-- what is found there
abbrev found : ℕ → ℕ
found b = cond (zeroes 16 w8 (place b)) 0 (get_or letters (0 + place b) 0)

-- a place is one of the 16 or reads 0
abbrev can_look : ℕ → Bool
can_look b = zeroes 16 w8 (place b) || (ltb (place b) 16 && ltb (0 + place b) 16)

-- the greater of the byte and what is found there is the byte shortened
abbrev is_found : ℕ → Bool
is_found b = nat_eq (cond (top 7 (cond (nat_lt b (found b)) 255 0)) (found b) b) (shortened b)

-- by computation for each of the 256
all-found : (agree_below can_look (λ b. true) 256 ≡ true) × (agree_below is_found (λ b. true) 256 ≡ true)
unfolding shortened replacement
all-found = (refl, refl)

-- the places of lanes, lane by lane
places-are : (v : List ℕ) → zip2 bit_xor (zip2 (λ a b. (a + b) % 2 ^ 8) v (sel_l (map (top 7) (zip2 (λ a b. cond (nat_lt a b) 255 0) (replicate (length v) 0x70) (map (λ a. 255 - a) v))) (replicate (length v) 0x70) (map (λ a. 255 - a) v))) (replicate (length v) 0x70) ≡ map place v
places-are [] = refl
places-are (b ∷ v) = ap (λ xs. place b ∷ xs) (places-are v)

-- the lanes from the i-th on: their places can be looked up, and the greater of both is the lane shortened
shortened-from : (i : ℕ) (v : List ℕ) → i + length v ≤ 16 → Each1 (λ b. b < 256) v
    → SwzOk w8 16 16 i (map place v)
    × (sel_l (map (top 7) (zip2 (λ a b. cond (nat_lt a b) 255 0) v (swz_l w8 16 letters i (map place v)))) (swz_l w8 16 letters i (map place v)) v ≡ map shortened v)
shortened-from i [] few bytes = (tt, refl)
shortened-from i (b ∷ v) few bytes =
    let few_left : suc i + length v ≤ 16 = omega (arith, few) in
    let rest = shortened-from (suc i) v few_left bytes.1 in
    let looked = agree_below_at can_look (λ x. true) 256 b all-found.0 bytes.0 in
    let block : 16 * (i / 16) ≡ 0 = omega arith in
    let here = eqb-true _ _ (agree_below_at is_found (λ x. true) 256 b all-found.1 bytes.0) in
    rw block ((rw looked tt, rest.0), ap₂ (λ x xs. x ∷ xs) here rest.1)

-- a vector's bytes can be looked up by their places, and the greater of both is the vector shortened
pub shortened-lanes : (v : List ℕ) → AreBytes 16 v → (places : List ℕ)
    → places ≡ zip2 bit_xor (zip2 (λ a b. (a + b) % 2 ^ 8) v (sel_l (map (top 7) (zip2 (λ a b. cond (nat_lt a b) 255 0) (replicate 16 0x70) (map (λ a. 255 - a) v))) (replicate 16 0x70) (map (λ a. 255 - a) v))) (replicate 16 0x70)
    → SwzOk w8 16 16 0 places × (sel_l (map (top 7) (zip2 (λ a b. cond (nat_lt a b) 255 0) v (swz_l w8 16 letters 0 places))) (swz_l w8 16 letters 0 places) v ≡ map shortened v)
shortened-lanes v bytes places is =
    let here = rw bytes.full at (places-are v) in
    rw (is ∙ here) (shortened-from 0 v (omega (arith, bytes.full)) (Each1-from_get_or _ v 0 (λ k h. bytes.small k (omega (arith, bytes.full)))))

-- Which lanes are long

-- JSON: a control character that is left
abbrev pub long_json : ℕ → Bool
long_json b = top 7 (cond (nat_le b 0x1f) 255 0)

-- script: one of these, an angle bracket, an ampersand or e2, as the lanes of four masks
abbrev pub long_script : ℕ → Bool
long_script b = top 7 (bit_or (bit_or (bit_or (cond (nat_le b 0x1f) 255 0) (cond (nat_eq (bit_or b 2) 0x3e) 255 0)) (cond (nat_eq b 0x26) 255 0)) (cond (nat_eq b 0xe2) 255 0))

-- these are the bytes that need an escape and have no short one, by computation for each of the 256
pub told-json : agree_below (λ b. long_json (shortened b)) (is_long json) 256 ≡ true
unfolding replacement shortened
told-json = refl

pub told-script : agree_below (λ b. long_script (shortened b)) (is_long script) 256 ≡ true
unfolding replacement shortened
told-script = refl

-- the masks of a vector, lane by lane
pub json-lanes : (v : List ℕ) → map (top 7) (zip2 (λ a b. cond (nat_le a b) 255 0) v (replicate (length v) 0x1f)) ≡ map long_json v
json-lanes [] = refl
json-lanes (b ∷ v) = ap (λ xs. long_json b ∷ xs) (json-lanes v)

pub script-lanes : (v : List ℕ)
    → map (top 7) (zip2 bit_or (zip2 bit_or (zip2 bit_or (zip2 (λ a b. cond (nat_le a b) 255 0) v (replicate (length v) 0x1f)) (zip2 (λ a b. cond (nat_eq a b) 255 0) (zip2 bit_or v (replicate (length v) 2)) (replicate (length v) 0x3e))) (zip2 (λ a b. cond (nat_eq a b) 255 0) v (replicate (length v) 0x26))) (zip2 (λ a b. cond (nat_eq a b) 255 0) v (replicate (length v) 0xe2)))
    ≡ map long_script v
script-lanes [] = refl
script-lanes (b ∷ v) = ap (λ xs. long_script b ∷ xs) (script-lanes v)

-- 16 bytes, shortened and asked: a bit for each that is long
pub long-bits : (mode : Mode) (long : ℕ → Bool) → agree_below (λ b. long (shortened b)) (is_long mode) 256 ≡ true → (xs v : List ℕ) → AreBytes 16 xs → v ≡ map shortened xs → (ms : List Bool) → ms ≡ map long v
    → bits_of 64 (mask_l ms % 2 ^ 64) ≡ map (is_long mode) xs ++ replicate 48 false
long-bits mode long told xs v bytes is ms e =
    let same : ms ≡ map (is_long mode) xs = e ∙ ap (map long) is ∙ map-map long shortened xs ∙ map-bytes (λ b. long (shortened b)) (is_long mode) 16 xs bytes told in
    let full : length ms ≡ 16 = ap length same ∙ length-map xs (is_long mode) ∙ bytes.full in
    rw (mask_l-mod ms 64 (omega (arith, full)), bits-wide 16 48 (mask_l ms) (rw full at (mask_l-lt ms)), bits-mask ms 16 full) (ap (λ bs. bs ++ replicate 48 false) same)

-- the mode that has short escapes and is not the third one
pub json-left : {mode : Mode} → mode ≢ html → mode ≢ script → mode ≡ json
json-left {mode = json} short other = refl
json-left {mode = html} short other = absurd (short refl)
json-left {mode = script} short other = absurd (other refl)

-- as many lanes
pub shortened-full : (xs v : List ℕ) → AreBytes 16 xs → v ≡ map shortened xs → length v ≡ 16
shortened-full xs v bytes is = ap length is ∙ length-map xs shortened ∙ bytes.full

-- 16 bytes of a text
pub text-bytes : (src : List ℕ) (at : ℕ) → at + 16 ≤ length src → ((i : ℕ) → get_or src i 0 < 256) → AreBytes 16 (take 16 (drop at src))
text-bytes src at inside small = record {
  full = length-take-le 16 (drop at src) (omega (arith, length-drop at src));
  small = λ k h. rw (get_or-take 16 (drop at src) k 0 h, get_or-drop at src k 0) (small (at + k));
}

-- The question of a text, piece by piece

-- an or is 0 where both are
or-zero : (a b : ℕ) → nat_eq (bit_or a b) 0 ≡ (nat_eq a 0 && nat_eq b 0)
or-zero a b = let s = or_add_and a b in let l = and_le_l a b in let r = and_le_r a b in grind (arith, nat_tests, s, l, r)

-- no lane is in both, of two parts
both-append : (ps qs rs : List Bool) → length ps ≤ length rs → none_set (zip2 ◌&&◌ (ps ++ qs) rs) ≡ (none_set (zip2 ◌&&◌ ps rs) && none_set (zip2 ◌&&◌ qs (drop (length ps) rs)))
unfolding none_set
both-append [] qs rs h = refl
both-append (p ∷ ps) qs [] h = absurd (omega arith)
both-append (true ∷ ps) qs (true ∷ rs) h = refl
both-append (true ∷ ps) qs (false ∷ rs) h = both-append ps qs rs (omega arith)
both-append (false ∷ ps) qs (r ∷ rs) h = both-append ps qs rs (omega arith)

-- of lanes that are clear
both-clear : (n : ℕ) (rs : List Bool) → none_set (zip2 ◌&&◌ (replicate n false) rs) ≡ true
unfolding none_set
both-clear zero rs = refl
both-clear (suc n) [] = refl
both-clear (suc n) (r ∷ rs) = both-clear n rs

-- with more lanes that are clear
both-more : (m n : ℕ) (qs rs : List Bool) → length qs ≤ length rs → none_set (zip2 ◌&&◌ (qs ++ replicate m false) (rs ++ replicate n false)) ≡ none_set (zip2 ◌&&◌ qs rs)
unfolding none_set
both-more m n [] rs h = both-clear m (rs ++ replicate n false)
both-more m n (q ∷ qs) [] h = absurd (omega arith)
both-more m n (true ∷ qs) (true ∷ rs) h = refl
both-more m n (true ∷ qs) (false ∷ rs) h = both-more m n qs rs (omega arith)
both-more m n (false ∷ qs) (r ∷ rs) h = both-more m n qs rs (omega arith)

-- a piece more
pub piece-more : (f : ℕ → Bool) (text : List ℕ) (flags next long more moved : ℕ) → next + 16 ≤ length text → next + 16 ≤ 64 → more < 2 ^ 64
    → nat_eq long 0 ≡ none_set (zip2 ◌&&◌ (map f (take next text)) (bits_of 64 flags))
    → bits_of 64 more ≡ map f (take 16 (drop next text)) ++ replicate 48 false → bits_of 64 moved ≡ drop next (bits_of 64 flags) ++ replicate next false
    → nat_eq (bit_or long (bit_and more moved)) 0 ≡ none_set (zip2 ◌&&◌ (map f (take (next + 16) text)) (bits_of 64 flags))
piece-more f text flags next long more moved inside few fits before piece shift =
    let l = length-bits_of 64 flags in
    let front : length (map f (take next text)) ≡ next = length-map (take next text) f ∙ length-take-le next text (omega (arith, inside)) in
    let here : length (map f (take 16 (drop next text))) ≡ 16 = length-map (take 16 (drop next text)) f ∙ length-take-le 16 (drop next text) (omega (arith, inside, length-drop next text)) in
    let both : nat_eq (bit_and more moved) 0 ≡ none_set (zip2 ◌&&◌ (map f (take 16 (drop next text))) (drop next (bits_of 64 flags))) =
    zero_bits 64 (bit_and more moved) (omega (arith, fits, and_le_l more moved)) ∙ ap none_set (bits_and 64 more moved) ∙ rw (piece, shift)
    (both-more 48 next (map f (take 16 (drop next text))) (drop next (bits_of 64 flags)) (omega (arith, here, l, length-drop next (bits_of 64 flags), few))) in
    let parts = rw front at (both-append (map f (take next text)) (map f (take 16 (drop next text))) (bits_of 64 flags) (omega (arith, front, l, few))) in
    or-zero long (bit_and more moved) ∙ ap₂ ◌&&◌ before both ∙ sym (rw (take-add next 16 text, map-append f (take next text) (take 16 (drop next text))) parts)

-- The pieces of a vector

-- one piece more
pub pieces-on : (src : List ℕ) (at next : ℕ) (pieces : List (List ℕ)) (v : List ℕ) → next < length pieces → v ≡ map shortened (take 16 (drop (at + 16 * next) src))
    → ((k : ℕ) → k < next → get_or pieces k [] ≡ map shortened (take 16 (drop (at + 16 * k) src)))
    → (k : ℕ) → k < next + 1 → get_or (set pieces next v) k [] ≡ map shortened (take 16 (drop (at + 16 * k) src))
pieces-on src at next pieces v inside is done k h = elim (leb_tells next k) [
  | inl on ↦ let e : k ≡ next = omega (arith, on, h) in get_or-set_at pieces next k v [] e inside ∙ is ∙ ap (λ j. map shortened (take 16 (drop (at + 16 * j) src))) (sym e)
  | inr under ↦ get_or-set_other pieces next k v [] (λ e. lt_irrefl next (subst (λ j. j < next) e under.1)) ∙ done k under.1
]

-- the last half of a piece
pub last-half : (v : List ℕ) → length v ≡ 16 → take 8 (pick_l 0 (v ++ v) (8 ∷ 9 ∷ 10 ∷ 11 ∷ 12 ∷ 13 ∷ 14 ∷ 15 ∷ 0 ∷ 1 ∷ 2 ∷ 3 ∷ 4 ∷ 5 ∷ 6 ∷ 7 ∷ [])) ≡ take 8 (drop 8 v)
last-half v full =
    let is : pick_l 0 v (range_with_len 0 16) ≡ v = pick_l-range_with_len 0 v 0 16 (omega (arith, full)) ∙ take_all 16 v (omega (arith, full)) in
    subst (λ (w : List ℕ). take 8 (pick_l 0 (w ++ w) (8 ∷ 9 ∷ 10 ∷ 11 ∷ 12 ∷ 13 ∷ 14 ∷ 15 ∷ 0 ∷ 1 ∷ 2 ∷ 3 ∷ 4 ∷ 5 ∷ 6 ∷ 7 ∷ [])) ≡ take 8 (drop 8 w)) is refl
