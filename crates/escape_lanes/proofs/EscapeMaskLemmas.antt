-- The lanes of a mask that knows its bytes: of fewer of them, and with some taken off.
use Rattle.std.proofs.Common.{◌≡◌, ℕ, zero, suc, ◌+◌, ◌-◌, ◌%◌, ◌<◌, ◌^◌, ◌≤◌, nat_eq, get_or, Bool, true, false, true≢false, List, [], ◌∷◌, ◌++◌, length, map, take, drop, replicate, refl, sym, ap, ◌∙◌, arith, append_assoc, length-append}
use Rattle.std.proofs.Math.Seq.{drop-append-add}
use Rattle.std.proofs.Math.ListN.{get_or-append}
use Rattle.std.proofs.lemmas.List.{get_or-drop, drop-append-le, drop-drop, drop-map, length-drop, length-map, length-replicate, length-take-le, replicate-append-replicate, take-append-le, take-map, take_all}
use Rattle.escape_lanes.specs.Bits.{bits_of, first_set, clear_first, clear_last, length-bits_of}
use Rattle.escape_lanes.specs.Masks.{lanes_of_mask, mask_from, whole_mask}
use Rattle.escape_lanes.specs.Mode.{Mode, json, html, script}
use Rattle.escape_lanes.specs.Replacement.{needs_escape}
use Rattle.escape_lanes.proofs.BitLemmas.{bits-suc, bits-wide}

-- Lanes that are cleared

-- clear lanes in front of the first set one
front-clear : (n : ℕ) (bs : List Bool) → n ≤ first_set bs → clear_first n bs ≡ bs
unfolding first_set
front-clear zero bs few = refl
front-clear (suc n) [] few = absurd (omega arith)
front-clear (suc n) (true ∷ bs) few = absurd (omega arith)
front-clear (suc n) (false ∷ bs) few = ap (λ xs. false ∷ xs) (front-clear n bs (omega arith))

-- more of them
clear-more : (n m : ℕ) (bs : List Bool) → n ≤ m → clear_first m (clear_first n bs) ≡ clear_first m bs
clear-more n m bs few =
    let e : n + (m - n) ≡ m = omega arith in
    let past = drop-append-add (replicate n false) (drop n bs) (m - n) in
    ap (λ xs. replicate m false ++ xs) (rw (length-replicate n false, e) at past ∙ drop-drop (m - n) n bs ∙ ap (λ k. drop k bs) e)

-- the first set lane is behind those that are clear
first-behind : (n : ℕ) (bs : List Bool) → n ≤ first_set (replicate n false ++ bs)
unfolding first_set
first-behind zero bs = omega arith
first-behind (suc n) bs = omega (arith, first-behind n bs)

-- and no further than their end
first-within : (bs : List Bool) → first_set bs ≤ length bs
unfolding first_set
first-within [] = omega arith
first-within (true ∷ bs) = omega arith
first-within (false ∷ bs) = omega (arith, first-within bs)

-- The lanes of a mask

module _ (mode : Mode) (bytes : List ℕ) (from n : ℕ) (is : bits_of 64 n ≡ lanes_of_mask mode (mask_from bytes from 0)) where
  -- of all bytes
  abbrev all : List Bool
  all = map (needs_escape mode) bytes ++ replicate (64 - length bytes) false

  -- there are at most 64
  pub mask-few : length bytes ≤ 64
  mask-few =
      let long = ap length (sym is) ∙ length-bits_of 64 n in let whole = length-append (map (needs_escape mode) bytes) (replicate (64 - length bytes) false) in
      omega (arith, long, whole, length-append (replicate from false) (drop from all), length-replicate {A = Bool} from false, length-drop from all, length-map bytes (needs_escape mode))

  pub mask-all : take 64 bytes ≡ bytes
  mask-all = take_all 64 bytes mask-few

  -- the first lane that is set is one of 64
  pub mask-first : first_set (lanes_of_mask mode (mask_from bytes from 0)) ≤ 64
  mask-first = omega (arith, first-within (lanes_of_mask mode (mask_from bytes from 0)), ap length (sym is), length-bits_of 64 n)

  -- one of them, moved down to the first place
  pub mask-lane : (at m : ℕ) → at < length bytes → bits_of 64 m ≡ drop at (bits_of 64 n) ++ replicate at false → nat_eq (m % 2) 1 ≡ get_or (lanes_of_mask mode (mask_from bytes from 0)) at false
  mask-lane at m inside moved =
      let there : at + 0 ≡ at = omega arith in let some : 0 < length (drop at (bits_of 64 n)) = omega (arith, inside, mask-few, length-drop at (bits_of 64 n), length-bits_of 64 n) in
      sym (ap (λ bs. get_or bs 0 false) (bits-suc 63 m)) ∙ ap (λ bs. get_or bs 0 false) moved ∙ get_or-append (drop at (bits_of 64 n)) (replicate at false) false 0 some ∙ get_or-drop at (bits_of 64 n) 0 false ∙ rw there (ap (λ bs. get_or bs at false) is)

  -- without the first one
  pub mask-cleared : (m : ℕ) → bits_of 64 m ≡ clear_first (first_set (bits_of 64 n) + 1) (bits_of 64 n) → bits_of 64 m ≡ lanes_of_mask mode (mask_from bytes (first_set (bits_of 64 n) + 1) 0)
  mask-cleared m cut =
      let far = first-behind from (drop from all) in let same = ap first_set is in
      cut ∙ ap (clear_first (first_set (bits_of 64 n) + 1)) is ∙ clear-more from (first_set (bits_of 64 n) + 1) all (omega (arith, far, same))

  -- from a later byte on, with none set between
  pub mask-later : (next : ℕ) → from ≤ next → next ≤ first_set (lanes_of_mask mode (mask_from bytes from 0)) → bits_of 64 n ≡ lanes_of_mask mode (mask_from bytes next 0)
  mask-later next after none = is ∙ sym (front-clear next (lanes_of_mask mode (mask_from bytes from 0)) none) ∙ clear-more from next all after

-- of the bytes from one on
pub mask-skipped : (mode : Mode) (bytes : List ℕ) (k n : ℕ) → k ≤ length bytes → length bytes ≤ 64 → bits_of 64 n ≡ lanes_of_mask mode (whole_mask bytes) → drop k (bits_of 64 n) ++ replicate k false ≡ lanes_of_mask mode (whole_mask (take 64 (drop k bytes)))
mask-skipped mode bytes k n le few is =
    let long = length-drop k bytes in
    let all : take 64 (drop k bytes) ≡ drop k bytes = take_all 64 (drop k bytes) (omega (arith, long, few)) in
    let f = map (needs_escape mode) bytes in
    let cut : drop k (f ++ replicate (64 - length bytes) false) ≡ drop k f ++ replicate (64 - length bytes) false = drop-append-le k f _ (omega (arith, le, length-map bytes (needs_escape mode))) in
    let count : 64 - length bytes + k ≡ 64 - length (drop k bytes) = omega (arith, long, few, le) in
    rw (is, all, cut, drop-map (needs_escape mode) k bytes, append_assoc (map (needs_escape mode) (drop k bytes)) (replicate (64 - length bytes) false) (replicate k false), replicate-append-replicate (64 - length bytes) k false, count) refl

-- of the first bytes, by flags that begin with theirs
pub mask-front : (mode : Mode) (lanes bytes : List ℕ) (n more : ℕ) → take (length bytes) lanes ≡ bytes → length bytes ≤ length lanes → length lanes + more ≡ 64 → bits_of 64 n ≡ map (needs_escape mode) lanes ++ replicate more false
    → clear_last (64 - length bytes) (bits_of 64 n) ≡ lanes_of_mask mode (whole_mask bytes)
mask-front mode lanes bytes n more begun le whole is =
    let f = map (needs_escape mode) lanes in
    let count : length (bits_of 64 n) - (64 - length bytes) ≡ length bytes = omega (arith, length-bits_of 64 n, le, whole) in
    let cut : take (length bytes) (f ++ replicate more false) ≡ take (length bytes) f = take-append-le (length bytes) f _ (omega (arith, le, length-map lanes (needs_escape mode))) in
    ap (λ k. take k (bits_of 64 n) ++ replicate (64 - length bytes) false) count ∙ ap (λ bs. take (length bytes) bs ++ replicate (64 - length bytes) false) is
    ∙ ap (λ bs. bs ++ replicate (64 - length bytes) false) (cut ∙ take-map (needs_escape mode) (length bytes) lanes ∙ ap (map (needs_escape mode)) begun)

-- of the first bytes
pub mask-cut : (mode : Mode) (bytes : List ℕ) (k n : ℕ) → k ≤ length bytes → length bytes ≤ 64 → bits_of 64 n ≡ lanes_of_mask mode (whole_mask bytes) → clear_last (64 - k) (bits_of 64 n) ≡ lanes_of_mask mode (whole_mask (take k (drop 0 bytes)))
mask-cut mode bytes k n le few is =
    let count : length (take k bytes) ≡ k = length-take-le k bytes le in
    let f = mask-front mode bytes (take k bytes) n (64 - length bytes) (ap (λ j. take j bytes) count) (omega (arith, count, le)) (omega (arith, few)) is in
    ap (λ j. clear_last (64 - j) (bits_of 64 n)) (sym count) ∙ f

-- the bit mask of a vector's lanes, as 64
pub mask-wide : {mode wanted : Mode} {bits : List Bool} (n j x : ℕ) (lanes : List ℕ) → x < 2 ^ n → wanted ≡ mode → bits_of n x ≡ bits → bits ≡ map (needs_escape mode) lanes → bits_of (n + j) x ≡ map (needs_escape wanted) lanes ++ replicate j false
mask-wide n j x lanes small same is told = rw same (bits-wide n j x small ∙ ap (λ bs. bs ++ replicate j false) (is ∙ told))

-- a mode that is neither HTML nor script
pub is-json : (mode : Mode) (of_script quoted : Bool) → (mode ≡ script → of_script ≡ true) → (mode ≡ html → quoted ≡ false) → of_script ≡ false → quoted ≡ true → mode ≡ json
is-json json a b s q off on = refl
is-json html a b s q off on = absurd (true≢false (sym on ∙ q refl))
is-json script a b s q off on = absurd (true≢false (sym (s refl) ∙ off))
