-- Lanes that move down: what is looked up for each, and what that makes of all.
use Rattle.std.proofs.Common.{◌≡◌, ℕ, ◌+◌, ◌-◌, ◌<◌, ◌≤◌, List, ◌++◌, length, take, drop, replicate, get_or, refl, sym, ap, ◌∙◌, inl, inr, arith, length-append, length-drop}
use Rattle.std.proofs.Math.Nat.{zero-add}
use Rattle.std.proofs.Math.Facts.{yes_ltb}
use Rattle.std.specs.List.{range_with_len}
use Rattle.std.proofs.lemmas.List.{get_or-drop, get_or-take, get_or-append_right, get_or_append_left, get_or-replicate, get_or_past, length-replicate, length-take-le, ext_get_or}
use Rattle.std.proofs.lemmas.List.FromFn.{get_or-range_with_len}
use Rattle.std.proofs.lemmas.Bool.{lt-leb}
use Rattle.std.proofs.lemmas.Bool.Decides.{leb_tells}
use Rattle.std.proofs.lemmas.Simd.{swz_l, length-swz_l, SwzOk, SwzOk-from_Each1, get_or-swz_l, get_or-swz_l_below, Each1-from_get_or}
use mir.Syntax.{w8}
use Rattle.escape_lanes.specs.declared.simd.last.TheConstants.{PLACES}

-- the places of 16 lanes, and after them places that read as 0
places : PLACES ≡ range_with_len 0 16 ++ replicate 16 128
places = refl

-- a place of a lane
place_at : (k : ℕ) → k < 16 → get_or PLACES k 0 ≡ k
place_at k h =
    ap (λ xs. get_or xs k 0) places
    ∙ get_or_append_left (range_with_len 0 16) (replicate 16 128) 0 k h
    ∙ get_or-range_with_len 0 16 k 0 h ∙ zero-add k

-- a place after them
place_after : (k : ℕ) → 16 ≤ k → k < 32 → get_or PLACES k 0 ≡ 128
place_after k h l =
    ap (λ xs. get_or xs k 0) places
    ∙ get_or-append_right (range_with_len 0 16) (replicate 16 128) 16 k 0 refl h
    ∙ get_or-replicate {A = ℕ} 16 (k - 16) 128 0 (omega arith)

-- sixteen lanes, looked up at the places from one on
module _ (lanes js : List ℕ) (count : ℕ) (few : count ≤ 16) (whole : length lanes ≡ 16) (is : js ≡ take 16 (drop count PLACES)) where
  -- the place that is looked up for a lane
  place : (k : ℕ) → k < 16 → get_or js k 0 ≡ get_or PLACES (count + k) 0
  place k h = ap (λ xs. get_or xs k 0) is ∙ get_or-take 16 (drop count PLACES) k 0 h ∙ get_or-drop count PLACES k 0

  -- there are 16
  length-places : length js ≡ 16
  length-places = ap length is ∙ length-take-le 16 (drop count PLACES) (omega (arith, length-drop count PLACES))

  -- they can be looked up
  pub places_ok : SwzOk w8 16 16 0 js
  places_ok =
      SwzOk-from_Each1 w8 16 1 16 0 js refl (omega (arith, length-places)) (Each1-from_get_or _ js 0 (λ k h.
      let lt : k < 16 = omega (arith, length-places) in
      elim (leb_tells 16 (count + k)) [
        | inl past ↦ rw (place k lt, place_after (count + k) past.1 (omega arith)) tt
        | inr at ↦ rw (place k lt, place_at (count + k) at.1, lt-leb 128 (count + k) (omega (arith, at.1))) (yes_ltb at.1)
      ]))

  -- the lanes from `count` on, and zeros after them
  looked-up : (k : ℕ) → k < 16 → get_or (swz_l w8 16 lanes 0 js) k 0 ≡ get_or lanes (count + k) 0
  looked-up k lt =
      let in_places : k < length js = omega (arith, length-places) in
      elim (leb_tells 16 (count + k)) [
        | inl past ↦ get_or-swz_l w8 16 lanes 0 js k in_places ∙ rw (place k lt, place_after (count + k) past.1 (omega arith)) (sym (get_or_past lanes (count + k) 0 (omega (arith, whole, past.1))))
        | inr at ↦
            let j : get_or js k 0 ≡ count + k = place k lt ∙ place_at (count + k) at.1 in
            get_or-swz_l_below w8 16 lanes 0 js k in_places (omega (arith, j, at.1)) ∙ ap (λ i. get_or lanes i 0) (omega (arith, j, at.1))
      ]

  -- which are the lanes moved down
  down-lane : (k : ℕ) → k < 16 → get_or (drop count lanes ++ replicate count 0) k 0 ≡ get_or lanes (count + k) 0
  down-lane k h =
      let rest : length (drop count lanes) ≡ 16 - count = omega (arith, length-drop count lanes, whole) in
      elim (leb_tells (16 - count) k) [
        | inl past ↦
            get_or-append_right (drop count lanes) (replicate count 0) (16 - count) k 0 rest past.1
            ∙ get_or-replicate {A = ℕ} count (k - (16 - count)) 0 0 (omega (arith, past.1))
            ∙ sym (get_or_past lanes (count + k) 0 (omega (arith, past.1, whole)))
        | inr below ↦ get_or_append_left (drop count lanes) (replicate count 0) 0 k (omega (arith, rest, below.1)) ∙ get_or-drop count lanes k 0
      ]

  pub moved_down : swz_l w8 16 lanes 0 js ≡ drop count lanes ++ replicate count 0
  moved_down =
      let long = length-swz_l w8 16 lanes 0 js ∙ length-places in
      let wide : length (drop count lanes ++ replicate count 0) ≡ 16 = simp (length-append, length-replicate) (omega (arith, length-drop count lanes, whole)) in
      ext_get_or 0 _ _ (long ∙ sym wide) (λ k h. let lt : k < 16 = omega (arith, long) in looked-up k lt ∙ sym (down-lane k lt))
