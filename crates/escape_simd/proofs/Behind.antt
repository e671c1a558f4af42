-- Zeros behind the bytes of a text: what stands for the bytes stays, and what stands for the zeros follows.
use Rattle.escape_simd.proofs.Words.{◌≡◌, ℕ, zero, suc, ◌+◌, ◌-◌, ◌≤◌, Bool, false, List, [], ◌∷◌, ◌++◌, length, drop, get_or, replicate, refl, ap, arith, append_assoc, length-drop, get_or_append_left, get_or-append_right, get_or-replicate, get_or_past, length-replicate, drop-append-le, nat_tests, Mode, script, needs_escape, replacement, inner, begins_separator, source_len, first_replacement, escaped_count, run_count_after, run_count}
use Rattle.escape_simd.proofs.ReplacementLemmas.{inner-nil}
use Rattle.escape_simd.proofs.Texts.{source_len≤length, inner-step, escaped-step, runs-step, runs-empty, escaped-empty}

module _ (k : ℕ) where
  -- each byte stays, and what is read past them is zero
  pub get_or-behind : (xs : List ℕ) (i : ℕ) → get_or (xs ++ replicate k 0) i 0 ≡ get_or xs i 0
  get_or-behind xs i = grind (arith, get_or-append_right, get_or-replicate, length-replicate, get_or_past, get_or_append_left)

  -- the first of what stands for them goes as far, and is the same
  first-behind : (mode : Mode) (xs : List ℕ) → (source_len mode (xs ++ replicate k 0) ≡ source_len mode xs) × (first_replacement mode (xs ++ replicate k 0) ≡ first_replacement mode xs)
  unfolding begins_separator
  first-behind script xs = rw (get_or-behind xs 0, get_or-behind xs 1, get_or-behind xs 2) (refl, refl)
  first-behind mode xs = (refl, ap (replacement mode) (get_or-behind xs 0))

  -- past the first of it they go on as before
  drop-behind : (mode : Mode) (b : ℕ) (bs : List ℕ) → drop (source_len mode (b ∷ (bs ++ replicate k 0)) - 1) (bs ++ replicate k 0) ≡ drop (source_len mode (b ∷ bs) - 1) bs ++ replicate k 0
  drop-behind mode b bs = rw (first-behind mode (b ∷ bs)).0 (drop-append-le (source_len mode (b ∷ bs) - 1) bs (replicate k 0) (omega (arith, source_len≤length mode (b ∷ bs) (omega arith))))

module _ (mode : Mode) where
  -- where the byte before the first one is marked no more runs begin, and where it isn't neither
  runs-any : (before : Bool) (bs : List ℕ) → run_count_after mode before bs ≤ run_count mode bs
  runs-any before [] = grind (arith, runs-empty)
  runs-any before (b ∷ bs) = grind (arith, nat_tests, runs-step)

  -- what stands for at most n bytes and then for the zeros, their escapes, and no more runs than both have, where the byte before
  -- them is marked or isn't
  behind_few : (k n : ℕ) (before : Bool) (xs : List ℕ) → length xs ≤ n → (inner mode (xs ++ replicate k 0) ≡ inner mode xs ++ inner mode (replicate k 0))
      × (escaped_count mode (xs ++ replicate k 0) ≡ escaped_count mode xs + escaped_count mode (replicate k 0))
      × (run_count_after mode before (xs ++ replicate k 0) ≤ run_count_after mode before xs + run_count mode (replicate k 0))
  behind_few k n before [] h = (rw (inner-nil mode) refl, omega (arith, escaped-empty mode), omega (arith, runs-any before (replicate k 0)))
  behind_few k zero before (b ∷ bs) h = absurd (omega arith)
  behind_few k (suc n) before (b ∷ bs) h =
      let zeros : List ℕ = replicate k 0 in
      let left : List ℕ = drop (source_len mode (b ∷ bs) - 1) bs in
      let next = drop-behind k mode b bs in
      let rest = behind_few k n (needs_escape mode b) left (omega (arith, h, length-drop (source_len mode (b ∷ bs) - 1) bs)) in (
        rw (inner-step b (bs ++ zeros) mode, (first-behind k mode (b ∷ bs)).1, next, rest.0, inner-step b bs mode, append_assoc) refl,
        omega (arith, escaped-step b (bs ++ zeros) mode, escaped-step b bs mode, ap (escaped_count mode) next, rest.1),
        omega (arith, runs-step b (bs ++ zeros) mode before, runs-step b bs mode before, ap (run_count_after mode (needs_escape mode b)) next, rest.2),
      )

  module _ (xs : List ℕ) (k : ℕ) where
    -- what stands for the bytes, and then for the zeros
    pub inner-behind : inner mode (xs ++ replicate k 0) ≡ inner mode xs ++ inner mode (replicate k 0)
    inner-behind = (behind_few k (length xs) false xs (omega arith)).0

    -- the escapes of both
    pub escaped-behind : escaped_count mode (xs ++ replicate k 0) ≡ escaped_count mode xs + escaped_count mode (replicate k 0)
    escaped-behind = (behind_few k (length xs) false xs (omega arith)).1

    -- and no more runs than both have
    pub runs-behind : run_count mode (xs ++ replicate k 0) ≤ run_count mode xs + run_count mode (replicate k 0)
    runs-behind = (behind_few k (length xs) false xs (omega arith)).2
