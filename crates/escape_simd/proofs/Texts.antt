-- What a text still needs from a place on: its escaping, its escapes and its runs.
use Rattle.escape_simd.proofs.Words.{◌≡◌, ℕ, zero, suc, ◌+◌, ◌-◌, ◌<◌, ◌≤◌, Bool, true, false, not, ◌&&◌, if◌then◌else◌, cond, List, [], ◌∷◌, ◌++◌, length, length-append, drop, get_or, length-drop, ◌*◌, refl, ap, ◌∙◌, arith, inl, inr, cases_Bool, get_or_past, nat_tests, drop-drop, sum_by-append, prefix_len-drop_yes, prefix_len-drop_no, Mode, script, needs_escape, inner, begins_separator, source_len, first_replacement, script_inner_after, escaped_count, runs_after, run_count_after, run_count, script_escapes_after, script_runs_after, run_end}
use Rattle.std.proofs.lemmas.List.{drop_more}
use Rattle.escape_simd.proofs.ReplacementLemmas.{inner-clean_byte, inner-nil, length-replacement}

-- How far the first of what stands for bytes goes

-- one byte or three
pub one≤source_len : (mode : Mode) (bytes : List ℕ) → (1 ≤ source_len mode bytes) × (source_len mode bytes ≤ 3)
one≤source_len mode bytes = grind (arith, nat_tests)

-- bytes of the list
pub source_len≤length : (mode : Mode) (bytes : List ℕ) → 0 < length bytes → source_len mode bytes ≤ length bytes
unfolding begins_separator
source_len≤length mode bytes some = grind (arith, nat_tests, get_or_past bytes 2 0)

-- where no escape is needed, one
passed-clean : (mode : Mode) (b : ℕ) (bs : List ℕ) → needs_escape mode b ≡ false → source_len mode (b ∷ bs) ≡ 1
unfolding begins_separator
passed-clean mode b bs clean = grind (arith, nat_tests)

-- a byte that is passed with the one before it needs no escape
pub source_len-between : (mode : Mode) (bytes : List ℕ) (k : ℕ) → 0 < k → k < source_len mode bytes → needs_escape mode (get_or bytes k 0) ≡ false
unfolding begins_separator
source_len-between mode bytes k some h = grind (arith, nat_tests)

-- What stands for bytes, and its counts, one step on

-- a recursion that passes over the first n bytes does as on the bytes after them
after-drop : {X : Type 0} (f : ℕ → List ℕ → X) → ((n : ℕ) → f n [] ≡ f 0 []) → ((n b : ℕ) (bs : List ℕ) → f (suc n) (b ∷ bs) ≡ f n bs)
    → (n : ℕ) (bs : List ℕ) → f n bs ≡ f 0 (drop n bs)
after-drop f none past zero bs = refl
after-drop f none past (suc n) [] = none (suc n)
after-drop f none past (suc n) (b ∷ bs) = past n b bs ∙ after-drop f none past n bs

-- no byte needs an escape
abbrev pub IsClean : Mode → List ℕ → Type 0
IsClean mode xs = (k : ℕ) → k < length xs → needs_escape mode (get_or xs k 0) ≡ false

module _ (b : ℕ) (bs : List ℕ) where
  -- the first of what stands for bytes, and the rest
  pub inner-step : (mode : Mode) → inner mode (b ∷ bs) ≡ first_replacement mode (b ∷ bs) ++ inner mode (drop (source_len mode (b ∷ bs) - 1) bs)
  unfolding script_inner_after
  inner-step script = ap (λ xs. first_replacement script (b ∷ bs) ++ xs) (after-drop script_inner_after (λ _. refl) (λ _ _ _. refl) (source_len script (b ∷ bs) - 1) bs)
  inner-step mode = refl

  -- one byte more, by whether it needs an escape
  pub escaped-step : (mode : Mode) → escaped_count mode (b ∷ bs) ≡ escaped_count mode (drop (source_len mode (b ∷ bs) - 1) bs) + cond (needs_escape mode b) 1 0
  unfolding script_escapes_after
  escaped-step script = omega (arith, after-drop script_escapes_after (λ _. refl) (λ _ _ _. refl) (source_len script (b ∷ bs) - 1) bs)
  escaped-step mode = omega (arith, sum_by-append (λ x. cond (needs_escape mode x) 1 0) (b ∷ []) bs)

  -- one run more where it needs an escape and the byte before it isn't marked
  pub runs-step : (mode : Mode) (before : Bool) → run_count_after mode before (b ∷ bs)
      ≡ (if needs_escape mode b && not before then 1 else 0) + run_count_after mode (needs_escape mode b) (drop (source_len mode (b ∷ bs) - 1) bs)
  unfolding runs_after script_runs_after
  runs-step script before = elim (cases_Bool (needs_escape script b)) [
    | inl needed ↦ rw needed (omega (arith, after-drop (script_runs_after true) (λ _. refl) (λ _ _ _. refl) (source_len script (b ∷ bs) - 1) bs))
    | inr clean ↦ rw (clean, passed-clean script b bs clean) refl
  ]
  runs-step mode before = refl

-- no byte, no run
pub runs-empty : (mode : Mode) (before : Bool) → run_count_after mode before [] ≡ 0
unfolding runs_after script_runs_after
runs-empty mode before = grind arith

-- no byte, no escape
pub escaped-empty : (mode : Mode) → escaped_count mode [] ≡ 0
unfolding script_escapes_after
escaped-empty mode = grind arith

module _ (mode : Mode) where
  -- within a run at most one run fewer begins
  pub runs_after-≤ : (bs : List ℕ) → run_count mode bs ≤ run_count_after mode true bs + 1
  runs_after-≤ [] = grind (arith, runs-empty)
  runs_after-≤ (b ∷ bs) = grind (arith, nat_tests, runs-step)

  -- clean bytes at the front
  module _ (ys : List ℕ) where
    -- they stand for themselves
    pub inner-clean : (xs : List ℕ) → IsClean mode xs → inner mode (xs ++ ys) ≡ xs ++ inner mode ys
    inner-clean [] h = refl
    inner-clean (x ∷ xs) h = inner-clean_byte mode x (xs ++ ys) (h 0 (omega arith)) ∙ ap (λ zs. x ∷ zs) (inner-clean xs (λ k l. h (suc k) (omega arith)))

    -- none of them is escaped
    pub escaped_count-clean : (xs : List ℕ) → IsClean mode xs → escaped_count mode (xs ++ ys) ≡ escaped_count mode ys
    escaped_count-clean [] h = refl
    escaped_count-clean (x ∷ xs) h = grind (arith, nat_tests, escaped-step, passed-clean, h 0 (omega arith), escaped_count-clean xs (λ k l. h (suc k) (omega arith)))

    -- none of them begins a run
    pub run_count-clean : (xs : List ℕ) → IsClean mode xs → run_count mode (xs ++ ys) ≡ run_count mode ys
    run_count-clean [] h = refl
    run_count-clean (x ∷ xs) h = grind (arith, nat_tests, runs-step, passed-clean, h 0 (omega arith), run_count-clean xs (λ k l. h (suc k) (omega arith)))

  -- the rest of a text, one step on
  module _ (src : List ℕ) (i : ℕ) (inside : i < length src) where
    -- a byte that is passed alone begins a run where it needs an escape and the one before it isn't marked
    pub runs-here : source_len mode (drop i src) ≡ 1 → (before : Bool) → run_count_after mode before (drop i src)
        ≡ (if needs_escape mode (get_or src i 0) && not before then 1 else 0) + run_count_after mode (needs_escape mode (get_or src i 0)) (drop (i + 1) src)
    runs-here alone before = grind (arith, nat_tests, runs-step, drop_more src i 0 inside)

    -- what stands there, and for the rest
    pub inner-here : inner mode (drop i src) ≡ first_replacement mode (drop i src) ++ inner mode (drop (i + source_len mode (drop i src)) src)
    inner-here = grind (arith, drop_more src i 0 inside, inner-step, one≤source_len, drop-drop)

    module _ (needed : needs_escape mode (get_or src i 0) ≡ true) where
      -- one more that is escaped
      pub escaped-here : escaped_count mode (drop i src) ≡ escaped_count mode (drop (i + source_len mode (drop i src)) src) + 1
      escaped-here = grind (arith, nat_tests, escaped-step, drop_more src i 0 inside, one≤source_len, drop-drop)

      -- it begins a run where none is open
      pub first-here : run_count mode (drop i src) ≡ run_count_after mode true (drop (i + source_len mode (drop i src)) src) + 1
      first-here = grind (arith, nat_tests, runs-step, drop_more src i 0 inside, one≤source_len, drop-drop)

      -- it goes on with an open run
      pub next-here : run_count_after mode true (drop i src) ≡ run_count_after mode true (drop (i + source_len mode (drop i src)) src)
      next-here = grind (arith, nat_tests, runs-step, drop_more src i 0 inside, one≤source_len, drop-drop)

      -- the run goes on past it
      pub run_end-here : run_end mode src i ≡ run_end mode src (i + 1)
      run_end-here = omega (arith, prefix_len-drop_yes (needs_escape mode) src i 0 inside needed)

    module _ (clean : needs_escape mode (get_or src i 0) ≡ false) where
      -- it ends an open run
      pub runs_stop-here : run_count_after mode true (drop i src) ≡ run_count mode (drop i src)
      runs_stop-here = grind (arith, nat_tests, runs-step, drop_more src i 0 inside)

      -- it is passed alone
      pub passed_clean-here : source_len mode (drop i src) ≡ 1
      passed_clean-here = rw (drop_more src i 0 inside) (passed-clean mode (get_or src i 0) (drop (i + 1) src) clean)

      -- it is not escaped
      pub escaped_clean-here : escaped_count mode (drop i src) ≡ escaped_count mode (drop (i + 1) src)
      escaped_clean-here = grind (arith, nat_tests, escaped-step, passed_clean-here, drop_more src i 0 inside)

      -- a run ends there
      pub run_end-stop : run_end mode src i ≡ i
      run_end-stop = omega (arith, prefix_len-drop_no (needs_escape mode) src i 0 inside clean)

-- How long what stands for bytes is

-- a separator by six bytes
pub length-separator : (bytes : List ℕ) → begins_separator bytes ≡ true → length (first_replacement script bytes) ≡ 6
length-separator bytes begins = grind (arith, nat_tests)

-- the first of what stands for bytes has as many bytes at least as it stands for, and six times as many at most
pub length-first : (mode : Mode) (bytes : List ℕ) → (source_len mode bytes ≤ length (first_replacement mode bytes)) × (length (first_replacement mode bytes) ≤ 6 * source_len mode bytes)
length-first mode bytes = grind (arith, nat_tests, length-separator, length-replacement)

-- bytes are written by as many bytes at least, and six times as many at most
pub length-inner : (mode : Mode) (bytes : List ℕ) → (length bytes ≤ length (inner mode bytes)) × (length (inner mode bytes) ≤ 6 * length bytes)
length-inner mode bytes = by_steps (length bytes) bytes (omega arith)
  where
    by_steps : (n : ℕ) (bs : List ℕ) → length bs ≤ n → (length bs ≤ length (inner mode bs)) × (length (inner mode bs) ≤ 6 * length bs)
    by_steps n [] h = grind (arith, inner-nil)
    by_steps zero (b ∷ bs) h = absurd (omega arith)
    by_steps (suc n) (b ∷ bs) h =
        let rest = by_steps n (drop (source_len mode (b ∷ bs) - 1) bs) (omega (arith, length-drop (source_len mode (b ∷ bs) - 1) bs)) in
        grind (arith, one≤source_len, source_len≤length mode (b ∷ bs), length-first, inner-step, length-append {A = ℕ}, length-drop {A = ℕ})
