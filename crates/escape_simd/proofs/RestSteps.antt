-- How long the rest of a text becomes, some bytes further on.
use Rattle.escape_simd.proofs.Words.{◌≡◌, ℕ, zero, suc, ◌+◌, ◌-◌, ◌*◌, ◌<◌, ◌≤◌, Bool, true, false, cond, List, [], ◌∷◌, ◌++◌, length, drop, get_or, refl, ap, arith, length-append, length-drop, length-take-le, slice_range, sum_by-cons, Mode, script, needs_escape, flag_count, inner, source_len, first_replacement, escaped_count, rest_length, run_count}
use Rattle.std.proofs.lemmas.List.Folds.{drop_split}
use Rattle.escape_simd.proofs.Escapes.{passed-after}
use Rattle.escape_simd.proofs.Lanes.{CleanFrom, clean-list}
use Rattle.escape_simd.proofs.ReplacementLemmas.{length-replacement}
use Rattle.escape_simd.proofs.Texts.{IsClean, inner-clean, escaped_count-clean, run_count-clean, length-inner, one≤source_len, source_len≤length, inner-here, length-first, length-separator}

-- how long the rest of a text becomes, as its definition says
pub rest-is : (mode : Mode) (src : List ℕ) (at : ℕ) → rest_length mode src at ≡ length (inner mode (drop at src))
unfolding rest_length
rest-is mode src at = refl

-- as many bytes at least as it has, and six times as many at most
pub rest-bounds : (mode : Mode) (src : List ℕ) (at : ℕ) → (length src - at ≤ rest_length mode src at) × (rest_length mode src at ≤ 6 * (length src - at))
rest-bounds mode src at = grind (arith, rest-is, length-inner, length-drop {A = ℕ})

-- clean bytes
module _ (mode : Mode) (src : List ℕ) (at next : ℕ) (forward : at ≤ next) (clean : CleanFrom mode src at next) where
  -- as a list
  clean_list : IsClean mode (slice_range src at next)
  clean_list = let e : at + (next - at) ≡ next = omega arith in clean-list mode src at (next - at) (rw e clean)

  -- stand for themselves
  pub clean_inner : inner mode (drop at src) ≡ slice_range src at next ++ inner mode (drop next src)
  clean_inner = rw (← drop_split src at next forward) at (inner-clean mode (drop next src) (slice_range src at next) clean_list)

  -- are not escaped
  pub clean_escaped : escaped_count mode (drop at src) ≡ escaped_count mode (drop next src)
  clean_escaped = rw (← drop_split src at next forward) at (escaped_count-clean mode (drop next src) (slice_range src at next) clean_list)

  -- begin no run
  pub clean_runs : run_count mode (drop at src) ≡ run_count mode (drop next src)
  clean_runs = rw (← drop_split src at next forward) at (run_count-clean mode (drop next src) (slice_range src at next) clean_list)

  -- are as many bytes of what the rest becomes
  pub clean_rest : next ≤ length src → rest_length mode src at ≡ next - at + rest_length mode src next
  clean_rest inside = grind (arith, rest-is, clean_inner, length-append {A = ℕ}, length-take-le {A = ℕ}, length-drop {A = ℕ})

-- the first of what stands for bytes has at most five bytes more than it stands for
first-few : (mode : Mode) (bytes : List ℕ) → length (first_replacement mode bytes) ≤ source_len mode bytes + 5
first-few script bytes = grind (arith, length-separator, length-replacement)
first-few mode bytes = omega (arith, length-replacement mode (get_or bytes 0 0))

module _ (mode : Mode) (src : List ℕ) where
  -- the bytes that are passed with the one before them are clean
  pub passed-clean_rest : (i : ℕ) → i < length src → rest_length mode src (i + 1) + 1 ≡ source_len mode (drop i src) + rest_length mode src (i + source_len mode (drop i src))
  passed-clean_rest i inside =
      let clean : CleanFrom mode src (i + 1) (i + source_len mode (drop i src)) = λ q late early. passed-after mode src i _ q refl (omega arith) early in
      let fits = source_len≤length mode (drop i src) (omega (arith, length-drop i src)) in
      omega (arith, clean_rest mode src (i + 1) (i + source_len mode (drop i src)) (omega (arith, one≤source_len mode (drop i src))) clean (omega (arith, length-drop i src)), one≤source_len mode (drop i src))

  -- a byte becomes one byte at least, and six at most
  rest-step : (i : ℕ) → i < length src → (rest_length mode src (i + 1) + 1 ≤ rest_length mode src i) × (rest_length mode src i ≤ rest_length mode src (i + 1) + 6)
  rest-step i inside = grind (arith, passed-clean_rest, length-first, first-few, inner-here, length-append {A = ℕ}, rest-is)

  -- n bytes become n bytes at least, and six times n at most
  rest-steps : (n i next : ℕ) → next ≡ i + n → next ≤ length src → (rest_length mode src next + n ≤ rest_length mode src i) × (rest_length mode src i ≤ rest_length mode src next + 6 * n)
  rest-steps zero i next e h = let r : next ≡ i = omega arith in grind arith
  rest-steps (suc n) i next e h = let more = rest-steps n (i + 1) next (omega arith) h in grind (arith, rest-step)

  -- and as many as they are, and five more for each lane that is set, where the bytes of all others are clean
  pub rest-flagged : (n i : ℕ) (bits : List Bool) → i + n ≤ length src → ((k : ℕ) → k < n → get_or bits k false ≡ false → needs_escape mode (get_or src (i + k) 0) ≡ false) → rest_length mode src i ≤ rest_length mode src (i + n) + (n + 5 * flag_count bits)
  rest-flagged zero i bits h clean = let r : i + 0 ≡ i = omega arith in grind arith
  rest-flagged (suc n) i [] h clean =
      let more = rest-flagged n (i + 1) [] (omega arith) (λ k few none. grind (arith, clean (suc k))) in
      let there : i + suc n ≡ i + 1 + n = omega arith in let next = ap (rest_length mode src) there in
      omega (arith, more, next, clean_rest mode src i (i + 1) (omega arith) (λ p late early. grind (arith, clean 0)) (omega arith))
  rest-flagged (suc n) i (false ∷ bits) h clean =
      let more = rest-flagged n (i + 1) bits (omega arith) (λ k few none. grind (arith, clean (suc k))) in
      let there : i + suc n ≡ i + 1 + n = omega arith in let next = ap (rest_length mode src) there in
      omega (arith, more, next, sum_by-cons (λ b. cond b 1 0) false bits, clean_rest mode src i (i + 1) (omega arith) (λ p late early. grind (arith, clean 0)) (omega arith))
  rest-flagged (suc n) i (true ∷ bits) h clean =
      let more = rest-flagged n (i + 1) bits (omega arith) (λ k few none. grind (arith, clean (suc k))) in
      let there : i + suc n ≡ i + 1 + n = omega arith in let next = ap (rest_length mode src) there in
      omega (arith, more, next, sum_by-cons (λ b. cond b 1 0) true bits, rest-step i (omega arith))

  -- the same, told of two places
  pub rest-between : (at next : ℕ) → at ≤ next → next ≤ length src → (rest_length mode src next + (next - at) ≤ rest_length mode src at) × (rest_length mode src at ≤ rest_length mode src next + 6 * (next - at))
  rest-between at next forward inside = rest-steps (next - at) at next (omega arith) inside
