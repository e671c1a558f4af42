-- A text that is cut into pieces.
use Rattle.escape_simd.proofs.Words.{◌≡◌, ℕ, ◌+◌, ◌-◌, ◌<◌, ◌≤◌, List, [], ◌∷◌, ◌++◌, length, length-drop, take, drop, slice_range, IsUtf8, chars, encode_utf8_all, sym, ap, arith, inl, inr, IsCharBoundary, len_utf8, take-add, cases_lt, IsUtf8-take, IsUtf8-drop, IsCharBoundary-past_char, encodes-chars, len_utf8_bounds, Mode, script, inner}
use Rattle.escape_simd.proofs.OutputLemmas.{CanBeCutAfter, inner-append}

-- a text can be cut after a text
pub cut-text : (mode : Mode) (first : List ℕ) → IsUtf8 first → CanBeCutAfter mode first
cut-text script first utf8 = utf8
cut-text mode first utf8 = tt

-- A character has four bytes at most: where a text goes on, the nearest place before `index` at which one begins, or
-- the text ends, is past `at`.
module _ (bytes : List ℕ) (at index next : ℕ) (utf8 : IsUtf8 bytes) (here : IsCharBoundary bytes at) (inside : at < length bytes)
    (far : (n : ℕ) → n ≤ 4 → at + n ≤ length bytes → at + n ≤ index) (nearest : (i : ℕ) → next < i → i ≤ index → ¬ (IsCharBoundary bytes i)) where
  -- told of the character there
  past_first : next ≤ at → (text : List ℕ) → encode_utf8_all text ≡ drop at bytes → at < next
  past_first back [] e = absurd (omega (arith, ap length e, length-drop at bytes, inside))
  past_first back (c ∷ cs) e =
      let short = len_utf8_bounds c in
      let ends = IsCharBoundary-past_char bytes (encode_utf8_all cs) at c here.0 (IsUtf8-drop bytes at utf8 here) (sym e) in
      absurd (nearest (at + len_utf8 c) (omega (arith, back, short)) (far (len_utf8 c) short.1 ends.0) ends)

  pub cut-forward : at < next
  cut-forward = elim (cases_lt at next) [
    | inl past ↦ past
    | inr back ↦ past_first back (chars (drop at bytes)) (encodes-chars (drop at bytes) (IsUtf8-drop bytes at utf8 here))
  ]

-- what stands for what was passed, and for one piece more
pub inner-piece : (mode : Mode) (bytes : List ℕ) (at next : ℕ) → IsUtf8 bytes → IsCharBoundary bytes at → at ≤ next → inner mode (take next bytes) ≡ inner mode (take at bytes) ++ inner mode (slice_range bytes at next)
inner-piece mode bytes at next utf8 here forward =
    let e : at + (next - at) ≡ next = omega arith in
    let all : take next bytes ≡ take at bytes ++ slice_range bytes at next = rw e at (take-add at (next - at) bytes) in
    inner-append mode (take next bytes) (take at bytes) (slice_range bytes at next) all (cut-text mode (take at bytes) (IsUtf8-take bytes at utf8 here))
