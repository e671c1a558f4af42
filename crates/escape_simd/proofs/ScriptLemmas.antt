-- Laws of JSON literals for script elements.
use Rattle.escape_simd.proofs.Words.{◌≡◌, ◌≢◌, ℕ, zero, suc, ◌<◌, ◌≤◌, true, false, List, [], ◌∷◌, ◌++◌, length, codes, slice_index_or, ◌⊎◌, encode_utf8_all, refl, sym, ap, subst, ◌∙◌, append_assoc, arith, inl, inr, get_or_append_left, IsOneLine, IsScalar, encode_utf8, all_scalars, AllByRecursion, cond_both, true≢false, nat_tests, All-from_recursion, json, script, replacement, begins_separator, script_inner_after, inner, plain, IsJsonItem, raw, short, hex, pair, digits, IsLowerItem, short_escape, is_script_marked, HasNoRawMark, IsScriptItem, IsOnlyScript, IsSafeInScript, All-weaker, All}
use Rattle.escape_simd.proofs.ReplacementLemmas.{script_cases, replacement-high, length-replacement}
use Rattle.escape_simd.proofs.JsonLemmas as Json

-- what stands for a character
abbrev piece : ℕ → List ℕ
piece c = inner script (encode_utf8 c)

-- an item of a character that isn't marked is no raw mark
unmarked_item : (i : List ℕ) (c : ℕ) (item : IsJsonItem i c) → is_script_marked c ≡ false → HasNoRawMark item
unmarked_item i c (raw _ _ _ _) other = other
unmarked_item i c item other = tt

-- what stands for a character is an item of it that is no raw mark and has no upper-case hex digit
both_item : (c : ℕ) → IsScalar c → IsScriptItem (piece c) c × IsLowerItem (piece c) c
both_item c scalar =
    script_cases c (λ p. IsScriptItem p c × IsLowerItem p c)
    (λ marked.
    let low : c < 0xd800 = grind (arith, nat_tests) in
    let form = Json.hex_form c (omega arith) in
    ((hex form.0 (inl low), tt), (hex form.0 (inl low), form.1)))
    (λ other. let item = Json.lower_item c scalar in ((item.0, unmarked_item (inner json (encode_utf8 c)) c item.0 other), item))

-- what stands for a character is as short as it can be
IsPiece-script : (c : ℕ) → Json.IsPiece (piece c) c
unfolding short_escape
IsPiece-script c =
    script_cases c (λ p. Json.IsPiece p c)
    (λ marked. grind (arith, nat_tests))
    (λ other. Json.IsPiece-json c)

-- no item is shorter than what stands for the character
least : (i : List ℕ) (c : ℕ) → IsScriptItem i c → length (piece c) ≤ length i
least i c (raw _ h k l, other) = script_cases c (λ p. length p ≤ length (encode_utf8 c)) (λ marked. absurd (true≢false (sym marked ∙ other))) (λ _. omega (arith, ap length (Json.piece-raw c h k l)))
least i c (short {b = b} s, _) = grind (arith, (IsPiece-script c).letter b s)
least i c (hex (digits _ _ _ _) _, _) = (IsPiece-script c).most
least i c (pair (digits _ _ _ _) (digits _ _ _ _) _ _, _) = omega (arith, (IsPiece-script c).most)

-- the output for the bytes of a text is the only shortest literal by such items
pub only_script : (text : List ℕ) → all_scalars text ≡ true → Json.IsOnly IsScriptItem (plain script (encode_utf8_all text)) text
only_script text scalars = Json.IsOnly-quoted IsScriptItem script (λ i c item. item.0) IsPiece-script least both_item text scalars

-- and so it is the only one for the text
pub IsOnlyScript-plain : (text : List ℕ) → all_scalars text ≡ true → IsOnlyScript (plain script (encode_utf8_all text)) text
IsOnlyScript-plain text scalars =
    let h = only_script text scalars in
    record {
      shortest = record { free = h.literal; least = h.least };
      lower = h.lower;
      only = λ other shortest lower. h.only other shortest.free lower (shortest.least (plain script (encode_utf8_all text)) h.literal);
      one_text = h.one_text;
    }

-- Script elements

-- no control character, and no `<`, `>` or `&`
abbrev IsHarmlessByte : ℕ → Type 0
IsHarmlessByte b = (0x20 ≤ b) × (b ≢ 0x3c) × (b ≢ 0x3e) × (b ≢ 0x26)

-- such a byte below 128
abbrev IsSafeByte : ℕ → Type 0
IsSafeByte b = (b < 128) × IsHarmlessByte b

-- such is what stands for each byte below 128
replacement_safe : (b : ℕ) → b < 128 → AllByRecursion IsSafeByte (replacement script b) × (slice_index_or (replacement script b) 0 0 < 128)
unfolding replacement
replacement_safe b low = grind (arith, nat_tests)

-- harmless bytes, of which none begins a separator
abbrev IsSafe : List ℕ → Type 0
IsSafe [] = Unit {0}
IsSafe (b ∷ bs) = IsHarmlessByte b × (begins_separator (b ∷ bs) ≡ false) × IsSafe bs

-- bytes that are safe each before safe bytes
safe_before : (xs ys : List ℕ) → AllByRecursion IsSafeByte xs → IsSafe ys → IsSafe (xs ++ ys)
unfolding begins_separator
safe_before [] ys h safe = safe
safe_before (x ∷ xs) ys h safe = (h.0.1, grind (arith, nat_tests), safe_before xs ys h.1 safe)

-- what stands for bytes, and the closing quotation mark
abbrev closed : ℕ → List ℕ → List ℕ
closed n bytes = script_inner_after n bytes ++ 0x22 ∷ []

-- What is written for bytes begins with safe bytes, the replacement of the first or of a separator, or with a byte from 128 on that
-- stands for itself and begins no separator.
first_step : (b : ℕ) (bs : List ℕ) → ((xs : List ℕ) × (n : ℕ) × AllByRecursion IsSafeByte xs × (0 < length xs) × (slice_index_or xs 0 0 < 128) × (inner script (b ∷ bs) ≡ xs ++ script_inner_after n bs))
    ⊎ ((128 ≤ b) × (begins_separator (b ∷ bs) ≡ false) × (inner script (b ∷ bs) ≡ b ∷ inner script bs))
unfolding script_inner_after
first_step b bs = grind (arith, nat_tests, slice_index_or, codes, cond_both, replacement_safe, length-replacement, replacement-high)

-- so this begins below 128, or as the bytes do
first_of : (bytes : List ℕ) → (slice_index_or (closed 0 bytes) 0 0 < 128) ⊎ ((b : ℕ) × (bs : List ℕ) × (bytes ≡ b ∷ bs) × (closed 0 bytes ≡ b ∷ closed 0 bs))
unfolding script_inner_after
first_of [] = inl (omega arith)
first_of (b ∷ bs) = grind (arith, first_step, get_or_append_left, append_assoc)

-- what begins a separator there began it in the text
separator_kept : (b : ℕ) (bs : List ℕ) → begins_separator (b ∷ bs) ≡ false → begins_separator (b ∷ closed 0 bs) ≡ false
unfolding begins_separator
separator_kept b bs other = grind (arith, nat_tests, first_of)

-- what stands for bytes is safe, with the closing quotation mark
inner_safe : (n : ℕ) (bytes : List ℕ) → IsSafe (closed n bytes)
unfolding script_inner_after
inner_safe n [] = safe_before (0x22 ∷ []) [] (omega arith) tt
inner_safe (suc n) (b ∷ bs) = inner_safe n bs
inner_safe zero (b ∷ bs) =
    elim (first_step b bs) [
      | inl (xs, n, safe, some, low, written) ↦ rw (written, append_assoc) (safe_before xs (closed n bs) safe (inner_safe n bs))
      | inr (high, other, written) ↦ rw written (omega arith, separator_kept b bs other, inner_safe 0 bs)
    ]

-- safe bytes are harmless
harmless : (bytes : List ℕ) → IsSafe bytes → AllByRecursion IsHarmlessByte bytes
harmless [] safe = tt
harmless (b ∷ bs) safe = (safe.0, harmless bs safe.2)

-- and no separator is among them
no_separator : (front rest : List ℕ) (x : ℕ) → begins_separator (0xe2 ∷ 0x80 ∷ x ∷ []) ≡ true → IsSafe (front ++ 0xe2 ∷ 0x80 ∷ x ∷ rest) → ⊥
unfolding begins_separator
no_separator [] rest x begins safe = true≢false (sym begins ∙ safe.1)
no_separator (_ ∷ front) rest x begins safe = no_separator front rest x begins safe.2

module _ (bytes : List ℕ) where
  -- the output for any bytes is safe
  output_safe : IsSafe (plain script bytes)
  output_safe = safe_before (0x22 ∷ []) (closed 0 bytes) (omega arith) (inner_safe 0 bytes)

  output_harmless : All IsHarmlessByte (plain script bytes)
  output_harmless = All-from_recursion IsHarmlessByte (plain script bytes) (harmless (plain script bytes) output_safe)

  -- so it stands on one line
  pub script_is_one_line : IsOneLine (plain script bytes)
  script_is_one_line = All-weaker IsHarmlessByte (λ b. 0x20 ≤ b) (λ b h. h.0) (plain script bytes) output_harmless

  -- and can stand in a script element
  pub script_is_safe : IsSafeInScript (plain script bytes)
  unfolding begins_separator
  script_is_safe = record {
    no_markup = All-weaker IsHarmlessByte (λ b. (b ≢ 0x3c) × (b ≢ 0x3e) × (b ≢ 0x26)) (λ b h. (h.1, h.2, h.3)) (plain script bytes) output_harmless;
    no_line_separator = λ front rest is. no_separator front rest 0xa8 refl (subst IsSafe is output_safe);
    no_paragraph_separator = λ front rest is. no_separator front rest 0xa9 refl (subst IsSafe is output_safe);
  }
