-- The laws of every output, in one record.
use Rattle.escape_simd.proofs.Words.{◌≡◌, ℕ, ◌≤◌, List, [], ◌∷◌, ◌++◌, IsUtf8, arith, drop_at, drop, length, ap, refl, ◌∙◌, nat_tests, All-from_recursion, replacement, Mode, json, html, script, IsOneLine, IsHarmless, IsEscaping, appended, inner, plain, All-append}
use Rattle.escape_simd.proofs.HtmlLemmas.{html_ampersands_begin_entities, html_is_markup_free}
use Rattle.escape_simd.proofs.MarkupLaws.{html_has_no_markup}
use Rattle.escape_simd.proofs.OutputLemmas.{IsTextOf-chars, IsUtf8-output, IsOnlyOutput-output, IsOfOneText-output, HasOutputLength-output, JoinsTexts-output}
use Rattle.escape_simd.proofs.ScriptLemmas.{script_is_one_line, script_is_safe}
use Rattle.escape_simd.proofs.SpellingLemmas.{each_flat_map}

-- a JSON literal stands on one line
pub json_is_one_line : (bytes : List ℕ) → IsOneLine (plain json bytes)
unfolding replacement
json_is_one_line bytes =
    let printed = each_flat_map (λ x. 0x20 ≤ x) (replacement json) (λ b. grind (arith, nat_tests)) bytes in
    let quote = All-from_recursion (λ x. 0x20 ≤ x) (0x22 ∷ []) (omega arith, tt) in
    All-append (λ x. 0x20 ≤ x) (0x22 ∷ []) (inner json bytes ++ 0x22 ∷ []) quote (All-append (λ x. 0x20 ≤ x) (inner json bytes) (0x22 ∷ []) printed quote)

-- the output for a text can stand in its place
IsHarmless-output : (mode : Mode) (bytes output : List ℕ) → output ≡ plain mode bytes → IsHarmless mode output
IsHarmless-output json bytes output same = rw same (json_is_one_line bytes)
IsHarmless-output html bytes output same = rw same (search (html_is_markup_free, html_ampersands_begin_entities, html_has_no_markup))
IsHarmless-output script bytes output same = rw same (search (script_is_one_line, script_is_safe))

-- the output for the bytes of a `&str`
pub IsEscaping-output : (mode : Mode) (bytes output : List ℕ) → output ≡ plain mode bytes → IsUtf8 bytes → IsEscaping mode bytes output
IsEscaping-output mode bytes output same utf8 =
    search (IsTextOf-chars, IsOnlyOutput-output, IsUtf8-output, IsHarmless-output, JoinsTexts-output, IsOfOneText-output, HasOutputLength-output)

-- what was appended to the bytes of a vector
pub IsEscaping-appended : (mode : Mode) (bytes old new : List ℕ) → new ≡ old ++ plain mode bytes → IsUtf8 bytes → IsEscaping mode bytes (appended old new)
IsEscaping-appended mode bytes old new same utf8 =
    IsEscaping-output mode bytes (appended old new) (ap (drop (length old)) same ∙ drop_at old (plain mode bytes) (length old) refl) utf8
