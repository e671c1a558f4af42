-- The laws that callers rest on, each of the plain escaping itself: of `plain mode bytes`, whatever the bytes, or of a text.
use Rattle.escape_simd.proofs.Words.{ℕ, List, IsUtf8, length, refl, Mode, IsEscaping, JoinsTexts, HasOutputLength, plain}
use Rattle.escape_simd.proofs.EscapingLemmas.{IsEscaping-output}
use Rattle.escape_simd.proofs.OutputLemmas.{IsUtf8-output, HasOutputLength-output, JoinsTexts-output}
-- Of any bytes

-- HTML: none of the bytes `"`, `'`, `/`, `<` and `>`, and each ampersand begins an entity
pub use Rattle.escape_simd.proofs.HtmlLemmas.{html_is_markup_free, html_ampersands_begin_entities}
-- JSON and script literals stand on one line
pub use Rattle.escape_simd.proofs.EscapingLemmas.{json_is_one_line}
-- script: no `<`, `>` or `&`, and no separator of lines or paragraphs
pub use Rattle.escape_simd.proofs.ScriptLemmas.{script_is_one_line, script_is_safe}

-- joined at every border
pub plain_joins : (mode : Mode) (bytes : List ℕ) → JoinsTexts mode bytes (plain mode bytes)
plain_joins mode bytes = JoinsTexts-output mode bytes (plain mode bytes) refl

-- one to six bytes for each byte, and the quotation marks
pub plain_length : (mode : Mode) (bytes : List ℕ) → HasOutputLength mode (length bytes) (plain mode bytes)
plain_length mode bytes = HasOutputLength-output mode bytes (plain mode bytes) refl

-- Of texts

-- a text again
pub plain_is_utf8 : (mode : Mode) (bytes : List ℕ) → IsUtf8 bytes → IsUtf8 (plain mode bytes)
plain_is_utf8 mode bytes utf8 = IsUtf8-output mode bytes (plain mode bytes) utf8 refl

-- all that is said of an output: the only one, of no other text
pub plain_is_escaping : (mode : Mode) (bytes : List ℕ) → IsUtf8 bytes → IsEscaping mode bytes (plain mode bytes)
plain_is_escaping mode bytes utf8 = IsEscaping-output mode bytes (plain mode bytes) refl utf8
