-- What the errors are written as.
use Rattle.std.specs.Prelude.{ℕ, List, codes}
use Rattle.escape_simd.specs.declared.json.error.EscapeError.{EscapeError}
use Rattle.escape_simd.specs.declared.json.error.EscapeError.TheVariants as json
use Rattle.escape_simd.specs.declared.html.error.EscapeHtmlError.{EscapeHtmlError}
use Rattle.escape_simd.specs.declared.html.error.EscapeHtmlError.TheVariants as html
use Rattle.escape_simd.specs.declared.output.error.Refusal.{Refusal}
use Rattle.escape_simd.specs.declared.output.error.Refusal.TheVariants as any

abbrev pub escape_error_text : EscapeError → List ℕ
escape_error_text json.TooLarge = codes "input is too large to JSON-escape"
escape_error_text json.OutOfMemory = codes "out of memory"

abbrev pub input_too_large_text : List ℕ
input_too_large_text = codes "input is too large to HTML-escape"

abbrev pub escape_html_error_text : EscapeHtmlError → List ℕ
escape_html_error_text (html.TooLarge _) = input_too_large_text
escape_html_error_text html.OutOfMemory = codes "out of memory"

abbrev pub refusal_text : Refusal → List ℕ
refusal_text any.TooLarge = codes "input is too large to escape"
refusal_text any.OutOfMemory = codes "out of memory"
