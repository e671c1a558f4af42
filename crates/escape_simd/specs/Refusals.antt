-- What an error of one mode is, told whatever the mode.
use Rattle.escape_simd.specs.declared.html.error.EscapeHtmlError.{EscapeHtmlError}
use Rattle.escape_simd.specs.declared.html.error.EscapeHtmlError.TheVariants as html
use Rattle.escape_simd.specs.declared.json.error.EscapeError.{EscapeError}
use Rattle.escape_simd.specs.declared.json.error.EscapeError.TheVariants as json
use Rattle.escape_simd.specs.declared.output.error.Refusal.{Refusal}
use Rattle.escape_simd.specs.declared.output.error.Refusal.TheVariants as any

-- in JSON and script literals
abbrev pub refusal_of : EscapeError → Refusal
refusal_of json.TooLarge = any.TooLarge
refusal_of json.OutOfMemory = any.OutOfMemory

-- in HTML
abbrev pub html_refusal_of : EscapeHtmlError → Refusal
html_refusal_of (html.TooLarge _) = any.TooLarge
html_refusal_of html.OutOfMemory = any.OutOfMemory
