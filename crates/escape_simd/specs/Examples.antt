-- Examples of what a reader makes of bytes: each kind of item, and bytes of which it makes nothing.
use Rattle.std.specs.Prelude.{ℕ, List, [], ◌∷◌, codes}
use Rattle.escape_simd.specs.Html.{HtmlReads}
use Rattle.escape_simd.specs.Json.{JsonDenotes}
use Rattle.escape_simd.specs.Script.{IsScriptFree}

-- JSON string literals, and the characters that they denote
pub record JsonExamples : Type 0 where
  -- none, and raw ones of one byte and of two
  pub empty : JsonDenotes (codes "\"\"") []
  pub letter : JsonDenotes (codes "\"a\"") (codes "a")
  pub two_bytes : JsonDenotes (0x22 ∷ 0xc3 ∷ 0xa9 ∷ 0x22 ∷ []) (0xe9 ∷ [])
  -- the eight short escapes
  pub marks : JsonDenotes (codes "\"\\\"\\\\\"") (0x22 ∷ 0x5c ∷ [])
  pub solidus : JsonDenotes (codes "\"\\/\"") (0x2f ∷ [])
  pub controls : JsonDenotes (codes "\"\\b\\t\\n\\f\\r\"") (0x08 ∷ 0x09 ∷ 0x0a ∷ 0x0c ∷ 0x0d ∷ [])
  -- hex escapes with each digit, in either case, and those next to the surrogates
  pub digits : JsonDenotes (codes "\"\\u0123\\u4567\\u89ab\\ucdef\"") (0x0123 ∷ 0x4567 ∷ 0x89ab ∷ 0xcdef ∷ [])
  pub lower : JsonDenotes (codes "\"\\u001f\"") (0x1f ∷ [])
  pub upper : JsonDenotes (codes "\"\\u001F\\u89AB\\uCDEF\"") (0x1f ∷ 0x89ab ∷ 0xcdef ∷ [])
  pub below : JsonDenotes (codes "\"\\uD7FF\"") (0xd7ff ∷ [])
  pub above : JsonDenotes (codes "\"\\uE000\"") (0xe000 ∷ [])
  -- surrogate pairs: one, the first and the last
  pub clef : JsonDenotes (codes "\"\\uD834\\uDD1E\"") (0x1d11e ∷ [])
  pub ends : JsonDenotes (codes "\"\\uD800\\uDC00\\uDBFF\\uDFFF\"") (0x10000 ∷ 0x10ffff ∷ [])
  -- no literal of any text: a lone surrogate, a raw control character, an escape that JSON lacks
  pub lone : (text : List ℕ) → ¬ JsonDenotes (codes "\"\\uD834\"") text
  pub control : (text : List ℕ) → ¬ JsonDenotes (0x22 ∷ 0x1f ∷ 0x22 ∷ []) text
  pub unknown : (text : List ℕ) → ¬ JsonDenotes (codes "\"\\a\"") text

-- bytes of HTML, and the characters that they read as
pub record HtmlExamples : Type 0 where
  pub entities : HtmlReads (codes "&quot;&amp;&#x27;&#x2f;&lt;&gt;") (codes "\"&'/<>")
  -- a raw `<` reads as itself
  pub raw : HtmlReads (codes "<") (codes "<")
  -- an entity is read once
  pub once : HtmlReads (codes "&amp;lt;") (codes "&lt;")
  -- no text: an ampersand that begins no entity
  pub ampersand : (text : List ℕ) → ¬ HtmlReads (codes "&") text

-- JSON string literals without raw `<`, `>`, `&`, U+2028 and U+2029
pub record ScriptExamples : Type 0 where
  pub letter : IsScriptFree (codes "\"a\"") (codes "a")
  pub escaped : IsScriptFree (codes "\"\\u003C\"") (codes "<")
  -- a raw one of them
  pub less : (text : List ℕ) → ¬ IsScriptFree (codes "\"<\"") text
  pub greater : (text : List ℕ) → ¬ IsScriptFree (codes "\">\"") text
  pub ampersand : (text : List ℕ) → ¬ IsScriptFree (codes "\"&\"") text
  pub line : (text : List ℕ) → ¬ IsScriptFree (0x22 ∷ 0xe2 ∷ 0x80 ∷ 0xa8 ∷ 0x22 ∷ []) text
  pub paragraph : (text : List ℕ) → ¬ IsScriptFree (0x22 ∷ 0xe2 ∷ 0x80 ∷ 0xa9 ∷ 0x22 ∷ []) text
