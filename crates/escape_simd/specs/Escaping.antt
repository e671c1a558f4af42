-- What an output is: all that is said of the bytes that stand for a text in a mode.
use Rattle.std.specs.Prelude.{◌≡◌, ℕ, ◌≤◌, List, [], length, All, IsUtf8, chars}
use Rattle.escape_lanes.specs.Mode.{Mode, json, html, script}
use Rattle.escape_simd.specs.Headline.{IsOnlyOutput}
use Rattle.escape_simd.specs.Html.{IsMarkupFree, AmpersandsBeginEntities}
use Rattle.escape_simd.specs.Laws.{JoinsTexts, IsOfOneText, HasOutputLength}
use Rattle.escape_simd.specs.Markup.{markup_of}
use Rattle.escape_simd.specs.Output.{plain}
use Rattle.escape_simd.specs.Script.{IsSafeInScript}
use Rattle.escape_simd.specs.Spelling.{IsTextOf}

-- no byte is below 0x20: there is no line feed and no carriage return
abbrev pub IsOneLine : List ℕ → Type 0
IsOneLine bytes = All (λ b. 0x20 ≤ b) bytes

-- the bytes can stand between tags, and in an attribute between quotation marks
pub record IsHarmlessHtml (bytes : List ℕ) : Type 0 where
  pub markup_free : IsMarkupFree bytes
  pub ampersands : AmpersandsBeginEntities bytes
  pub no_markup : markup_of bytes ≡ []

-- a literal on one line that can stand in a script element
pub record IsHarmlessScript (bytes : List ℕ) : Type 0 where
  pub one_line : IsOneLine bytes
  pub safe : IsSafeInScript bytes

-- the bytes can stand where an output of the mode is to stand, whatever the text was
abbrev pub IsHarmless : Mode → List ℕ → Type 0
IsHarmless json bytes = IsOneLine bytes
IsHarmless html bytes = IsHarmlessHtml bytes
IsHarmless script bytes = IsHarmlessScript bytes

-- the output is the escaping of the text in the mode
pub record IsEscaping (mode : Mode) (text output : List ℕ) : Type 0 where
  -- the text is characters
  pub characters : IsTextOf text (chars text)
  -- byte for byte
  pub exact : output ≡ plain mode text
  -- the only such output for these characters
  pub headline : IsOnlyOutput mode output (chars text)
  pub utf8 : IsUtf8 output
  pub harmless : IsHarmless mode output
  pub joined : JoinsTexts mode text output
  pub equal_texts : IsOfOneText mode text output
  pub len : HasOutputLength mode (length text) output
