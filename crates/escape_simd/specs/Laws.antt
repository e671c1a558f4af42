-- Laws of the outputs that callers rest on.
use Rattle.std.specs.Prelude.{◌≡◌, ℕ, ◌+◌, ◌*◌, ◌≤◌, List, ◌++◌, length, take, drop, IsUtf8}
use Rattle.escape_lanes.specs.Mode.{Mode, json, html, script}
use Rattle.escape_simd.specs.Formatted.{IsWritten}
use Rattle.escape_simd.specs.Output.{inner, quoted, plain, quote_count}

-- Wherever the text is cut in two, the output is that of the first part followed by that of the second,
-- in JSON between one pair of quotation marks. In a script literal a separator has one escape, so the cut is
-- between two characters there.
abbrev pub JoinsTexts : Mode → List ℕ → List ℕ → Type 0
JoinsTexts json bytes output = (first second : List ℕ) → bytes ≡ first ++ second
    → output ≡ quoted (inner json first ++ inner json second)
JoinsTexts html bytes output = (first second : List ℕ) → bytes ≡ first ++ second
    → output ≡ inner html first ++ inner html second
JoinsTexts script bytes output = (first second : List ℕ) → IsUtf8 first → IsUtf8 second → bytes ≡ first ++ second
    → output ≡ quoted (inner script first ++ inner script second)

-- equal outputs come from equal texts: no other text has this output
abbrev pub IsOfOneText : Mode → List ℕ → List ℕ → Type 0
IsOfOneText mode bytes output = (other : List ℕ) → IsUtf8 other → plain mode other ≡ output → other ≡ bytes

-- how long the output for a text of n bytes can be: each byte is written by one to six bytes
pub record HasOutputLength (mode : Mode) (n : ℕ) (output : List ℕ) : Type 0 where
  pub at_least : n + quote_count mode ≤ length output
  pub at_most : length output ≤ 6 * n + quote_count mode

-- the bytes after those that a vector had
abbrev pub appended : List ℕ → List ℕ → List ℕ
appended old new = drop (length old) new

-- whatever another kernel leaves for the text is the same in count and bytes
abbrev pub AgreesWithEach : Mode → List ℕ → ℕ → List ℕ → Type 0
AgreesWithEach mode text count output = (lanes other_count : ℕ) (old new : List ℕ)
    → IsWritten lanes mode text old new other_count → (other_count ≡ count) × (take other_count new ≡ output)
