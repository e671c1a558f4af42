-- JSON string literals (RFC 8259, section 7) and the texts that they denote.
-- These tables are the reader's, and know nothing of what is written.
use Rattle.std.specs.Prelude.{◌≡◌, ◌≢◌, ℕ, ◌+◌, ◌-◌, ◌*◌, ◌<◌, ◌≤◌, ◌⊎◌, List, [], ◌∷◌, ◌++◌, length, encode_utf8, Option, Some, None, ◌==◌, if◌then◌else◌}
use Rattle.std.specs.Char.{IsScalar, digit_value}
use Rattle.std.specs.Int.{IsInRange}
use Rattle.escape_simd.specs.Output.{quoted}
use Rattle.escape_simd.specs.Spelling.{Spells}

-- The character that a reverse solidus and the byte stand for (RFC 8259, section 7, `char`):
-- `"`, `\`, `/` for themselves, `b` U+0008, `f` U+000C, `n` U+000A, `r` U+000D, `t` U+0009.
unfoldable pub short_escape : ℕ → Option ℕ
short_escape b =
    if b == 0x22 then Some 0x22 else
    (if b == 0x5c then Some 0x5c else
    (if b == 0x2f then Some 0x2f else
    (if b == 0x62 then Some 0x08 else
    (if b == 0x66 then Some 0x0c else
    (if b == 0x6e then Some 0x0a else
    (if b == 0x72 then Some 0x0d else
    (if b == 0x74 then Some 0x09 else None)))))))

-- a hex digit, `A` to `F` in either case (RFC 8259, section 7)
abbrev pub IsHexDigit : ℕ → Type 0
IsHexDigit d = digit_value d < 16

-- a reverse solidus, `u` and four hex digits, with their value (RFC 8259, section 7, `%x75 4HEXDIG`)
pub data IsHexForm : List ℕ → ℕ → Type 0 where
  digits : {d3 d2 d1 d0 : ℕ} → IsHexDigit d3 → IsHexDigit d2 → IsHexDigit d1 → IsHexDigit d0
      → IsHexForm (0x5c ∷ 0x75 ∷ d3 ∷ d2 ∷ d1 ∷ d0 ∷ [])
      (digit_value d3 * 0x1000 + digit_value d2 * 0x100 + digit_value d1 * 0x10 + digit_value d0)

-- The bytes stand for the character inside a literal (RFC 8259, section 7):
-- raw, an unescaped character in UTF-8, from U+0020 on and neither `"` nor `\`;
-- short, a two-character escape;
-- hex, the six-character escape of a character of the Basic Multilingual Plane;
-- pair, two such escapes, a surrogate pair, for a character above that plane.
-- The escape of a lone surrogate stands for no character.
pub data IsJsonItem : List ℕ → ℕ → Type 0 where
  raw : {c : ℕ} → IsScalar c → 0x20 ≤ c → c ≢ 0x22 → c ≢ 0x5c → IsJsonItem (encode_utf8 c) c
  short : {b c : ℕ} → short_escape b ≡ Some c → IsJsonItem (0x5c ∷ b ∷ []) c
  hex : {form : List ℕ} {c : ℕ} → IsHexForm form c → (c < 0xd800) ⊎ (0xe000 ≤ c) → IsJsonItem form c
  pair : {first second : List ℕ} {high low : ℕ} → IsHexForm first high → IsHexForm second low
      → IsInRange 0xd800 0xdbff high → IsInRange 0xdc00 0xdfff low
      → IsJsonItem (first ++ second) (0x10000 + (high - 0xd800) * 0x400 + (low - 0xdc00))

-- the bytes are a quotation mark, items of the characters of the text, and a quotation mark (RFC 8259, section 7, `string`)
pub record IsLiteral (Item : List ℕ → ℕ → Type 0) (bytes text : List ℕ) : Type 0 where
  pub inside : List ℕ
  pub spelled : Spells Item inside text
  pub between : bytes ≡ quoted inside

-- the bytes are a JSON string literal that denotes the text
abbrev pub JsonDenotes : List ℕ → List ℕ → Type 0
JsonDenotes bytes text = IsLiteral IsJsonItem bytes text

-- not one of `A` to `F`
abbrev pub IsNotUpper : ℕ → Type 0
IsNotUpper d = (d < 0x41) ⊎ (0x46 < d)

-- no hex digit of the form is one of `A` to `F`
abbrev pub HasLowerDigits : {bytes : List ℕ} {value : ℕ} → IsHexForm bytes value → Type 0
HasLowerDigits (digits {d3 = d3} {d2 = d2} {d1 = d1} {d0 = d0} _ _ _ _) = IsNotUpper d3 × IsNotUpper d2 × IsNotUpper d1 × IsNotUpper d0

-- no hex digit of the item is one of `A` to `F`
abbrev pub HasLowerForms : {bytes : List ℕ} {c : ℕ} → IsJsonItem bytes c → Type 0
HasLowerForms (raw _ _ _ _) = Unit {0}
HasLowerForms (short _) = Unit {0}
HasLowerForms (hex form _) = HasLowerDigits form
HasLowerForms (pair first second _ _) = HasLowerDigits first × HasLowerDigits second

-- an item in which no hex digit is one of `A` to `F`
abbrev pub IsLowerItem : List ℕ → ℕ → Type 0
IsLowerItem bytes c = (item : IsJsonItem bytes c) × HasLowerForms item

-- the literal denotes the text by items in which no hex digit is one of `A` to `F`
abbrev pub IsLower : List ℕ → List ℕ → Type 0
IsLower bytes text = IsLiteral IsLowerItem bytes text

-- the literal denotes the text, and none that does is shorter
pub record IsShortestJson (bytes text : List ℕ) : Type 0 where
  pub denotes : JsonDenotes bytes text
  pub least : (other : List ℕ) → JsonDenotes other text → length bytes ≤ length other

-- the literal is the only shortest one with lower-case hex digits that denotes the text, and denotes no other text
pub record IsOnlyJson (bytes text : List ℕ) : Type 0 where
  pub shortest : IsShortestJson bytes text
  pub lower : IsLower bytes text
  pub only : (other : List ℕ) → IsShortestJson other text → IsLower other text → other ≡ bytes
  -- any other literal of the text is longer, or is as long and has a hex digit of `A` to `F`
  pub others : (other : List ℕ) → JsonDenotes other text → other ≢ bytes
      → (length bytes < length other) ⊎ ((length other ≡ length bytes) × ¬ IsLower other text)
  pub one_text : (other : List ℕ) → JsonDenotes bytes other → other ≡ text
