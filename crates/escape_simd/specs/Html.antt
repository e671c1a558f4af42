-- What a reader of HTML makes of bytes, as far as six entities go.
-- These tables are the reader's, and know nothing of what is written.
use Rattle.std.specs.Prelude.{◌≡◌, ◌≢◌, ℕ, List, ◌∷◌, ◌++◌, All, codes, encode_utf8, Option, Some, None, ◌==◌, ◌||◌, Bool, false, if◌then◌else◌}
use Rattle.std.specs.Char.{IsScalar}
use Rattle.escape_simd.specs.Spelling.{Spells}

-- The entity of a character: `"` U+0022, `&` U+0026, `'` U+0027, `/` U+002F, `<` U+003C and `>` U+003E
-- have one, and no other character has.
unfoldable pub entity_of : ℕ → Option (List ℕ)
entity_of c =
    if c == 0x22 then Some (codes "&quot;") else
    (if c == 0x26 then Some (codes "&amp;") else
    (if c == 0x27 then Some (codes "&#x27;") else
    (if c == 0x2f then Some (codes "&#x2f;") else
    (if c == 0x3c then Some (codes "&lt;") else
    (if c == 0x3e then Some (codes "&gt;") else None)))))

-- The bytes stand for the character: its entity, or the character itself in UTF-8 where it isn't an ampersand.
-- So a raw `<` reads as itself, and many byte lists may read as one text.
pub data IsHtmlItem : List ℕ → ℕ → Type 0 where
  entity : {c : ℕ} {bytes : List ℕ} → entity_of c ≡ Some bytes → IsHtmlItem bytes c
  raw : {c : ℕ} → IsScalar c → c ≢ 0x26 → IsHtmlItem (encode_utf8 c) c

-- the bytes read as the text
abbrev pub HtmlReads : List ℕ → List ℕ → Type 0
HtmlReads bytes text = Spells IsHtmlItem bytes text

-- a quotation mark, an apostrophe, a slash or an angle bracket
abbrev pub is_markup : ℕ → Bool
is_markup b = (b == 0x22) || (b == 0x27) || (b == 0x2f) || (b == 0x3c) || (b == 0x3e)

-- none of these stands in the bytes
abbrev pub IsMarkupFree : List ℕ → Type 0
IsMarkupFree bytes = All (λ b. is_markup b ≡ false) bytes

-- the bytes are the only ones without markup that read as the text, and read as no other text
pub record IsOnlyHtml (bytes text : List ℕ) : Type 0 where
  pub reads : HtmlReads bytes text
  pub markup_free : IsMarkupFree bytes
  pub only : (other : List ℕ) → HtmlReads other text → IsMarkupFree other → other ≡ bytes
  pub one_text : (other : List ℕ) → HtmlReads bytes other → other ≡ text

-- each ampersand of the bytes begins one of the six entities
abbrev pub AmpersandsBeginEntities : List ℕ → Type 0
AmpersandsBeginEntities bytes = (front rest : List ℕ) → bytes ≡ front ++ 0x26 ∷ rest
    → (c : ℕ) × (entity more : List ℕ) × (entity_of c ≡ Some entity) × (0x26 ∷ rest ≡ entity ++ more)
