-- JSON string literals that can stand in a script element of an HTML page.
-- The table is the reader's, and knows nothing of what is written.
use Rattle.std.specs.Prelude.{◌≡◌, ◌≢◌, ℕ, ◌≤◌, Bool, false, ◌||◌, ◌==◌, List, ◌∷◌, ◌++◌, length, All}
use Rattle.escape_simd.specs.Json.{IsJsonItem, raw, short, hex, pair, IsLiteral, JsonDenotes, IsLower}

-- `&` U+0026, `<` U+003C, `>` U+003E, the line separator U+2028 or the paragraph separator U+2029
abbrev pub is_script_marked : ℕ → Bool
is_script_marked c = (c == 0x26) || (c == 0x3c) || (c == 0x3e) || (c == 0x2028) || (c == 0x2029)

-- the item is no raw one of these five characters
abbrev pub HasNoRawMark : {bytes : List ℕ} {c : ℕ} → IsJsonItem bytes c → Type 0
HasNoRawMark (raw {c = c} _ _ _ _) = is_script_marked c ≡ false
HasNoRawMark (short _) = Unit {0}
HasNoRawMark (hex _ _) = Unit {0}
HasNoRawMark (pair _ _ _ _) = Unit {0}

-- an item that is no raw one of them
abbrev pub IsScriptItem : List ℕ → ℕ → Type 0
IsScriptItem bytes c = (item : IsJsonItem bytes c) × HasNoRawMark item

-- the literal denotes the text by items that are no raw ones of them
abbrev pub IsScriptFree : List ℕ → List ℕ → Type 0
IsScriptFree bytes text = IsLiteral IsScriptItem bytes text

-- the literal denotes the text by such items, and none that does is shorter
pub record IsShortestScript (bytes text : List ℕ) : Type 0 where
  pub free : IsScriptFree bytes text
  pub least : (other : List ℕ) → IsScriptFree other text → length bytes ≤ length other

-- the literal is the only shortest one with lower-case hex digits that denotes the text by such items, and denotes
-- no other text
pub record IsOnlyScript (bytes text : List ℕ) : Type 0 where
  pub shortest : IsShortestScript bytes text
  pub lower : IsLower bytes text
  pub only : (other : List ℕ) → IsShortestScript other text → IsLower other text → other ≡ bytes
  pub one_text : (other : List ℕ) → JsonDenotes bytes other → other ≡ text

-- The bytes end no script element and begin no comment in one, as neither `</script` nor `<!--` stands in them, and
-- no separator ends a line of theirs.
pub record IsSafeInScript (bytes : List ℕ) : Type 0 where
  -- no `<`, no `>` and no `&`
  pub no_markup : All (λ b. (b ≢ 0x3c) × (b ≢ 0x3e) × (b ≢ 0x26)) bytes
  -- not the UTF-8 form of U+2028
  pub no_line_separator : (front rest : List ℕ) → bytes ≢ front ++ 0xe2 ∷ 0x80 ∷ 0xa8 ∷ rest
  -- nor that of U+2029
  pub no_paragraph_separator : (front rest : List ℕ) → bytes ≢ front ++ 0xe2 ∷ 0x80 ∷ 0xa9 ∷ rest
