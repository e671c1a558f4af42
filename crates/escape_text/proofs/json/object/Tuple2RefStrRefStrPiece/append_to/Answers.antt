use Rattle.std.proofs.Common.{ℕ, List, [], ◌∷◌, ◌++◌, IsUtf8, arith}
use Rattle.std.proofs.lemmas.Str.{IsUtf8-append, IsUtf8-from_ascii}
use Rattle.std.proofs.lemmas.Str.Ascii.{IsAscii-nil, IsAscii-cons}
use Rattle.escape_text.proofs.json.object.Tuple2RefStrRefStrPiece.append_to.Goals as goal

colon : IsUtf8 (0x3a ∷ [])
colon = IsUtf8-from_ascii (0x3a ∷ []) (IsAscii-cons 0x3a [] (omega arith) IsAscii-nil)

with_colon : (key value : List ℕ) → IsUtf8 key → IsUtf8 value → IsUtf8 (key ++ 0x3a ∷ value)
with_colon key value first second = IsUtf8-append key (0x3a ∷ value) first (IsUtf8-append (0x3a ∷ []) value colon second)

pub returns-clause-text : goal.returns-clause-text
returns-clause-text g c = with_colon _ _ c.in_ok-append_to.ensures.text c.in_ok-append_to-2.ensures.text
