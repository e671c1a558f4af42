-- Which bytes of a text need an escape, and what stands for each byte.
use Rattle.std.specs.Prelude.{ℕ, ◌/◌, ◌%◌, Bool, ◌||◌, ◌==◌, nat_lt, List, [], ◌∷◌, ◌++◌, codes, if◌then◌else◌}
use Rattle.std.specs.Char.{digit_char}
use Rattle.escape_lanes.specs.Mode.{Mode, json, html, script}

-- The byte can't stand for itself, or, e2 in script, not in every character.
-- JSON: the quotation mark, the reverse solidus and the control characters (RFC 8259, section 7).
-- HTML: the six bytes that have an entity.
-- Script: those of JSON, `&`, `<` and `>`, and e2, with which the separators of lines and of paragraphs begin.
-- What stands for an e2 is told by the two bytes after it, and is the byte itself in most characters.
abbrev pub needs_escape : Mode → ℕ → Bool
needs_escape json b = nat_lt b 0x20 || (b == 0x22) || (b == 0x5c)
needs_escape html b =
    (b == 0x22) || (b == 0x26) || (b == 0x27) || (b == 0x2f) || (b == 0x3c) || (b == 0x3e)
needs_escape script b =
    nat_lt b 0x20 || (b == 0x22) || (b == 0x26) || (b == 0x3c) || (b == 0x3e) || (b == 0x5c) || (b == 0xe2)

-- `\u00` and two lower-case hex digits (RFC 8259, section 7)
abbrev pub control_escape : ℕ → List ℕ
control_escape b = codes "\\u00" ++ digit_char (b / 16) ∷ digit_char (b % 16) ∷ []

-- What stands for the byte: its short escape (RFC 8259, section 7), its hex escape, its entity, or itself.
unfoldable pub replacement : Mode → ℕ → List ℕ
replacement json b =
    if b == 0x08 then codes "\\b" else
    (if b == 0x09 then codes "\\t" else
    (if b == 0x0a then codes "\\n" else
    (if b == 0x0c then codes "\\f" else
    (if b == 0x0d then codes "\\r" else
    (if b == 0x22 then codes "\\\"" else
    (if b == 0x5c then codes "\\\\" else
    (if nat_lt b 0x20 then control_escape b else b ∷ [])))))))
replacement html b =
    if b == 0x22 then codes "&quot;" else
    (if b == 0x26 then codes "&amp;" else
    (if b == 0x27 then codes "&#x27;" else
    (if b == 0x2f then codes "&#x2f;" else
    (if b == 0x3c then codes "&lt;" else
    (if b == 0x3e then codes "&gt;" else b ∷ [])))))
replacement script b =
    if b == 0x08 then codes "\\b" else
    (if b == 0x09 then codes "\\t" else
    (if b == 0x0a then codes "\\n" else
    (if b == 0x0c then codes "\\f" else
    (if b == 0x0d then codes "\\r" else
    (if b == 0x22 then codes "\\\"" else
    (if b == 0x26 then codes "\\u0026" else
    (if b == 0x3c then codes "\\u003c" else
    (if b == 0x3e then codes "\\u003e" else
    (if b == 0x5c then codes "\\\\" else
    (if nat_lt b 0x20 then control_escape b else b ∷ []))))))))))
