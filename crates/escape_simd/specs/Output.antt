-- The plain escaping of a text: what stands for its bytes, joined.
use Rattle.std.specs.Prelude.{ℕ, ◌+◌, ◌-◌, ◌*◌, Bool, ◌==◌, ◌&&◌, ◌||◌, List, [], ◌∷◌, ◌++◌, flat_map, codes, slice_index_or, if◌then◌else◌}
use Rattle.std.proofs.Common.{zero, suc}
use Rattle.escape_lanes.specs.Mode.{Mode, json, html, script}
use Rattle.escape_lanes.specs.Replacement.{replacement}

-- The bytes begin with e2 80 a8 or e2 80 a9: the UTF-8 form of the line separator, U+2028, or of the
-- paragraph separator, U+2029.
unfoldable pub begins_separator : List ℕ → Bool
begins_separator bytes =
    (slice_index_or bytes 0 0 == 0xe2) && (slice_index_or bytes 1 0 == 0x80)
    && ((slice_index_or bytes 2 0 == 0xa8) || (slice_index_or bytes 2 0 == 0xa9))

-- how many of the bytes the first replacement stands for: three for a separator in a script, else one
abbrev pub source_len : Mode → List ℕ → ℕ
source_len json bytes = 1
source_len html bytes = 1
source_len script bytes = if begins_separator bytes then 3 else 1

-- what stands for so many of the bytes, the first ones
abbrev pub first_replacement : Mode → List ℕ → List ℕ
first_replacement json bytes = replacement json (slice_index_or bytes 0 0)
first_replacement html bytes = replacement html (slice_index_or bytes 0 0)
first_replacement script bytes =
    if begins_separator bytes
    then (if slice_index_or bytes 2 0 == 0xa8 then codes "\\u2028" else codes "\\u2029")
    else replacement script (slice_index_or bytes 0 0)

-- what stands for the bytes after the first n in a script literal, joined: for a separator its escape,
-- and for each other byte its replacement
unfoldable pub script_inner_after : ℕ → List ℕ → List ℕ
script_inner_after n [] = []
script_inner_after (suc n) (b ∷ bs) = script_inner_after n bs
script_inner_after zero (b ∷ bs) =
    first_replacement script (b ∷ bs) ++ script_inner_after (source_len script (b ∷ bs) - 1) bs

-- what stands for the bytes, joined
abbrev pub inner : Mode → List ℕ → List ℕ
inner json bytes = flat_map (replacement json) bytes
inner html bytes = flat_map (replacement html) bytes
inner script bytes = script_inner_after 0 bytes

-- the bytes between two quotation marks
abbrev pub quoted : List ℕ → List ℕ
quoted bytes = 0x22 ∷ bytes ++ 0x22 ∷ []

-- The whole output for the bytes: a JSON string literal begins and ends with a quotation mark
-- (RFC 8259, section 7), also one for a script element; HTML adds none.
abbrev pub plain : Mode → List ℕ → List ℕ
plain json bytes = quoted (inner json bytes)
plain html bytes = inner html bytes
plain script bytes = quoted (inner script bytes)

-- what stands before what is written for the bytes, and after it
abbrev pub quote_of : Mode → List ℕ
quote_of json = 0x22 ∷ []
quote_of html = []
quote_of script = 0x22 ∷ []

-- how many quotation marks these are together
abbrev pub quote_count : Mode → ℕ
quote_count json = 2
quote_count html = 0
quote_count script = 2

-- how many bytes a target must have for a text of n bytes
abbrev pub bound : Mode → ℕ → ℕ
bound json n = 6 * n + 35
bound html n = 6 * n + 32
bound script n = 6 * n + 35
