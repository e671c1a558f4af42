-- What the nibble tables say of a byte.
use Rattle.std.specs.Prelude.{ℕ, ◌/◌, List, slice_index, bit_and}
use Rattle.escape_lanes.specs.declared.tables.nibble.TheConstants.{HTML_LO_NIBBLE_TAB, HTML_HI_NIBBLE_TAB, HTML_CANDIDATE_TAB, SCRIPT_LO_NIBBLE_TAB, SCRIPT_HI_NIBBLE_TAB}

-- what a table has for the low half of the byte
abbrev pub at_low_half : List ℕ → ℕ → ℕ
at_low_half table b = slice_index table (bit_and b 15)

-- what a table has for the high half of the byte
abbrev pub at_high_half : List ℕ → ℕ → ℕ
at_high_half table b = slice_index table (b / 16)

-- the bits that both tables of HTML have for the byte
abbrev pub html_flags : ℕ → ℕ
html_flags b = bit_and (at_low_half HTML_LO_NIBBLE_TAB b) (at_high_half HTML_HI_NIBBLE_TAB b)

-- the byte that HTML escapes with the low half of the byte, or one with another low half
abbrev pub html_candidate : ℕ → ℕ
html_candidate = at_low_half HTML_CANDIDATE_TAB

-- what the tables of script literals have for the byte, to be added up
abbrev pub script_low : ℕ → ℕ
script_low = at_low_half SCRIPT_LO_NIBBLE_TAB

abbrev pub script_high : ℕ → ℕ
script_high = at_high_half SCRIPT_HI_NIBBLE_TAB
