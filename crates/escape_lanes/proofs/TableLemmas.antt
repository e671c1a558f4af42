-- The tables that are written out, against the entries as they are defined.
use Rattle.std.proofs.Common.{◌≡◌, ℕ, ◌<◌, List, map, get_or, refl, sym, ap, ap₂, ◌∙◌, arith, if◌then◌else◌}
use Rattle.std.proofs.lemmas.List.FromFn.{get_or-map-range_with_len}
use Rattle.std.specs.List.{range_with_len}
use Rattle.escape_lanes.specs.Bits.{bits_of}
use Rattle.escape_lanes.specs.Mode.{Mode, json, html, script}
use Rattle.escape_lanes.specs.Replacement.{needs_escape, replacement}
use Rattle.escape_lanes.specs.Entry.{entry_count, entry_bytes}
use Rattle.escape_lanes.specs.Spread.{spread_from, spread}
use Rattle.escape_lanes.specs.declared.tables.html.TheConstants.{HTML_ESCAPE_TAB, HTML_NEED_ESCAPED}
use Rattle.escape_lanes.specs.declared.tables.json.TheConstants.{NEED_ESCAPED, QUOTE_TAB}
use Rattle.escape_lanes.specs.declared.tables.script.TheConstants.{SCRIPT_FLAGGED, SCRIPT_TAB}
use Rattle.escape_lanes.specs.declared.tables.spread.TheConstants.{SPREAD_TAB}

-- the entry of a byte
abbrev pub entry : Mode → ℕ → ℕ × List ℕ
entry mode b = (entry_count mode b, entry_bytes mode b)

-- 1 where the byte needs an escape, else 0
abbrev pub mark : Mode → ℕ → ℕ
mark mode b = if needs_escape mode b then 1 else 0

-- the entries of a mode, as they are written out
abbrev pub entries : Mode → List (ℕ × List ℕ)
entries json = QUOTE_TAB
entries html = HTML_ESCAPE_TAB
entries script = SCRIPT_TAB

-- and the marks
abbrev pub marks : Mode → List ℕ
marks json = NEED_ESCAPED
marks html = HTML_NEED_ESCAPED
marks script = SCRIPT_FLAGGED

-- each entry that is written out is the one that is defined, by computation
entries_are : (mode : Mode) → entries mode ≡ map (entry mode) (range_with_len 0 256)
unfolding replacement
entries_are json = refl
entries_are html = refl
entries_are script = refl

-- likewise each mark
marks_are : (mode : Mode) → marks mode ≡ map (mark mode) (range_with_len 0 256)
marks_are json = refl
marks_are html = refl
marks_are script = refl

-- each row of places, by computation too
rows_are : SPREAD_TAB ≡ map (λ b. spread (bits_of 8 b)) (range_with_len 0 256)
unfolding spread_from bits_of
rows_are = refl

-- a read of a table of a value for each byte
read : {X : Type 0} (table : List X) (f : ℕ → X) → table ≡ map f (range_with_len 0 256) → (b : ℕ) (d : X) → b < 256 → get_or table b d ≡ f b
read table f is b d h = ap (λ t. get_or t b d) is ∙ get_or-map-range_with_len f 0 256 b b d h (omega arith)

-- the entry of a byte in its table
pub get_or-entries : (mode : Mode) (b : ℕ) (d : ℕ × List ℕ) → b < 256 → get_or (entries mode) b d ≡ entry mode b
get_or-entries mode = read (entries mode) (entry mode) (entries_are mode)

-- and its mark
pub get_or-marks : (mode : Mode) (b : ℕ) (d : ℕ) → b < 256 → get_or (marks mode) b d ≡ mark mode b
get_or-marks mode = read (marks mode) (mark mode) (marks_are mode)

-- the row of eight flags
pub get_or-rows : (b : ℕ) (d : List ℕ) → b < 256 → get_or SPREAD_TAB b d ≡ spread (bits_of 8 b)
get_or-rows = read SPREAD_TAB (λ b. spread (bits_of 8 b)) rows_are

-- a pair that has the count and the bytes of an entry is the one in the table
pub entry_in_table : (mode : Mode) (b : ℕ) (e d : ℕ × List ℕ) → b < 256 → e.0 ≡ entry_count mode b → e.1 ≡ entry_bytes mode b → e ≡ get_or (entries mode) b d
entry_in_table mode b e d h count bytes = ap₂ (λ n bs. (n, bs)) count bytes ∙ sym (get_or-entries mode b d h)
