-- How many escapes a text is written with, and how many runs its escaped bytes form.
use Rattle.std.specs.Prelude.{ℕ, ◌+◌, ◌-◌, Bool, true, false, ◌&&◌, not, List, [], ◌∷◌, count_by, if◌then◌else◌}
use Rattle.std.proofs.Common.{zero, suc}
use Rattle.escape_lanes.specs.Mode.{Mode, json, html, script}
use Rattle.escape_lanes.specs.Replacement.{needs_escape}
use Rattle.escape_simd.specs.Output.{source_len}

-- Script: how many escapes the bytes after the first n are written with. A separator counts once, and so does
-- each other byte that is flagged.
unfoldable pub script_escapes_after : ℕ → List ℕ → ℕ
script_escapes_after n [] = 0
script_escapes_after (suc n) (b ∷ bs) = script_escapes_after n bs
script_escapes_after zero (b ∷ bs) =
    (if needs_escape script b then 1 else 0) + script_escapes_after (source_len script (b ∷ bs) - 1) bs

-- Script: how many runs of marked bytes begin, where the byte before them is marked or isn't, and the first n are
-- the rest of a separator. Marked are the flagged bytes, and the second and the third byte of each separator.
unfoldable pub script_runs_after : Bool → ℕ → List ℕ → ℕ
script_runs_after before n [] = 0
script_runs_after before (suc n) (b ∷ bs) = script_runs_after true n bs
script_runs_after before zero (b ∷ bs) =
    (if needs_escape script b && not before then 1 else 0) + script_runs_after (needs_escape script b) (source_len script (b ∷ bs) - 1) bs

-- how many escapes the bytes are written with
abbrev pub escaped_count : Mode → List ℕ → ℕ
escaped_count json bytes = count_by (needs_escape json) bytes
escaped_count html bytes = count_by (needs_escape html) bytes
escaped_count script bytes = script_escapes_after 0 bytes

-- how many runs of the bytes that a test finds begin in a list, where the byte before it is such a byte or isn't
unfoldable pub runs_after : (ℕ → Bool) → Bool → List ℕ → ℕ
runs_after needs before [] = 0
runs_after needs before (b ∷ bs) = (if needs b && not before then 1 else 0) + runs_after needs (needs b) bs

-- how many runs begin in the bytes, where the byte before them needs an escape or doesn't
abbrev pub run_count_after : Mode → Bool → List ℕ → ℕ
run_count_after json before bytes = runs_after (needs_escape json) before bytes
run_count_after html before bytes = runs_after (needs_escape html) before bytes
run_count_after script before bytes = script_runs_after before 0 bytes

-- how many runs they have: maximal sequences of bytes that need an escape, in script of marked bytes
abbrev pub run_count : Mode → List ℕ → ℕ
run_count mode bytes = run_count_after mode false bytes
