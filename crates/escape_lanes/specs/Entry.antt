-- The entries of the replacement tables.
use Rattle.std.specs.Prelude.{ℕ, ◌-◌, List, ◌++◌, length, replicate, if◌then◌else◌}
use Rattle.escape_lanes.specs.Mode.{Mode}
use Rattle.escape_lanes.specs.Replacement.{needs_escape, replacement}

-- eight bytes: the given ones, then zeros
abbrev pub padded : List ℕ → List ℕ
padded bytes = bytes ++ replicate (8 - length bytes) 0

-- how many bytes are written for the byte, and 0 where it needs no escape
abbrev pub entry_count : Mode → ℕ → ℕ
entry_count mode b = if needs_escape mode b then length (replacement mode b) else 0

-- those bytes, then zeros, eight in all
abbrev pub entry_bytes : Mode → ℕ → List ℕ
entry_bytes mode b = if needs_escape mode b then padded (replacement mode b) else replicate 8 0
