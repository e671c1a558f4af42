-- Short escapes: a reverse solidus, and the byte itself or a control character's letter.
use Rattle.std.specs.Prelude.{ℕ, Bool, ◌&&◌, ◌==◌, not, length, if◌then◌else◌}
use Rattle.escape_lanes.specs.Mode.{Mode}
use Rattle.escape_lanes.specs.Replacement.{needs_escape, replacement}

-- what stands after the reverse solidus of a short escape: a control character's letter, and any other byte itself
unfoldable pub shortened : ℕ → ℕ
shortened b =
    if b == 0x08 then 0x62 else
    (if b == 0x09 then 0x74 else
    (if b == 0x0a then 0x6e else
    (if b == 0x0c then 0x66 else
    (if b == 0x0d then 0x72 else b))))

-- the byte needs an escape, which is not a short one
abbrev pub is_long : Mode → ℕ → Bool
is_long mode b = needs_escape mode b && not (length (replacement mode b) == 2)
