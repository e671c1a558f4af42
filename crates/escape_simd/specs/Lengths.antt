-- How long what stands for parts of a text is.
use Rattle.std.specs.Prelude.{◌≡◌, ℕ, ◌+◌, List}
use Rattle.escape_lanes.specs.Mode.{Mode}
use Rattle.escape_simd.specs.Stretch.{rest_length}

-- `len` bytes stand for the text's bytes from `at` up to `next`: what stands for the rest from `at` on is `len` bytes longer than what
-- stands for the rest from `next` on.
abbrev pub IsPartLength : Mode → List ℕ → ℕ → ℕ → ℕ → Type 0
IsPartLength mode src at next len = len + rest_length mode src next ≡ rest_length mode src at
