-- The escapes of a vector in blocks of eight bytes.
use Rattle.std.specs.Prelude.{◌≡◌, ℕ, ◌+◌, ◌<◌, ◌≤◌, Bool, true, false, List, length, slice_index, slice_index_or}
use Rattle.escape_lanes.specs.Mode.{Mode}
use Rattle.escape_lanes.specs.Replacement.{needs_escape, replacement}
use Rattle.escape_lanes.specs.Short.{shortened}
use Rattle.escape_simd.specs.Stretch.{HasRoom}

-- what stands for each flagged byte of n that needs an escape is two bytes: a reverse solidus, and a letter or the byte itself
abbrev pub AreShort : Mode → ℕ → List ℕ → ℕ → List Bool → Type 0
AreShort mode n src at bits =
    (k : ℕ) → k < n → slice_index_or bits k false ≡ true → needs_escape mode (slice_index src (at + k)) ≡ true → length (replacement mode (slice_index src (at + k))) ≡ 2

-- A text's `valid` bytes at `at` can be escaped by blocks: each that needs an escape has a short one, and each other one is not
-- changed. The text has 16 bytes after them.
pub record HasBlocks (mode : Mode) (src : List ℕ) (at valid to size : ℕ) : Type 0 where
  pub some : 0 < valid
  pub short : (k : ℕ) → k < valid → needs_escape mode (slice_index src (at + k)) ≡ true → length (replacement mode (slice_index src (at + k))) ≡ 2
  pub kept : (b : ℕ) → needs_escape mode b ≡ false → shortened b ≡ b
  pub few : valid ≤ 64
  pub inside : at + valid + 16 ≤ length src
  pub room : HasRoom mode 16 src at (at + valid) to size
