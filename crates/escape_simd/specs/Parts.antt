-- A text that is escaped part by part, and what is told of it before it is written.
use Rattle.std.specs.Prelude.{◌≡◌, ℕ, ◌+◌, ◌*◌, ◌<◌, ◌≤◌, Bool, false, List, [], length, slice_index, if◌then◌else◌}
use Rattle.escape_lanes.specs.Mode.{Mode}
use Rattle.escape_lanes.specs.Replacement.{needs_escape}
use Rattle.escape_simd.specs.Formatted.{IsWrittenAt}
use Rattle.escape_simd.specs.Output.{inner, plain, quote_of}

-- None of a text's bytes from one place up to another needs an escape.
pub record IsFront (mode : Mode) (text : List ℕ) (at end : ℕ) : Type 0 where
  pub forward : at ≤ end
  pub inside : end ≤ length text
  pub clean : (k : ℕ) → at ≤ k → k < end → needs_escape mode (slice_index text k) ≡ false

-- the quotation mark of an output if it is wanted, and else nothing
abbrev pub quote_if : Bool → Mode → List ℕ
quote_if wanted mode = if wanted then quote_of mode else []

-- how many bytes a text of n bytes may need, with quotation marks or without
abbrev pub room_for : Bool → Mode → ℕ → ℕ
room_for quoted mode n = 6 * n + 32 + 3 * length (quote_if quoted mode)

-- What stands for a text stands in the bytes from `to` up to `end`, between quotation marks or without.
abbrev pub IsEscapedAt : ℕ → Mode → Bool → List ℕ → List ℕ → List ℕ → ℕ → ℕ → Type 0
IsEscapedAt slack mode quoted text old new to end = IsWrittenAt slack (if quoted then plain mode text else inner mode text) old new to end
