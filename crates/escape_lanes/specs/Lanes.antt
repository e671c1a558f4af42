-- Vectors and masks as lists of lanes.
use Rattle.std.specs.Prelude.{◌≡◌, ℕ, ◌<◌, Bool, List, length, map, nat_le, slice_index_or}

-- n lanes, each below a bound
pub record AreBelow (bound n : ℕ) (lanes : List ℕ) : Type 0 where
  pub full : length lanes ≡ n
  pub small : (k : ℕ) → k < n → slice_index_or lanes k 0 < bound

-- n lanes, each a byte
abbrev pub AreBytes : ℕ → List ℕ → Type 0
AreBytes = AreBelow 256

-- A vector of flags has 0x80 or more in each lane that is flagged, and less in the others.

-- whether each lane is flagged
abbrev pub flagged_lanes : List ℕ → List Bool
flagged_lanes = map (λ b. nat_le 0x80 b)
