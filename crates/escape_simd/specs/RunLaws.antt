-- What a run tells of its next byte.
use Rattle.std.proofs.Common.{arith}
use Rattle.std.specs.Prelude.{◌≡◌, ℕ, ◌<◌, ◌≤◌, List, length}
use Rattle.escape_lanes.specs.Mode.{Mode}
use Rattle.escape_simd.specs.Stretch.{IsFlaggedAt}

-- one that is looked up is flagged
pub entry-flagged : (mode : Mode) (src : List ℕ) (stop at : ℕ) → (stop ≡ length src) × IsFlaggedAt mode src at → IsFlaggedAt mode src at × (at < stop) × (stop ≤ length src)
entry-flagged mode src stop at h = (h.1, omega (arith, h.0, h.1.0), omega (arith, h.0))
