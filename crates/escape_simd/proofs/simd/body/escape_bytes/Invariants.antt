use Rattle.escape_simd.proofs.Words.{◌-◌, length, mode_numbered, state}
use Rattle.escape_simd.proofs.Costs.{BodySoFar}
use Rattle.escape_simd.proofs.simd.body.escape_bytes.Given as goal

abbrev pub invariant-chunks : goal.invariant-chunks
invariant-chunks g l = BodySoFar (mode_numbered g.row.MODE) l.src (state l.fn.target 0 l.to l.fn.ticks) (state l.target l.at l.end l.ticks)

abbrev pub decreases-chunks : goal.decreases-chunks
decreases-chunks g l = length l.src - l.at

abbrev pub invariant-vectors : goal.invariant-vectors
invariant-vectors g l = BodySoFar (mode_numbered g.row.MODE) l.src (state l.fn.target 0 l.to l.fn.ticks) (state l.target l.at l.end l.ticks)

abbrev pub decreases-vectors : goal.decreases-vectors
decreases-vectors g l = length l.src - l.at
