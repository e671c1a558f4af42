use Rattle.escape_simd.proofs.Words.{◌-◌, length, mode_numbered, IsFront}
use Rattle.escape_simd.proofs.output.clean.clean_end.Given as goal

abbrev pub invariant-chunks : goal.invariant-chunks
invariant-chunks g l = IsFront (mode_numbered g.row.MODE) l.src l.fn.at l.end

abbrev pub decreases-chunks : goal.decreases-chunks
decreases-chunks g l = length l.src - l.end

abbrev pub invariant-vectors : goal.invariant-vectors
invariant-vectors g l = IsFront (mode_numbered g.row.MODE) l.src l.fn.at l.end

abbrev pub decreases-vectors : goal.decreases-vectors
decreases-vectors g l = length l.src - l.end
