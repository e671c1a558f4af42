use Rattle.escape_simd.proofs.Words.{◌-◌, not, nat_eq, mode_numbered, reach, state}
use denote.Param.{number, value_of}
use Rattle.escape_simd.proofs.Turns.{TurnsSoFar}
use Rattle.escape_simd.proofs.simd.by_mask.escape_by_turns.Given as goal

abbrev pub invariant-turns : goal.invariant-turns
invariant-turns g l = TurnsSoFar (mode_numbered g.row.MODE) (reach (not (nat_eq (value_of (number g.row.LAST)) 0)) g.row.N) l.text l.valid l.mask (state l.fn.target 0 l.to l.fn.ticks) (state l.target l.next l.end l.ticks)

abbrev pub decreases-turns : goal.decreases-turns
decreases-turns g l = l.valid - l.next
