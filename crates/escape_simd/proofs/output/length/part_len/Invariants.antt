use Rattle.escape_simd.proofs.Words.{◌-◌, mode_numbered}
use Rattle.escape_simd.proofs.Lengths.{CountedSoFar}
use Rattle.escape_simd.proofs.output.length.part_len.Given as goal

abbrev pub invariant-flags : goal.invariant-flags
invariant-flags g l = CountedSoFar (mode_numbered g.row.MODE) l.src l.at l.count l.len l.mask

abbrev pub decreases-flags : goal.decreases-flags
decreases-flags g l = l.count - l.mask.from
