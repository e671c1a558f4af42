use Rattle.escape_simd.proofs.Words.{◌≡◌, ◌+◌, ◌*◌, ◌-◌, ◌<◌, drop, IsMaskOf, lanes_of_mask, mode_numbered, state, cond}
use Rattle.escape_simd.proofs.Pasted.{BlocksSoFar}
use Rattle.escape_simd.proofs.simd.blocks.escape_blocks.Given as goal

abbrev pub invariant-blocks-2 : goal.invariant-blocks-2
invariant-blocks-2 g l = record {
  so_far : BlocksSoFar (mode_numbered g.row.MODE) l.src (lanes_of_mask (mode_numbered g.row.MODE) l.fn.mask) l.valid l.block l.unused (state l.fn.target l.at l.to l.fn.ticks) (state l.target (l.at + 8 * l.block) l.end l.ticks);
  left : IsMaskOf l.mask (drop (8 * l.block) l.fn.mask.bytes);
  stored : l.mask.stored ≡ cond l.unused 0 1;
  more : 8 * l.block < l.valid;
}

abbrev pub decreases-blocks-2 : goal.decreases-blocks-2
decreases-blocks-2 g l = g.row.N - 8 * l.block
