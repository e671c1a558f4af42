use Rattle.std.proofs.Common.{nat_le}
use Rattle.escape_lanes.proofs.LaneLemmas.{bits-below, bits-set}
use Rattle.escape_lanes.proofs.simd.lanes.le.Goals as goal

pub returns : goal.returns
returns g c = record {
  below = bits-below nat_le g.row.N c.args.a.now c.args.b.now c.requires.left.full c.requires.right.full c.requires.few;
  bits = bits-set nat_le g.row.N c.args.a.now c.args.b.now c.requires.left.full c.requires.right.full c.requires.few;
}
