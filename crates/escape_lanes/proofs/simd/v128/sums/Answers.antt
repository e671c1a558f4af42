use Rattle.escape_lanes.proofs.WordLemmas.{sums-fit, sums-lanes}
use Rattle.escape_lanes.proofs.simd.v128.sums.Goals as goal

pub overflow_add-result : goal.overflow_add-result
overflow_add-result c = record {
  fits = sums-fit c.args.lanes c.args.kept c.args.flipped c.args.more c.each_lane.result c.each_lane-2.result c.each_lane-3.result
      c.each_lane.ensures c.each_lane-2.ensures c.each_lane-3.ensures c.requires.kept c.requires.flipped c.requires.more
      c.each_lane.type_inv c.each_lane-2.type_inv c.each_lane-3.type_inv;
}

pub returns : goal.returns
returns c =
    sums-lanes c.args.lanes c.args.kept c.args.flipped c.args.more c.each_lane.result c.each_lane-2.result c.each_lane-3.result
    c.each_lane.ensures c.each_lane-2.ensures c.each_lane-3.ensures c.requires.kept c.requires.flipped c.requires.more
