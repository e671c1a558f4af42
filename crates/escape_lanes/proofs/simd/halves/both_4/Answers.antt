use Rattle.std.proofs.Common.{◌++◌, arith, length-append}
use Rattle.std.proofs.lemmas.Simd.{pick_l_whole}
use Rattle.escape_lanes.proofs.simd.halves.both_4.Goals as goal

pub returns : goal.returns
returns c = pick_l_whole 0 (c.args.low ++ c.args.high) 8 (omega (arith, length-append c.args.low c.args.high))
