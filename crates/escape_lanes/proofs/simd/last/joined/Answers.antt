use Rattle.std.proofs.Common.{ap, ◌∙◌, arith}
use Rattle.std.specs.Simd.Lanes.{digits_l}
use Rattle.escape_lanes.proofs.LastLemmas.{digits-last}
use Rattle.escape_lanes.proofs.simd.last.joined.Goals as goal

pub returns : goal.returns
returns c = ap (digits_l 256 16) (omega (arith, c.up_to_three.ensures)) ∙ digits-last c.args.src.now c.args.count c.type_inv.src c.requires.inside (omega arith)
