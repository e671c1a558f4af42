use Rattle.std.proofs.Common.{rules, lit<, ◌∙◌}
use Rattle.std.proofs.lemmas.Simd.{shifts_fit_splat}
use Rattle.escape_lanes.proofs.NibbleLemmas.{high_places, high-looked_up}
use Rattle.escape_lanes.proofs.simd.needs.by_high_half.Goals as goal

pub overflow_shr-v : goal.overflow_shr-v
overflow_shr-v g c = shifts_fit_splat 8 c.args.v.now g.row.N 4 (lit< tt)

pub look_up-requires : goal.look_up-requires
look_up-requires g c = (search rules, high_places g.row.N c.args.v.now c.requires)

pub returns : goal.returns
returns g c = c.look_up.ensures ∙ high-looked_up g.row.N c.args.v.now c.requires c.args.table.now
