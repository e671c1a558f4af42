use Rattle.std.proofs.Common.{rules, ◌∙◌}
use Rattle.escape_lanes.proofs.NibbleLemmas.{low_places, low-looked_up}
use Rattle.escape_lanes.proofs.simd.needs.by_low_half.Goals as goal

pub look_up-requires : goal.look_up-requires
look_up-requires g c = (search rules, low_places g.row.N c.args.v.now c.requires)

pub returns : goal.returns
returns g c = c.look_up.ensures ∙ low-looked_up g.row.N c.args.v.now c.requires c.args.table.now
