use Rattle.std.proofs.Common.{◌∙◌, ◌<◌, length, ap, arith, get_or, false}
use Rattle.escape_lanes.specs.Masks.{lanes_of_mask}
use Rattle.escape_lanes.specs.Mode.{mode_numbered}
use Rattle.escape_lanes.proofs.EscapeMaskLemmas.{mask-few, mask-lane}
use Rattle.escape_lanes.proofs.simd.escape_mask.EscapeMask.is_flagged.Goals as goal

pub shift_lanes-requires : goal.shift_lanes-requires
shift_lanes-requires g c =
    let few = mask-few (mode_numbered g.row.MODE) c.self.inside.of.bytes c.self.inside.of.from c.self.inside.bits c.self.invariant in
    omega (arith, c.requires, few, ap (λ m. length m.bytes) c.self.view_is)

pub returns : goal.returns
returns g c =
    let mode = mode_numbered g.row.MODE in
    let inside : c.args.at < length c.self.inside.of.bytes = omega (arith, c.requires, ap (λ m. length m.bytes) c.self.view_is) in
    mask-lane mode c.self.inside.of.bytes c.self.inside.of.from c.self.inside.bits c.self.invariant c.args.at c.shift_lanes.result inside c.shift_lanes.ensures ∙ ap (λ m. get_or (lanes_of_mask mode m) c.args.at false) c.self.view_is
