use Rattle.std.proofs.Common.{◌∙◌, refl, sym, ap}
use Rattle.escape_lanes.specs.Masks.{lanes_of_mask}
use Rattle.escape_lanes.specs.Mode.{mode_numbered}
use Rattle.escape_lanes.proofs.EscapeMaskLemmas.{mask-all, mask-later}
use Rattle.escape_lanes.proofs.simd.escape_mask.EscapeMask.rest.Goals as goal

pub invariant_of-result : goal.invariant_of-result
invariant_of-result g c =
    let mode = mode_numbered g.row.MODE in let of = c.self.inside.of in
    rw (c.part.ensures.0, c.part.ensures.1, mask-all mode of.bytes of.from c.self.inside.bits c.self.invariant)
    (mask-later mode of.bytes of.from c.self.inside.bits c.self.invariant c.args.from (rw (sym c.self.view_is) at c.requires.2) (rw (sym c.self.view_is) at c.requires.3))

pub returns-clause-told : goal.returns-clause-told
returns-clause-told g c =
    rw (c.part.ensures.0, c.part.ensures.1, c.new.ensures, mask-all (mode_numbered g.row.MODE) c.self.inside.of.bytes c.self.inside.of.from c.self.inside.bits c.self.invariant, sym c.self.view_is) refl

pub returns-clause-lanes : goal.returns-clause-lanes
returns-clause-lanes g c = sym (invariant_of-result g c) ∙ c.self.invariant ∙ ap (lanes_of_mask (mode_numbered g.row.MODE)) c.self.view_is
