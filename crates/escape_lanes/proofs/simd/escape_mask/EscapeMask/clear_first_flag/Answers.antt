use Rattle.std.proofs.Common.{◌∙◌, refl, ap, sym, arith}
use Rattle.escape_lanes.specs.Bits.{first_set}
use Rattle.escape_lanes.specs.Masks.{lanes_of_mask}
use Rattle.escape_lanes.specs.Mode.{mode_numbered}
use Rattle.escape_lanes.proofs.EscapeMaskLemmas.{mask-all, mask-cleared, mask-first}
use Rattle.escape_lanes.proofs.simd.escape_mask.EscapeMask.clear_first_flag.Goals as goal

pub overflow_add-next : goal.overflow_add-next
overflow_add-next g c =
    let first = mask-first (mode_numbered g.row.MODE) c.self.inside.of.bytes c.self.inside.of.from c.self.inside.bits c.self.invariant in
    record { fits = omega (arith, c.first_offset-next.ensures, ap (λ m. first_set (lanes_of_mask (mode_numbered g.row.MODE) m)) c.self.view_is, first) }

pub invariant_of-self : goal.invariant_of-self
invariant_of-self g c =
    let mode = mode_numbered g.row.MODE in let of = c.self.inside.of in
    let is = c.first_offset-next.ensures ∙ ap (λ m. first_set (lanes_of_mask mode m)) (sym c.self.view_is) ∙ ap first_set (sym c.self.invariant) in
    rw (c.part-of.ensures.0, c.part-of.ensures.1, mask-all mode of.bytes of.from c.self.inside.bits c.self.invariant, is)
    (mask-cleared mode of.bytes of.from c.self.inside.bits c.self.invariant c.clear_first_flag-bits.result c.clear_first_flag-bits.ensures)

pub returns : goal.returns
returns g c =
    rw (c.part-of.ensures.0, c.part-of.ensures.1, mask-all (mode_numbered g.row.MODE) c.self.inside.of.bytes c.self.inside.of.from c.self.inside.bits c.self.invariant, c.first_offset-next.ensures, sym c.self.view_is) refl
