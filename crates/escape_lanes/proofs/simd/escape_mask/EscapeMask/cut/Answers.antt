use Rattle.std.proofs.Common.{◌≡◌, ◌∙◌, ℕ, List, sym, length, ap, arith}
use Rattle.escape_lanes.specs.Mode.{mode_numbered}
use Rattle.escape_lanes.proofs.EscapeMaskLemmas.{mask-few, mask-cut}
use Rattle.escape_lanes.proofs.simd.escape_mask.EscapeMask.cut.Goals as goal

pub overflow_sub-count : goal.overflow_sub-count
overflow_sub-count g c =
    let few = mask-few (mode_numbered g.row.MODE) c.self.inside.of.bytes c.self.inside.of.from c.self.inside.bits c.self.invariant in
    omega (arith, few, c.requires.1, ap (λ m. length m.bytes) c.self.view_is)

pub invariant_of-result : goal.invariant_of-result
invariant_of-result g c =
    let mode = mode_numbered g.row.MODE in let bytes : List ℕ = c.self.inside.of.bytes in
    let few = mask-few mode bytes c.self.inside.of.from c.self.inside.bits c.self.invariant in
    let whole : c.self.inside.of.from ≡ 0 = ap (λ m. m.from) c.self.view_is ∙ c.requires.0 in
    rw (c.clear_high_bits.ensures, c.part.ensures.0, c.part.ensures.1) (mask-cut mode bytes c.args.count c.self.inside.bits (rw (sym c.self.view_is) at c.requires.1) few (rw whole at c.self.invariant))
