use Rattle.std.proofs.Common.{◌≡◌, ◌∙◌, ℕ, List, refl, sym, ap, arith, take, drop}
use Rattle.std.proofs.lemmas.List.{length-drop, take_all}
use Rattle.escape_lanes.specs.Mode.{mode_numbered}
use Rattle.escape_lanes.proofs.EscapeMaskLemmas.{mask-few, mask-skipped}
use Rattle.escape_lanes.proofs.simd.escape_mask.EscapeMask.skip.Goals as goal

pub invariant_of-result : goal.invariant_of-result
invariant_of-result g c =
    let mode = mode_numbered g.row.MODE in let bytes : List ℕ = c.self.inside.of.bytes in
    let few = mask-few mode bytes c.self.inside.of.from c.self.inside.bits c.self.invariant in
    let whole : c.self.inside.of.from ≡ 0 = ap (λ m. m.from) c.self.view_is ∙ c.requires.0 in
    rw (c.shift_lanes.ensures, c.part.ensures.0, c.part.ensures.1) (mask-skipped mode bytes c.args.count c.self.inside.bits (rw (sym c.self.view_is) at c.requires.2) few (rw whole at c.self.invariant))

pub returns : goal.returns
returns g c =
    let mode = mode_numbered g.row.MODE in let bytes : List ℕ = c.self.inside.of.bytes in
    let few = mask-few mode bytes c.self.inside.of.from c.self.inside.bits c.self.invariant in
    let all : take 64 (drop c.args.count bytes) ≡ drop c.args.count bytes = take_all 64 (drop c.args.count bytes) (omega (arith, few, length-drop c.args.count bytes)) in
    rw (c.part.ensures.0, c.part.ensures.1, all, sym c.self.view_is) refl
