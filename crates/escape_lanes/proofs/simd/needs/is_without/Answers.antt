use Rattle.std.proofs.Common.{ℕ, bit_and, nat_eq, ◌-◌}
use Rattle.std.proofs.lemmas.Simd.{splat_is_map, zip2_splat}
use Rattle.escape_lanes.proofs.FlagLemmas.{picked}
use Rattle.escape_lanes.proofs.simd.needs.is_without.Goals as goal

pub returns : goal.returns
returns g c =
    let n = g.row.N in let v = c.args.v.now in let kept : ℕ = 255 - c.args.bit in let full = c.requires.full in
    picked nat_eq (λ b. bit_and b kept) (λ b. c.args.byte) n v _ _ full (zip2_splat bit_and v n kept full) (splat_is_map v n c.args.byte full)
