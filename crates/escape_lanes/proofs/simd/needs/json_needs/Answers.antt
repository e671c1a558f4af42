use Rattle.std.proofs.Common.{ℕ, bit_and, bit_xor, cond, nat_eq, refl}
use Rattle.std.proofs.lemmas.Simd.{zip2_of_maps, zip2_splat}
use Rattle.escape_lanes.specs.Mode.{json}
use Rattle.escape_lanes.specs.Replacement.{needs_escape}
use Rattle.escape_lanes.proofs.FlagLemmas.{flags-by, left, left_of}
use Rattle.escape_lanes.proofs.simd.needs.json_needs.Goals as goal

pub returns : goal.returns
returns g c =
    let n = g.row.N in let v = c.args.v.now in let full = c.requires.full in
    let control_or_quote = λ (b : ℕ). left_of 0xa0 (bit_xor b 2) in let backslash = λ (b : ℕ). cond (nat_eq (bit_and b 255) 0x5c) 255 0 in
    let is = left 0xa0 (λ b. bit_xor b 2) n v _ full (zip2_splat bit_xor v n 2 full) in
    let m = flags-by (λ b. bit_xor (control_or_quote b) (backslash b)) (needs_escape json) n v _ c.requires (zip2_of_maps bit_xor control_or_quote backslash v is c.is_without.ensures) refl refl in
    record { bytes = m.bytes; lanes = m.lanes }
