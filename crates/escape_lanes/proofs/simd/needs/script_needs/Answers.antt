use Rattle.std.proofs.Common.{ℕ, ◌+◌, ◌%◌, refl}
use Rattle.std.proofs.lemmas.Simd.{zip2_of_maps}
use Rattle.escape_lanes.specs.Mode.{script}
use Rattle.escape_lanes.specs.Nibble.{script_low, script_high}
use Rattle.escape_lanes.specs.Replacement.{needs_escape}
use Rattle.escape_lanes.proofs.FlagLemmas.{flags-by}
use Rattle.escape_lanes.proofs.simd.needs.script_needs.Goals as goal

pub returns : goal.returns
returns g c =
    let n = g.row.N in let v = c.args.v.now in
    let sum = λ (a b : ℕ). (a + b) % 256 in
    let lanes = zip2_of_maps sum script_low script_high v c.by_low_half.ensures c.by_high_half.ensures in
    let m = flags-by (λ b. sum (script_low b) (script_high b)) (needs_escape script) n v _ c.requires lanes refl refl in
    record { bytes = m.bytes; lanes = m.lanes }
