use Rattle.std.proofs.Common.{cond, nat_eq, refl, sym}
use Rattle.std.proofs.lemmas.List.{map-id}
use Rattle.escape_lanes.specs.Mode.{html}
use Rattle.escape_lanes.specs.Nibble.{html_candidate}
use Rattle.escape_lanes.specs.Replacement.{needs_escape}
use Rattle.escape_lanes.proofs.FlagLemmas.{flags-by, picked}
use Rattle.escape_lanes.proofs.simd.needs.html_needs_by_candidates.Goals as goal

pub returns : goal.returns
returns g c =
    let n = g.row.N in let v = c.args.v.now in
    let is = picked nat_eq (λ b. b) html_candidate n v _ _ c.requires.full (sym (map-id v)) c.by_low_half.ensures in
    let m = flags-by (λ b. cond (nat_eq b (html_candidate b)) 255 0) (needs_escape html) n v _ c.requires is refl refl in
    record { bytes = m.bytes; lanes = m.lanes }
