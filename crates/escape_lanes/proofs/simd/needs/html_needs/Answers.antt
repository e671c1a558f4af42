use Rattle.std.proofs.Common.{ℕ, bit_and, cond, nat_eq, not, refl}
use Rattle.std.proofs.lemmas.Simd.{splat_is_map, zip2_of_maps}
use Rattle.escape_lanes.specs.Mode.{html}
use Rattle.escape_lanes.specs.Nibble.{at_low_half, at_high_half, html_flags}
use Rattle.escape_lanes.specs.declared.tables.nibble.TheConstants.{HTML_LO_NIBBLE_TAB, HTML_HI_NIBBLE_TAB}
use Rattle.escape_lanes.specs.Replacement.{needs_escape}
use Rattle.escape_lanes.proofs.FlagLemmas.{flags-by, picked}
use Rattle.escape_lanes.proofs.simd.needs.html_needs.Goals as goal

pub returns : goal.returns
returns g c =
    let n = g.row.N in let v = c.args.v.now in let full = c.requires.full in
    let flags = zip2_of_maps bit_and (at_low_half HTML_LO_NIBBLE_TAB) (at_high_half HTML_HI_NIBBLE_TAB) v c.by_low_half.ensures c.by_high_half.ensures in
    let is = picked (λ (a b : ℕ). not (nat_eq a b)) html_flags (λ b. 0) n v _ _ full flags (splat_is_map v n 0 full) in
    let m = flags-by (λ b. cond (not (nat_eq (html_flags b) 0)) 255 0) (needs_escape html) n v _ c.requires is refl refl in
    record { bytes = m.bytes; lanes = m.lanes }
