use Rattle.std.proofs.Common.{ℕ, bit_and, bit_or, cond, nat_eq, refl}
use Rattle.std.proofs.lemmas.Simd.{zip2_of_maps}
use Rattle.escape_lanes.specs.Mode.{html}
use Rattle.escape_lanes.specs.Replacement.{needs_escape}
use Rattle.escape_lanes.proofs.FlagLemmas.{flags-by}
use Rattle.escape_lanes.proofs.simd.sse2.html_needs.Goals as goal

pub returns : goal.returns
returns c =
    let v = c.args.v.now in
    let is : ℕ → ℕ → ℕ → ℕ = λ kept byte b. cond (nat_eq (bit_and b kept) byte) 255 0 in
    let two = zip2_of_maps bit_or (is 0xfb 0x22) (is 0xf7 0x27) v c.is_without-quote_or_ampersand.ensures c.is_without-apostrophe_or_slash.ensures in
    let lanes = zip2_of_maps bit_or (λ b. bit_or (is 0xfb 0x22 b) (is 0xf7 0x27 b)) (is 0xfd 0x3c) v two c.is_without-angle.ensures in
    let m = flags-by (λ b. bit_or (bit_or (is 0xfb 0x22 b) (is 0xf7 0x27 b)) (is 0xfd 0x3c b)) (needs_escape html) 16 v _ c.requires lanes refl refl in
    record { bytes = m.bytes; lanes = m.lanes }
