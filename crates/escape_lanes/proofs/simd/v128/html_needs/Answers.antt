use Rattle.std.proofs.Common.{ℕ, ◌+◌, bit_and, bit_xor, refl}
use Rattle.escape_lanes.specs.Mode.{html}
use Rattle.escape_lanes.specs.Words.{lanes_of_word}
use Rattle.escape_lanes.proofs.WordLemmas.{and-maps, word-flags}
use Rattle.escape_lanes.proofs.simd.v128.html_needs.Goals as goal

pub returns : goal.returns
returns c =
    let v = lanes_of_word c.args.lanes in
    let sum = λ (k c b : ℕ). bit_xor (bit_and b k) c + 0x7f in
    let f = sum 0x7b 0x22 in let g = sum 0x77 0x27 in let h = sum 0x7d 0x3c in
    let two = and-maps f g v c.sums-not_quote_or_ampersand.result c.sums-not_apostrophe_or_slash.result c.sums-not_quote_or_ampersand.ensures c.sums-not_apostrophe_or_slash.ensures in
    word-flags (λ b. bit_and (bit_and (f b) (g b)) (h b)) html c.args.lanes _ c.each_lane.result
    (and-maps (λ b. bit_and (f b) (g b)) h v _ c.sums-not_angle.result two c.sums-not_angle.ensures)
    c.each_lane.ensures refl refl
