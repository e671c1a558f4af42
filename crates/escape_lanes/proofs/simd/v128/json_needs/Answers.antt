use Rattle.std.proofs.Common.{ℕ, ◌+◌, bit_and, bit_xor, refl}
use Rattle.escape_lanes.specs.Mode.{json}
use Rattle.escape_lanes.specs.Words.{lanes_of_word}
use Rattle.escape_lanes.proofs.WordLemmas.{and-maps, word-flags}
use Rattle.escape_lanes.proofs.simd.v128.json_needs.Goals as goal

pub returns : goal.returns
returns c =
    let v = lanes_of_word c.args.lanes in
    let sum = λ (k c m b : ℕ). bit_xor (bit_and b k) c + m in
    let above = sum 0x7f 0x02 0x5f in let not_backslash = sum 0x7f 0x5c 0x7f in
    word-flags (λ b. bit_and (above b) (not_backslash b)) json c.args.lanes _ c.each_lane.result
    (and-maps above not_backslash v c.sums-above.result c.sums-not_backslash.result c.sums-above.ensures c.sums-not_backslash.ensures)
    c.each_lane.ensures refl refl
