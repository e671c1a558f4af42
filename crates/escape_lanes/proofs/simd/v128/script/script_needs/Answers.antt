use Rattle.std.proofs.Common.{ℕ, ◌+◌, bit_and, bit_or, bit_xor, refl, sym}
use Rattle.std.proofs.lemmas.List.{map-id}
use Rattle.escape_lanes.specs.Mode.{script}
use Rattle.escape_lanes.specs.Replacement.{needs_escape}
use Rattle.escape_lanes.specs.Words.{lanes_of_word, word-bytes}
use Rattle.escape_lanes.proofs.FlagLemmas.{flags-by}
use Rattle.escape_lanes.proofs.WordLemmas.{and-maps, or-maps, xor-maps}
use Rattle.escape_lanes.proofs.simd.v128.script.script_needs.Goals as goal

pub returns : goal.returns
returns c =
    let x = c.args.lanes in let v = lanes_of_word x in
    let sum = λ (k f m b : ℕ). bit_xor (bit_and b k) f + m in
    let low = sum 0x7b 0x7d 0x21 in let angle = sum 0x7d 0x43 0x01 in let backslash = sum 0x7f 0x23 0x01 in let separator = sum 0x7f 0x1d 0x01 in
    let ascii = λ (b : ℕ). bit_or (bit_or (low b) (angle b)) (backslash b) in
    let lows = or-maps low angle v _ _ c.sums-control_quote_or_ampersand.ensures c.sums-angle.ensures in
    let asciis = or-maps (λ b. bit_or (low b) (angle b)) backslash v _ _ lows c.sums-backslash.ensures in
    let others = and-maps (λ b. bit_xor (ascii b) (separator b)) (λ b. b) v _ x (xor-maps ascii separator v _ _ asciis c.sums-separator.ensures) (sym (map-id v)) in
    let lanes = xor-maps ascii (λ b. bit_and (bit_xor (ascii b) (separator b)) b) v _ _ asciis others in
    (flags-by (λ b. bit_xor (ascii b) (bit_and (bit_xor (ascii b) (separator b)) b)) (needs_escape script) 8 v _ (word-bytes x) lanes refl refl).lanes
