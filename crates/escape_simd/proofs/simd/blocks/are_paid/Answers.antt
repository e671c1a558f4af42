use Rattle.escape_simd.proofs.Words.{arith, ◌≡◌, ◌<◌, ℕ, bits_of, first_set, false, get_or_past, nat_tests, none_set, length-bits_of}
use Rattle.escape_simd.proofs.Lanes.{first_set-here}
use Rattle.escape_simd.proofs.PutApart.{blocks-some, flags-most}
use Rattle.escape_simd.proofs.simd.blocks.are_paid.Goals as goal

-- the first flag is one of the 64
first-lt : (f : ℕ) → none_set (bits_of 64 f) ≡ false → first_set (bits_of 64 f) < 64
first-lt f some = let here = first_set-here (bits_of 64 f) some in let l = length-bits_of 64 f in grind (arith, get_or_past, here, l)

pub returns-then-blocks-le2 : goal.returns-then-blocks-le2
returns-then-blocks-le2 c =
    let bits = bits_of 64 c.args.bits in
    let some = blocks-some 8 (first_set bits) bits (first-lt c.args.bits c.requires.some) (first_set-here bits c.requires.some) in
    λ paid. omega (arith, c.if-blocks-le2.true, some)

pub returns-else-blocks-le2 : goal.returns-else-blocks-le2
returns-else-blocks-le2 c =
    let most = flags-most 8 (bits_of 64 c.args.bits) (omega (arith, length-bits_of 64 c.args.bits)) in
    λ paid. let ends = c.count_gaps.ensures.count in let escapes = c.count_flagged-escapes.ensures.count in grind (arith, nat_tests, paid, most, ends, escapes)
