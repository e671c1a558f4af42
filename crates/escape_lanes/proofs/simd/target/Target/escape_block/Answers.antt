use Rattle.std.proofs.Common.{◌≡◌, ℕ, Bool, true, false, if◌then◌else◌, nat_eq, refl, ap, arith}
use mir.Val.{bool_byte}
use Rattle.std.specs.Int.RustNames.{count_ones}
use Rattle.escape_lanes.specs.Bits.{bits_of, length-bits_of}
use Rattle.escape_lanes.proofs.BitLemmas.{ones_bits}
use Rattle.escape_lanes.proofs.SpreadLemmas.{block-looked_up, first-half}
use Rattle.escape_lanes.proofs.simd.target.Target.escape_block.Goals as goal

-- a truth value as a number
as_number : (b : Bool) → bool_byte b ≡ (if b then 1 else 0)
as_number true = refl
as_number false = refl

pub swizzle : goal.swizzle
swizzle g c = rw c.spread_row.ensures (block-looked_up (bits_of 8 c.args.flags) c.args.block (length-bits_of 8 c.args.flags) c.requires.whole).safe

pub returns : goal.returns
returns g c =
    let count = ones_bits 8 c.args.flags (omega (arith, c.ranges.flags.fits)) in
    let looked = block-looked_up (bits_of 8 c.args.flags) c.args.block (length-bits_of 8 c.args.flags) c.requires.whole in
    let w = rw (c.spread_row.ensures, first-half c.args.block c.requires.whole, looked.is) at c.write.ensures in
    record {
      written = record {
        same_slice = record { reference = w.same_slice.reference; len = w.same_slice.len };
        bytes = w.bytes;
        stored = omega (arith, w.stored, as_number (nat_eq (count_ones c.args.flags) 0), ap {B = ℕ} (λ n. if nat_eq n 0 then 1 else 0) count);
        escaped = omega (arith, w.escaped, count);
        quotes = w.quotes;
      };
      after = omega (arith, count);
    }
