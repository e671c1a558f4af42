use Rattle.std.proofs.Common.{nat_le, replicate, ◌∙◌}
use Rattle.std.proofs.lemmas.Simd.{length-replicate, zip2_splat_left}
use Rattle.escape_lanes.proofs.LaneLemmas.{bits-below, bits-set}
use Rattle.escape_lanes.proofs.simd.needs.flag_bits.Goals as goal

pub returns : goal.returns
returns g c =
    let n = g.row.N in let xs = c.args.flags.now in let full = c.requires.bytes.full in let few = c.requires.few in
    record {
      below = bits-below nat_le n (replicate n 128) xs (length-replicate n 128) full few;
      bits = bits-set nat_le n (replicate n 128) xs (length-replicate n 128) full few ∙ zip2_splat_left nat_le 128 n xs full;
    }
