use Rattle.escape_simd.proofs.Words.{length, ap, arith, rules, mode_numbered}
use Rattle.escape_simd.proofs.Whole.{bound-quotes, text_written}
use Rattle.escape_simd.proofs.simd.whole.format_string.Goals as goal

pub escape_to_slice-requires : goal.escape_to_slice-requires
escape_to_slice-requires g c = omega (arith, bound-quotes (mode_numbered g.row.MODE) (length c.args.value.now), ap length c.as_bytes.ensures.value, c.requires)

pub returns : goal.returns
returns g c =
    let t = text_written {lanes = g.row.N} {mode = mode_numbered g.row.MODE} c.as_bytes.ensures.value (search (rules, c.escape_to_slice.ensures)) c.utf8.value in
    record { written = t.written; headline = t.output.headline; equal_texts = t.output.equal_texts }
