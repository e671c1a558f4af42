use Rattle.escape_simd.proofs.Words.{true, length, ap, subst, arith, bytes_of, mode_numbered, IsFormatted, reach}
use Rattle.escape_simd.proofs.Whole.{whole_formatted, bound-quotes, close-inside, whole-room}
use Rattle.escape_simd.proofs.simd.whole.format.Goals as goal

pub escape_bytes-close-requires : goal.escape_bytes-close-requires
escape_bytes-close-requires g c =
    let mode = mode_numbered g.row.MODE in let o = c.write_quote-open.ensures in
    (omega arith, whole-room mode (reach true g.row.N) c.as_bytes.result.now c.write_quote-open.result (length (bytes_of c.write_quote-open.new.target)) (omega (arith, bound-quotes mode (length c.args.value.now), ap length c.as_bytes.ensures.value, o.quoted.ends, o.same_slice.len, c.requires)))

pub write_quote-requires : goal.write_quote-requires
write_quote-requires g c =
    let mode = mode_numbered g.row.MODE in let o = c.write_quote-open.ensures in
    let room = whole-room mode 32 c.as_bytes.result.now c.write_quote-open.result (length (bytes_of c.write_quote-open.new.target)) (omega (arith, bound-quotes mode (length c.args.value.now), ap length c.as_bytes.ensures.value, o.quoted.ends, o.same_slice.len, c.requires)) in
    (omega arith, close-inside c.escape_bytes-close.ensures.stretch room (omega arith))

pub returns : goal.returns
returns g c =
    let mode = mode_numbered g.row.MODE in
    subst (λ xs. IsFormatted {N = g.row.N} mode xs c.args.target.now c.write_quote.new.target c.write_quote.result c.args.ticks.now c.escape_bytes-close.new.ticks) c.as_bytes.ensures.value
    (whole_formatted c.write_quote-open.ensures c.escape_bytes-close.ensures.stretch c.write_quote.ensures c.escape_bytes-close.ensures.cost)
