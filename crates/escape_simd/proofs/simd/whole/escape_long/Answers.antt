use Rattle.escape_simd.proofs.Words.{true, length, ap, rules, arith, bytes_of, mode_numbered, reach}
use Rattle.escape_simd.proofs.Whole.{close-inside, enclosed, whole-room}
use Rattle.escape_simd.proofs.simd.whole.escape_long.Goals as goal

pub escape_bytes-close-requires : goal.escape_bytes-close-requires
escape_bytes-close-requires g c =
    let o = c.write_quote-open.ensures in
    (omega arith, whole-room (mode_numbered g.row.MODE) (reach true g.row.N) c.args.text.now c.write_quote-open.result (length (bytes_of c.write_quote-open.new.target)) (omega (arith, c.requires, o.quoted.ends, o.same_slice.len, ap length c.new-target.ensures.bytes)))

pub write_quote-requires : goal.write_quote-requires
write_quote-requires g c =
    let o = c.write_quote-open.ensures in
    let room = whole-room (mode_numbered g.row.MODE) 32 c.args.text.now c.write_quote-open.result (length (bytes_of c.write_quote-open.new.target)) (omega (arith, c.requires, o.quoted.ends, o.same_slice.len, ap length c.new-target.ensures.bytes)) in
    (omega arith, close-inside c.escape_bytes-close.ensures.stretch room (omega arith))

pub returns : goal.returns
returns g c = let w = enclosed _ _ _ c.new-target.ensures.bytes c.write_quote-open.ensures c.escape_bytes-close.ensures.stretch c.write_quote.ensures in search (rules, w)
