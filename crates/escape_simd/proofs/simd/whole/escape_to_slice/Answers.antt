use Rattle.escape_simd.proofs.Words.{true, length, ap, rules, arith, bytes_of, mode_numbered, reach}
use Rattle.escape_simd.proofs.Whole.{close-inside, enclosed, whole-room, written-again}
use Rattle.escape_simd.proofs.simd.whole.escape_to_slice.Goals as goal

pub store_clean_tail-requires : goal.store_clean_tail-requires
store_clean_tail-requires g c =
    let o = c.write_quote-open.ensures in
    (omega arith, (omega arith, (omega (arith, c.if-text.false), whole-room (mode_numbered g.row.MODE) (reach true g.row.N) c.args.text.now c.write_quote-open.result (length (bytes_of c.write_quote-open.new.target)) (omega (arith, c.requires, o.quoted.ends, o.same_slice.len, ap length c.new-target.ensures.bytes)))))

pub write_quote-requires : goal.write_quote-requires
write_quote-requires g c =
    let o = c.write_quote-open.ensures in
    let room = whole-room (mode_numbered g.row.MODE) 32 c.args.text.now c.write_quote-open.result (length (bytes_of c.write_quote-open.new.target)) (omega (arith, c.requires, o.quoted.ends, o.same_slice.len, ap length c.new-target.ensures.bytes)) in
    (omega arith, close-inside c.in-Ok.ensures.clean.stretch room (omega arith))

pub escape_flagged-requires : goal.escape_flagged-requires
escape_flagged-requires g c =
    let o = c.write_quote-open.ensures in
    let room = whole-room (mode_numbered g.row.MODE) (reach true g.row.N) c.args.text.now c.write_quote-open.result (length c.args.dst.now) (omega (arith, c.requires, o.quoted.ends)) in
    (omega arith, (c.in-Err.ensures.flagged, search (rules, room)))

pub returns-in-Ok : goal.returns-in-Ok
returns-in-Ok g c = let w = enclosed _ _ _ c.new-target.ensures.bytes c.write_quote-open.ensures c.in-Ok.ensures.clean.stretch c.write_quote.ensures in search (rules, w)

pub returns-in-Err : goal.returns-in-Err
returns-in-Err g c = written-again _ _ _ c.new-target.ensures.bytes (omega (arith, c.requires)) c.write_quote-open.ensures (search (rules, c.escape_flagged.ensures))
