use Rattle.escape_simd.proofs.Words.{ap, length, arith, mode_numbered}
use Rattle.escape_simd.proofs.Texts.{length-inner}
use Rattle.escape_simd.proofs.Whole.{whole-room}
use Rattle.escape_simd.proofs.output.in_place.append_over_bound.Goals as goal

pub escape_flagged-end-requires : goal.escape_flagged-end-requires
escape_flagged-end-requires g c =
    let room = whole-room (mode_numbered g.row.MODE) 32 c.args.text.now c.len-old.result (length c.deref_mut.result.now) (omega (arith, c.len-old.ensures, ap length c.deref_mut.ensures.value, c.fill.ensures.filled)) in
    (omega arith, (c.requires.masks, record { fits = omega (arith, room.fits) }))

pub push_quote-requires : goal.push_quote-requires
push_quote-requires g c = grind (arith, length-inner (mode_numbered g.row.MODE) c.args.text.now)
