use Rattle.escape_simd.proofs.Words.{ℕ, ◌∙◌, ap, length, length-append, length-replicate, replicate, arith, flag_count, mode_numbered}
use Rattle.escape_simd.proofs.Last.{tail-room}
use Rattle.escape_simd.proofs.Texts.{length-inner}
use Rattle.escape_simd.proofs.output.in_place.append_flagged.Goals as goal

pub escape_flagged-end-requires : goal.escape_flagged-end-requires
escape_flagged-end-requires g c =
    let first = c.count_flagged.ensures.count ∙ ap flag_count c.bits.ensures in let last = c.count_flagged-2.ensures.count ∙ ap flag_count c.bits-2.ensures in
    let room = tail-room (mode_numbered g.row.MODE) c.requires.masks 32 c.len-old.result (length c.deref_mut.result.now)
    (omega (arith, c.if-most-gt-FEW_ZEROS.false, first, last, c.len-old.ensures, ap length c.deref_mut.ensures.value, ap length c.push_all.ensures.items, length-append c.args.dst.now.items (replicate 128 0), length-replicate {A = ℕ} 128 0)) in
    (omega arith, (c.requires.masks, record { fits = omega (arith, room.fits) }))

pub push_quote-requires : goal.push_quote-requires
push_quote-requires g c = grind (arith, length-inner (mode_numbered g.row.MODE) c.args.text.now)
