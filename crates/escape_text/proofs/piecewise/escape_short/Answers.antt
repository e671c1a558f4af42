use Rattle.std.proofs.Common.{ℕ, length, length-append, length-drop, ap, ◌∙◌, arith}
use Rattle.escape_simd.specs.Modes.{mode_numbered}
use Rattle.escape_simd.proofs.OutputLemmas.{IsUtf8-output}
use Rattle.escape_simd.proofs.Texts.{length-inner}
use Rattle.escape_simd.proofs.Whole.{quote-short}
use Rattle.escape_text.proofs.QuoteLemmas.{room-quoted}
use Rattle.escape_text.proofs.piecewise.escape_short.Goals as goal

pub slice_bounds-copy_from_slice-end-3 : goal.slice_bounds-copy_from_slice-end-3
slice_bounds-copy_from_slice-end-3 g c =
    let mode = mode_numbered g.row.MODE in
    let few = quote-short mode in let quote = ap length (c.as_bytes-quote.ensures.value ∙ c.quote.ensures) in
    omega (arith, few, quote, length-inner mode c.args.text.now, c.write_inner-end.ensures.end, c.write_inner-end.auto.dst, length-append {A = ℕ}, length-drop {A = ℕ}, c.copy_from_slice.ensures.len, c.requires.room)

pub from_utf8_unchecked-requires : goal.from_utf8_unchecked-requires
from_utf8_unchecked-requires g c =
    let mode = mode_numbered g.row.MODE in
    let is = c.as_bytes-quote.ensures.value ∙ c.quote.ensures in
    let few = quote-short mode in let quote = ap length is in
    IsUtf8-output mode c.args.text.now _ c.utf8.text
    (room-quoted mode c.args.text.now c.as_bytes-quote.result.now c.write_inner-end.new.dst _ c.copy_from_slice.new.self c.copy_from_slice-2.new.self c.write_inner-end.result _ is c.copy_from_slice.ensures.after c.copy_from_slice-2.ensures.after c.write_inner-end.ensures.written
    (omega (arith, few, quote, length-inner mode c.args.text.now, c.write_inner-end.ensures.end, c.write_inner-end.auto.dst, length-append {A = ℕ}, length-drop {A = ℕ}, c.copy_from_slice.ensures.len, c.requires.room)))
