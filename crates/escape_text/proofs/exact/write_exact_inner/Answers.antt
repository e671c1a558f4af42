use Rattle.std.proofs.Common.{ℕ, List, ◌++◌, ◌<◌, length, take, append_assoc, length-append, length-take, sym, ap, ◌∙◌, arith, rules}
use Rattle.escape_lanes.specs.Mode.{Mode}
use Rattle.escape_simd.specs.Modes.{mode_numbered}
use Rattle.escape_simd.specs.Output.{inner}
use Rattle.escape_simd.proofs.Lengths.{same-length}
use Rattle.escape_simd.proofs.Texts.{length-inner}
use Rattle.escape_text.proofs.SinkLemmas.{parts}
use Rattle.escape_text.proofs.exact.write_exact_inner.Goals as goal

pub returns-then-dst-value : goal.returns-then-dst-value
returns-then-dst-value g c =
    let long = c.if-dst-value.true in
    c.copy_from_slice.ensures.after ∙ c.as_bytes.ensures.value ∙ sym (same-length (mode_numbered g.row.MODE) c.args.value.now (omega (arith, long, c.requires.room)))

pub pieces-smaller : goal.pieces-smaller
pieces-smaller g c =
    let mode : Mode = mode_numbered g.row.MODE in
    let rest : List ℕ = c.pieces.rest.now in
    let so_far : List ℕ = take c.pieces.at c.pieces.dst in
    let whole = ap length c.pieces.invariant.text in
    let some : 0 < length rest = omega (arith, whole, length-inner mode rest, length-append so_far (inner mode rest), length-take c.pieces.at c.pieces.dst, c.pieces.invariant.within, c.pieces.auto.dst, c.requires.room, c.pieces-test.true) in
    c.split_front.ensures.shorter some

pub pieces-preserved : goal.pieces-preserved
pieces-preserved g c =
    let mode : Mode = mode_numbered g.row.MODE in
    let piece : List ℕ = c.split_front.result.0.now in
    let so_far : List ℕ = take c.pieces.at c.pieces.dst in
    let written : List ℕ = inner mode piece in
    let left : List ℕ = inner mode c.split_front.result.1.now in
    let cut = parts mode c.pieces.rest.now piece c.split_front.result.1.now c.split_front.ensures.joined c.split_front.ensures.cut in
    record {
      utf8 = search rules;
      text = ap (λ xs. xs ++ left) c.write_inner-at.ensures.written ∙ append_assoc so_far written left ∙ ap (λ xs. so_far ++ xs) (sym cut) ∙ c.pieces.invariant.text;
      within = omega (arith, c.write_inner-at.ensures.end, length-inner mode piece, c.split_front.ensures.few, c.write_inner-at.auto.dst, c.pieces-test.true);
    }
