use Rattle.std.proofs.Common.{◌≡◌, ℕ, ◌+◌, ◌-◌, ◌<◌, ◌≤◌, List, length, take, slice_range, subst, sym, ap, ◌∙◌, rules, arith}
use Rattle.std.proofs.lemmas.Str.{IsCharBoundary-start}
use Rattle.std.specs.Io.KnownBytes.{Appends}
use Rattle.std.proofs.KnownBytes.{Appends-nil}
use Rattle.escape_simd.specs.Output.{inner}
use Rattle.escape_simd.proofs.Pieces.{cut-forward}
use Rattle.escape_simd.proofs.ReplacementLemmas.{inner-nil}
use Rattle.escape_simd.specs.Modes.{escaping}
use Rattle.escape_stream.proofs.Written.{piece-appended, piece-beginning}
use Rattle.escape_stream.proofs.escaped.write_pieces.Goals as goal

pub pieces-init : goal.pieces-init
pieces-init g c = record {
  cut = IsCharBoundary-start c.args.text.now c.utf8.text;
  same_room = search rules;
  appended = subst (Appends (g.W.Write.contents c.args.output.now) (g.W.Write.contents c.args.output.now)) (sym (inner-nil (escaping c.args.mode))) (Appends-nil (g.W.Write.contents c.args.output.now));
}

pub returns-in_err-write_all-clause-beginning : goal.returns-in_err-write_all-clause-beginning
returns-in_err-write_all-clause-beginning g c =
    let inv = c.pieces.invariant in let text : List ℕ = c.args.text.now in let next : ℕ = c.floor_char_boundary-next.result in
    let forward = cut-forward text c.pieces.at _ next c.utf8.text inv.cut c.pieces-test.true (λ n few within. omega (arith, few, within)) c.floor_char_boundary-next.ensures.nearest in
    let w = piece-beginning (escaping c.args.mode) text c.pieces.at next (g.W.Write.contents c.args.output.now) (g.W.Write.contents c.pieces.output) (g.W.Write.contents c.write_all.new.output) _ c.utf8.text inv.cut c.floor_char_boundary-next.ensures.boundary (omega (arith, forward))
    (c.format_inner-count.ensures.written.exact ∙ ap (inner (escaping c.args.mode)) c.range.ensures.value) inv.appended c.in_err-write_all.ensures.beginning in
    search (rules, w)

pub pieces-smaller : goal.pieces-smaller
pieces-smaller g c =
    let inv = c.pieces.invariant in
    let forward = cut-forward c.args.text.now c.pieces.at _ c.floor_char_boundary-next.result c.utf8.text inv.cut c.pieces-test.true (λ n few within. omega (arith, few, within)) c.floor_char_boundary-next.ensures.nearest in
    omega (arith, forward, c.pieces-test.true)

pub pieces-preserved : goal.pieces-preserved
pieces-preserved g c =
    let inv = c.pieces.invariant in let text : List ℕ = c.args.text.now in let next : ℕ = c.floor_char_boundary-next.result in
    let forward = cut-forward text c.pieces.at _ next c.utf8.text inv.cut c.pieces-test.true (λ n few within. omega (arith, few, within)) c.floor_char_boundary-next.ensures.nearest in
    record {
      cut = c.floor_char_boundary-next.ensures.boundary;
      same_room = c.format_inner-count.auto.dst ∙ inv.same_room;
      appended = piece-appended (escaping c.args.mode) text c.pieces.at next (g.W.Write.contents c.args.output.now) (g.W.Write.contents c.pieces.output) (g.W.Write.contents c.write_all.new.output) _ c.utf8.text inv.cut c.floor_char_boundary-next.ensures.boundary (omega (arith, forward))
          (c.format_inner-count.ensures.written.exact ∙ ap (inner (escaping c.args.mode)) c.range.ensures.value) inv.appended c.in_ok-write_all.ensures.whole;
    }
