use Rattle.std.proofs.Common.{◌≡◌, false, length, is_ok, rules}
use Rattle.escape_simd.specs.Modes.{mode_numbered}
use Rattle.escape_text.proofs.SinkLemmas.{further, broken_off, finished, no_bytes}
use Rattle.escape_text.proofs.piecewise.send_pieces.Goals as goal

pub returns-in_err-put : goal.returns-in_err-put
returns-in_err-put g c =
    let stopped : is_ok c.from_residual.result ≡ false = search rules in
    rw stopped (broken_off g.met.S.Sink.in_turn (mode_numbered g.row.MODE) c.args.dst.now c.pieces.dst c.put.new.dst c.args.front.now c.pieces.rest.now c.split_front.result.0.now c.split_front.result.1.now c.pieces.invariant.so_far c.split_front.ensures.joined c.split_front.ensures.cut (rw c.escape_inner.ensures at c.in_err-put.ensures))

pub pieces-preserved : goal.pieces-preserved
pieces-preserved g c = record {
  utf8 = search rules;
  so_far = further g.met.S.Sink.in_turn (mode_numbered g.row.MODE) c.args.dst.now c.pieces.dst c.put.new.dst c.args.front.now c.pieces.rest.now c.split_front.result.0.now c.split_front.result.1.now c.pieces.invariant.so_far c.split_front.ensures.joined c.split_front.ensures.cut (rw c.escape_inner.ensures at c.in_ok-put.ensures);
}

pub returns : goal.returns
returns g c =
    let none : length c.pieces.rest.now ≡ 0 = search rules in
    finished g.met.S.Sink.in_turn (mode_numbered g.row.MODE) _ _ _ _ c.pieces.invariant.so_far (no_bytes _ none)
