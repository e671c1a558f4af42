use Rattle.std.proofs.Common.{◌≡◌, false, length, is_ok, rules}
use Rattle.escape_simd.specs.Modes.{mode_numbered}
use Rattle.escape_text.proofs.SinkLemmas.{further, broken_off, finished, no_bytes}
use Rattle.escape_text.proofs.piecewise.send_inner.Goals as goal

pub returns-in_err-send_front : goal.returns-in_err-send_front
returns-in_err-send_front g c =
    let stopped : is_ok c.from_residual.result ≡ false = search rules in
    rw stopped (broken_off g.met.S.Sink.in_turn (mode_numbered g.row.MODE) c.args.dst.now c.fronts.dst c.send_front.new.dst c.args.value.now c.fronts.rest.now c.split_front.result.0.now c.split_front.result.1.now c.fronts.invariant.so_far c.split_front.ensures.joined c.split_front.ensures.cut c.in_err-send_front.ensures)

pub fronts-preserved : goal.fronts-preserved
fronts-preserved g c = record {
  utf8 = search rules;
  so_far = further g.met.S.Sink.in_turn (mode_numbered g.row.MODE) c.args.dst.now c.fronts.dst c.send_front.new.dst c.args.value.now c.fronts.rest.now c.split_front.result.0.now c.split_front.result.1.now c.fronts.invariant.so_far c.split_front.ensures.joined c.split_front.ensures.cut c.in_ok-send_front.ensures;
}

pub returns : goal.returns
returns g c =
    let none : length c.fronts.rest.now ≡ 0 = search rules in
    finished g.met.S.Sink.in_turn (mode_numbered g.row.MODE) _ _ _ _ c.fronts.invariant.so_far (no_bytes _ none)
