use Rattle.std.proofs.Common.{◌≡◌, false, is_ok, rules}
use Rattle.escape_simd.specs.Modes.{mode_numbered}
use Rattle.escape_text.proofs.SinkLemmas.{quoted, stopped_first, stopped_inside}
use Rattle.escape_text.proofs.piecewise.send.Goals as goal

pub returns-in_err-put : goal.returns-in_err-put
returns-in_err-put g c =
    let stopped : is_ok c.from_residual.result ≡ false = search rules in
    rw stopped (stopped_first g.met.S.Sink.in_turn (mode_numbered g.row.MODE) _ _ c.args.value.now (rw c.quote.ensures at c.in_err-put.ensures))

pub returns-in_err-send_inner : goal.returns-in_err-send_inner
returns-in_err-send_inner g c =
    let stopped : is_ok c.from_residual-in_err-send_inner.result ≡ false = search rules in
    rw stopped (stopped_inside g.met.S.Sink.in_turn (mode_numbered g.row.MODE) _ _ _ c.args.value.now (rw c.quote.ensures at c.in_ok-put.ensures) c.in_err-send_inner.ensures)

pub returns : goal.returns
returns g c =
    quoted g.met.S.Sink.in_turn (mode_numbered g.row.MODE) _ _ _ _ _ c.args.value.now (rw c.quote.ensures at c.in_ok-put.ensures) c.in_ok-send_inner.ensures (rw c.quote-2.ensures at c.put-3.ensures)
