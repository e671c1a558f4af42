use Rattle.escape_simd.proofs.Words.{arith, get_or, mode_numbered}
use Rattle.escape_simd.proofs.RunsOfFlags.{uncounted}
use Rattle.escape_simd.proofs.Texts.{run_end-stop}
use Rattle.escape_simd.proofs.simd.util.run.EntriesRunEnd.goes_on.Goals as goal

pub returns-then-next-stop-clause-ends : goal.returns-then-next-stop-clause-ends
returns-then-next-stop-clause-ends g c = λ none.
    let mode = mode_numbered g.row.MODE in
    run_end-stop mode c.args.src.now c.args.next (omega (arith, c.if-next-stop.true, c.requires.1)) (uncounted mode (get_or c.args.src.now c.args.next 0) c.entry.result.now.0 c.entry.ensures.count (grind (arith, none)))
