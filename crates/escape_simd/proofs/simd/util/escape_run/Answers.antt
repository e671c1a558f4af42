use Rattle.escape_simd.proofs.Words.{arith}
use Rattle.escape_simd.proofs.RunsOfFlags.{run-begins, run-on, run-room, run-room-on}
use Rattle.escape_simd.proofs.simd.util.escape_run.Goals as goal

pub run-init : goal.run-init
run-init g c =
    let f = g.met.F.RunEnd.flagged c.args.run.now c.args.src.now c.args.stop c.args.at c.requires.0 in
    record { so_far = run-begins c.args.target.now c.args.to f.0; goes = c.requires.0; room = c.requires.1 }

pub escape-after-requires : goal.escape-after-requires
escape-after-requires g c =
    let i = c.run.invariant in let f = g.met.F.RunEnd.flagged c.run.run c.args.src.now c.args.stop c.run.next i.goes in
    (omega arith, (f.0, run-room i.room f.1 f.2))

pub goes_on-requires : goal.goes_on-requires
goes_on-requires g c = (c.run.next, c.run.invariant.goes, c.escape-after.ensures.place, c.escape-after.ensures.stretch.inside)

pub returns-then-not-goes_on-clause-escaped : goal.returns-then-not-goes_on-clause-escaped
returns-then-not-goes_on-clause-escaped g c =
    let i = c.run.invariant in let f = g.met.F.RunEnd.flagged c.run.run c.args.src.now c.args.stop c.run.next i.goes in
    let e = c.escape-after.ensures in run-on f.0 e.stretch e.place e.stored i.so_far

pub run-preserved : goal.run-preserved
run-preserved g c =
    let i = c.run.invariant in let f = g.met.F.RunEnd.flagged c.run.run c.args.src.now c.args.stop c.run.next i.goes in
    let goes = c.goes_on.ensures.goes c.if-not-goes_on.false in let n = g.met.F.RunEnd.flagged c.goes_on.new.self c.args.src.now c.args.stop c.escape-after.result.0 goes in
    let e = c.escape-after.ensures in
    record { so_far = run-on f.0 e.stretch e.place e.stored i.so_far; goes = goes; room = run-room-on f.0 e.stretch e.place e.stored i.room n.1 }
