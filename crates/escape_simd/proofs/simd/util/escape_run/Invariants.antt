use Rattle.escape_simd.proofs.Words.{◌-◌, length, bytes_of, mode_numbered, EscapedRun, HasRunRoom}
use Rattle.escape_simd.proofs.simd.util.escape_run.Given as goal

abbrev pub invariant-run : goal.invariant-run
invariant-run g l =
    let mode = mode_numbered g.row.MODE in
    record {
      so_far : EscapedRun mode l.src l.fn.target l.target l.at l.next l.to l.end;
      goes : g.F.RunEnd.goes l.run l.src l.stop l.next;
      room : HasRunRoom mode l.src l.next l.stop l.end (length (bytes_of l.target));
    }

abbrev pub decreases-run : goal.decreases-run
decreases-run g l = length l.src - l.next
