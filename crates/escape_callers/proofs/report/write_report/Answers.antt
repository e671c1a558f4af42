use Rattle.escape_text.proofs.Many.{written_more}
use Rattle.escape_callers.specs.Written.{line_of}
use Rattle.escape_callers.proofs.report.write_report.Goals as goal

pub loop-entry-preserved : goal.loop-entry-preserved
loop-entry-preserved g c = written_more line_of c.args.entries.now _ _ c.loop-entry-test.true _ _ _ c.loop-entry.invariant c.in_ok-write_line.ensures
