-- the entries so far are written
use Rattle.std.proofs.Common.{flat_map, take}
use Rattle.std.specs.Io.KnownBytes.{Appends}
use Rattle.escape_callers.specs.Written.{line_of}
use Rattle.escape_callers.proofs.report.write_report.Given as goal

abbrev pub invariant-loop-entry : goal.invariant-loop-entry
invariant-loop-entry g l = Appends (g.W.Write.contents l.initial.writer) (g.W.Write.contents l.writer) (flat_map line_of (take l.entry-index l.entries))
