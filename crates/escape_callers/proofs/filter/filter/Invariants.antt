-- The records of the lines so far are written, and those of the reader's rest are left.
use Rattle.std.proofs.Common.{IfSome}
use Rattle.std.specs.Io.Iter.{lines_known_bytes}
use Rattle.escape_text.proofs.FilterLemmas.{IsFiltered}
use Rattle.escape_callers.specs.Written.{record_of}
use Rattle.escape_callers.proofs.filter.filter.Given as goal

abbrev pub invariant-loop-line : goal.invariant-loop-line
invariant-loop-line g l =
    IfSome (g.R.Read.remaining l.fn.reader) (λ bytes. IsFiltered record_of bytes (lines_known_bytes (λ r. g.R.Read.remaining r.now) l.line-iterator)
    (g.W.Write.contents l.initial.writer) (g.W.Write.contents l.writer))
