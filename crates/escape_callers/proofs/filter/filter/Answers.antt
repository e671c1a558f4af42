use Rattle.std.proofs.Common.{string_bytes}
use Rattle.escape_text.proofs.WriterLemmas.{after_ok, after_error}
use Rattle.escape_text.proofs.FilterLemmas.{known_more, known_part, known_whole}
use Rattle.escape_callers.specs.Written.{record_of}
use Rattle.escape_callers.proofs.filter.filter.Goals as goal

pub returns-in_err-write_record-clause-beginning :
    goal.returns-in_err-write_record-clause-beginning
returns-in_err-write_record-clause-beginning g c =
    let gave = rw c.in_ok-line.was at c.in-Some.ensures.steps in
    after_error c.from_residual-in_err-write_record.result _
    (known_part record_of _ (string_bytes c.in_ok-line.field-0) _ _ _ _ c.loop-line.invariant gave.1.0 (rw c.as_str.ensures.value at c.in_err-write_record.ensures.beginning))

pub loop-line-preserved : goal.loop-line-preserved
loop-line-preserved g c =
    let gave = rw c.in_ok-line.was at c.in-Some.ensures.steps in
    known_more record_of _ (string_bytes c.in_ok-line.field-0) _ _ _ _ _ c.loop-line.invariant gave.1.0 gave.1.1 (rw c.as_str.ensures.value at c.in_ok-write_record.ensures.exact)

pub returns-clause-exact : goal.returns-clause-exact
returns-clause-exact g c =
    after_ok c.flush.result _ (known_whole record_of _ _ _ _ _ c.loop-line.invariant c.in-None.ensures.steps.1 c.flush.ensures.bytes)
