use Rattle.escape_simd.proofs.Words.{true, false, ne_eqb}
use Rattle.escape_simd.proofs.Stretches.{stretch-written, stretch-end}
use Rattle.escape_simd.proofs.simd.util.escape_unchecked.Goals as goal

pub returns-then-this-ne0-clause-end : goal.returns-then-this-ne0-clause-end
returns-then-this-ne0-clause-end g c = rw (ne_eqb _ _ c.if-this-ne0.true) (stretch-end true c.escape_run.ensures.escaped.stretch)

pub returns-then-this-ne0-clause-written : goal.returns-then-this-ne0-clause-written
returns-then-this-ne0-clause-written g c = rw (ne_eqb _ _ c.if-this-ne0.true) (stretch-written true c.escape_run.ensures.escaped.stretch)

pub returns-clause-end : goal.returns-clause-end
returns-clause-end g c = rw c.if-this-ne0.false (stretch-end false c.escape_run-2.ensures.escaped.stretch)

pub returns-clause-written : goal.returns-clause-written
returns-clause-written g c = rw c.if-this-ne0.false (stretch-written false c.escape_run-2.ensures.escaped.stretch)
