use Rattle.escape_simd.proofs.ExamplesLemmas.{script_examples}
use Rattle.escape_simd.proofs.format.format_script_inner.Goals as goal

pub returns-clause-examples : goal.returns-clause-examples
returns-clause-examples c = script_examples
