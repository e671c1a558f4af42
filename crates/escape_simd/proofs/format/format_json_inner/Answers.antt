use Rattle.escape_simd.proofs.ExamplesLemmas.{json_examples}
use Rattle.escape_simd.proofs.format.format_json_inner.Goals as goal

pub returns-clause-examples : goal.returns-clause-examples
returns-clause-examples c = json_examples
