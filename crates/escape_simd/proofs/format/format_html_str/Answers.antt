use Rattle.escape_simd.proofs.ExamplesLemmas.{html_examples}
use Rattle.escape_simd.proofs.format.format_html_str.Goals as goal

pub returns-clause-examples : goal.returns-clause-examples
returns-clause-examples c = html_examples
