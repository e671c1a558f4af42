use Rattle.escape_lanes.specs.Mode.{html}
use Rattle.escape_simd.proofs.EscapingLemmas.{IsEscaping-output}
use Rattle.escape_simd.proofs.html.escape_html_in.Goals as goal

pub returns-clause-output : goal.returns-clause-output
returns-clause-output g c = IsEscaping-output html _ _ c.in_ok-output_in.ensures.exact c.utf8.value
