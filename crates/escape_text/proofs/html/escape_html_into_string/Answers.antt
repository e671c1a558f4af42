use Rattle.escape_lanes.specs.Mode.{html}
use Rattle.escape_simd.proofs.EscapingLemmas.{IsEscaping-appended}
use Rattle.escape_text.proofs.html.escape_html_into_string.Goals as goal

pub returns-clause-output : goal.returns-clause-output
returns-clause-output g c = IsEscaping-appended html _ _ _ c.in_ok-append_text.ensures.exact c.utf8.value
