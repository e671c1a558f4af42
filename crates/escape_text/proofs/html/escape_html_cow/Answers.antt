use Rattle.std.proofs.Common.{sym}
use Rattle.escape_lanes.specs.Mode.{html}
use Rattle.escape_simd.proofs.EscapingLemmas.{IsEscaping-output}
use Rattle.escape_text.proofs.html.escape_html_cow.Goals as goal

pub returns-then-is_clean-clause-output : goal.returns-then-is_clean-clause-output
returns-then-is_clean-clause-output g c = IsEscaping-output html _ _ (sym (c.is_clean.ensures.0 c.if-is_clean.true)) c.utf8.value
