use Rattle.escape_lanes.specs.Mode.{json}
use Rattle.escape_simd.proofs.EscapingLemmas.{IsEscaping-output}
use Rattle.escape_text.proofs.json.escape_compact.Goals as goal

pub returns-clause-output : goal.returns-clause-output
returns-clause-output g c = IsEscaping-output json _ _ c.in_ok-compact_text.ensures.exact c.utf8.value
