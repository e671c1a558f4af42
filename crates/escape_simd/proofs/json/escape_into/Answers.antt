use Rattle.escape_lanes.specs.Mode.{json}
use Rattle.escape_simd.proofs.EscapingLemmas.{IsEscaping-appended}
use Rattle.escape_simd.proofs.json.escape_into.Goals as goal

pub returns-clause-output : goal.returns-clause-output
returns-clause-output g c = IsEscaping-appended json _ _ _ c.in_ok-append.ensures.exact c.utf8.value
