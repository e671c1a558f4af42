use Rattle.escape_lanes.specs.Mode.{script}
use Rattle.escape_simd.proofs.EscapingLemmas.{IsEscaping-output}
use Rattle.escape_simd.proofs.json.escape_script_in.Goals as goal

pub returns-clause-output : goal.returns-clause-output
returns-clause-output g c = IsEscaping-output script _ _ c.in_ok-output_in.ensures.exact c.utf8.value

pub returns-clause-safe : goal.returns-clause-safe
returns-clause-safe g c = (IsEscaping-output script _ _ c.in_ok-output_in.ensures.exact c.utf8.value).harmless.safe
