use Rattle.escape_lanes.specs.Mode.{script}
use Rattle.escape_simd.proofs.PlainLaws.{plain_is_escaping, script_is_safe}
use Rattle.escape_callers.proofs.document.append_document.Goals as goal

pub returns-clause-denotes : goal.returns-clause-denotes
returns-clause-denotes g c = (plain_is_escaping script c.args.document.now c.utf8.document).headline

pub returns-clause-nothing_ends_script : goal.returns-clause-nothing_ends_script
returns-clause-nothing_ends_script g c = script_is_safe c.args.document.now
