use Rattle.escape_text.proofs.ScriptLists.{array_is_safe}
use Rattle.escape_text.proofs.json.escape_script_array_into.Goals as goal

pub returns-clause-safe : goal.returns-clause-safe
returns-clause-safe g c = array_is_safe c.args.values.now
