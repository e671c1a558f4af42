use Rattle.std.proofs.lemmas.Str.{IsUtf8-from_ascii}
use Rattle.std.proofs.Common.{rules}
use Rattle.escape_c.proofs.call.as_text.Goals as goal
use Rattle.escape_c.proofs.call.as_text.Goals.{then-is_known-via-then-is_known, then-is_known-via-else-is_known+then-is_ascii}

pub from_utf8_unchecked-requires : goal.from_utf8_unchecked-requires
from_utf8_unchecked-requires c = elim c.then-is_known.branch [
  | then-is_known-via-then-is_known w ↦ search (rules, w.if-is_known)
  | then-is_known-via-else-is_known+then-is_ascii w ↦ IsUtf8-from_ascii c.args.bytes.now (search (rules, w))
]
