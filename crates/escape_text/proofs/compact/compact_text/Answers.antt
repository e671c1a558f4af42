use Rattle.std.proofs.Common.{length, ap, ◌∙◌, take_at, arith}
use Rattle.escape_simd.specs.Modes.{mode_numbered}
use Rattle.escape_simd.proofs.OutputLemmas.{IsUtf8-output}
use Rattle.escape_text.proofs.compact.compact_text.Goals as goal

pub from_utf8_unchecked-requires : goal.from_utf8_unchecked-requires
from_utf8_unchecked-requires g c =
    let is = c.write_exact.ensures in let long = ap length is in
    IsUtf8-output (mode_numbered g.row.MODE) c.args.value.now _ c.utf8.value (take_at _ _ _ (omega (arith, long)) ∙ is)
