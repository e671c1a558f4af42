use Rattle.std.proofs.Common.{IsUtf8, sym, subst}
use Rattle.escape_simd.specs.Modes.{mode_numbered}
use Rattle.escape_simd.proofs.OutputLemmas.{IsUtf8-inner}
use Rattle.escape_text.proofs.piecewise.escape_inner.Goals as goal

pub from_utf8_unchecked-requires : goal.from_utf8_unchecked-requires
from_utf8_unchecked-requires g c =
    subst IsUtf8 (sym c.write_inner-end.ensures.written) (IsUtf8-inner (mode_numbered g.row.MODE) c.args.text.now c.utf8.text)
