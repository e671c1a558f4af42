use Rattle.std.proofs.Common.{IsUtf8, sym, subst}
use Rattle.std.proofs.lemmas.Str.{IsUtf8-string_bytes}
use Rattle.escape_simd.specs.Modes.{mode_numbered}
use Rattle.escape_text.proofs.QuoteLemmas.{IsUtf8-appended}
use Rattle.escape_text.proofs.appended_text.appended.Goals as goal

pub from_utf8_unchecked-requires : goal.from_utf8_unchecked-requires
from_utf8_unchecked-requires g c =
    let before = subst (λ bytes. IsUtf8 bytes.items) (sym c.into_bytes-bytes.ensures.value) (IsUtf8-string_bytes c.args.dst) in
    IsUtf8-appended (mode_numbered g.row.MODE) c.append-outcome.result c.args.value.now _ _ c.utf8.value before c.append-outcome.ensures.exact c.append-outcome.ensures.unchanged
