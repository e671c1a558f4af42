use Rattle.std.proofs.Common.{◌≡◌, ℕ, List, [], ◌++◌}
use Rattle.escape_simd.proofs.OutputLemmas.{IsUtf8-output}
use Rattle.escape_simd.proofs.output.output_in.Goals as goal

-- what is appended to no bytes
alone : {none new output : List ℕ} → none ≡ [] → new ≡ none ++ output → new ≡ output
alone empty appended = rw empty at appended

pub from_utf8_unchecked-requires : goal.from_utf8_unchecked-requires
from_utf8_unchecked-requires g c = IsUtf8-output _ _ _ c.utf8.value (alone c.in_ok-bytes.ensures.items c.append_reserved.ensures)
