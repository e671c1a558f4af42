-- What stands for a piece of a text.
use Rattle.std.proofs.Common.{◌≡◌, ℕ, ◌+◌, ◌*◌, ◌≤◌, List, ◌++◌, refl, ap, ◌∙◌, arith, IsUtf8}
use Rattle.escape_lanes.specs.Mode.{Mode, json, html, script}
use Rattle.escape_simd.specs.Output.{bound, inner}
use Rattle.escape_simd.proofs.OutputLemmas.{inner-append}
use Rattle.escape_simd.proofs.Pieces.{cut-text}
use Rattle.escape_c.specs.Call.{JoinsPieces}

-- a text that is cut between two characters
pub joins_pieces : (mode : Mode) (text output : List ℕ) → output ≡ inner mode text → IsUtf8 text → JoinsPieces mode text output
joins_pieces mode text output same utf8 before after first =
    inner-append mode (before ++ (text ++ after)) before (text ++ after) refl (cut-text mode before first)
    ∙ ap (λ xs. inner mode before ++ xs) (inner-append mode (text ++ after) text after refl (cut-text mode text utf8) ∙ ap (λ xs. xs ++ inner mode after) (rw (← same) refl))

-- a buffer that has room for an output has room for what stands between its quotation marks
pub bound_least : (mode : Mode) (n : ℕ) → 6 * n + 32 ≤ bound mode n
bound_least json n = omega arith
bound_least html n = omega arith
bound_least script n = omega arith
