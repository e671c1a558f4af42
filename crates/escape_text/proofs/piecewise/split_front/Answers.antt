use Rattle.std.proofs.Common.{arith}
use Rattle.std.proofs.lemmas.Str.{IsCharBoundary-start}
use Rattle.escape_simd.proofs.Pieces.{cut-forward}
use Rattle.escape_text.proofs.piecewise.split_front.Goals as goal

pub returns-clause-shorter : goal.returns-clause-shorter
returns-clause-shorter c = λ some.
    let text = c.args.text.now in
    let forward = cut-forward text 0 c.min.result c.floor_char_boundary.result c.utf8.text (IsCharBoundary-start text c.utf8.text) some (λ n few within. omega (arith, few, within, c.min.ensures, c.requires)) c.floor_char_boundary.ensures.nearest in
    omega (arith, forward, c.split_at.ensures.back_len)
