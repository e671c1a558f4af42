use Rattle.escape_simd.proofs.Words.{true, length, ap, rules, arith}
use Rattle.escape_simd.proofs.Stretches.{reach-bounds, room-least}
use Rattle.escape_simd.proofs.Whole.{enclosed}
use Rattle.escape_simd.proofs.simd.whole.escape_flagged.Goals as goal

pub write_quote-open-requires : goal.write_quote-open-requires
write_quote-open-requires g c =
    let far = (reach-bounds true g.row.N g.met.V.Classifier.several).0 in let room = room-least (omega arith) (omega arith) c.requires.room in
    (omega arith, omega (arith, far, room, ap length c.new-target.ensures.bytes))

pub returns : goal.returns
returns g c = let w = enclosed _ _ _ c.new-target.ensures.bytes c.write_quote-open.ensures c.escape_flagged_tail-close.ensures.stretch c.write_quote.ensures in search (rules, w)
