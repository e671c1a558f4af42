use Rattle.escape_simd.proofs.Words.{◌≡◌, ◌≤◌, ◌∙◌, ℕ, ◌+◌, ◌-◌, true, List, length, length-take-le, take, ap, refl, arith, reach, take-take, mask_from, whole_mask}
use Rattle.escape_simd.proofs.Last.{two-begun}
use Rattle.escape_simd.proofs.Stretches.{room-near}
use Rattle.escape_simd.proofs.Vectors.{advanced-ended}
use Rattle.escape_simd.proofs.simd.tail.escape_before_last.Goals as goal

pub cut-front-requires : goal.cut-front-requires
cut-front-requires g c =
    let long : g.row.N ≤ length c.args.text.now = omega (arith, c.if-text.false) in let told = c.requires.mask long in
    (omega arith, (ap (λ m. m.from) told, omega (arith, ap (λ m. length m.bytes) told, length-take-le g.row.N c.args.text.now long, c.requires.few)))

pub escape_by_mask-next-requires : goal.escape_by_mask-next-requires
escape_by_mask-next-requires g c =
    let long : g.row.N ≤ length c.args.text.now = omega (arith, c.if-text.false) in let border : ℕ = length c.args.text.now - g.row.N in
    let told = c.cut-front.ensures ∙ ap (λ m. mask_from (take border m.bytes) 0 m.stored) (c.requires.mask long) ∙ ap whole_mask (take-take border g.row.N c.args.text.now (omega (arith, c.requires.few))) in
    (omega arith, (omega arith, (told, record { few = omega (arith, c.requires.few); inside = omega (arith, long); room = room-near (0 + border) (reach true g.row.N) (omega arith) (omega arith) (omega arith) c.requires.room })))

pub returns : goal.returns
returns g c =
    let e = c.escape_by_mask-next.ensures in let text : List ℕ = c.args.text.now in let border : ℕ = length text - g.row.N in let next = c.escape_by_mask-next.result.0 in
    let one = two-begun g.row.N (length text) (omega (arith, c.if-text.false)) c.requires.few in
    let there : next ≡ border + (next - border) = omega (arith, e.reached.whole) in
    let ended = advanced-ended (omega arith) there refl e in
    record { stretch = ended.stretch; reached = ended.reached; cost = omega (arith, one, ended.cost) }
