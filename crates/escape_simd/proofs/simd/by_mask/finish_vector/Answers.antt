use Rattle.escape_simd.proofs.Words.{◌≡◌, ◌+◌, ◌-◌, ◌∙◌, length, take, drop, ap, arith, drop-take, length-take-le, mode_numbered, told_by}
use Rattle.escape_simd.proofs.Lanes.{mask-past}
use Rattle.escape_simd.proofs.Stretches.{room-least}
use Rattle.escape_simd.proofs.Turns.{finished-over, finished-stored}
use Rattle.escape_simd.proofs.simd.by_mask.finish_vector.Goals as goal

pub rest-rest-requires : goal.rest-rest-requires
rest-rest-requires g c =
    let before = c.if-border-from.false in
    let long = ap length c.requires.3.bytes ∙ length-take-le c.args.border c.args.src.now (omega (arith, c.requires.4.inside)) in
    (omega arith, (c.requires.3.used, omega (arith, long, before), c.requires.3.from, mask-past (mode_numbered g.row.MODE) c.args.mask c.args.from c.requires.2 (omega (arith, before, c.requires.1))))

pub store_vector-requires : goal.store_vector-requires
store_vector-requires g c =
    let v = c.requires.4 in let least = room-least (omega (arith, c.if-border-from.false)) (omega (arith, v.inside)) v.room in
    let sum : c.args.border ≡ c.args.from + (c.args.border - c.args.from) = omega (arith, c.if-border-from.false) in
    let told = ap told_by c.rest-rest.ensures.told ∙ ap (drop c.args.from) c.requires.3.bytes ∙ ap (λ k. drop c.args.from (take k c.args.src.now)) sum ∙ drop-take c.args.from (c.args.border - c.args.from) c.args.src.now in
    (omega arith, (omega arith, (c.requires.0, omega (arith, v.few), omega (arith, v.inside, c.if-border-from.false), told, omega (arith, least), ap (λ m. m.stored) c.rest-rest.ensures.told)))

pub returns-then-border-from : goal.returns-then-border-from
returns-then-border-from g c = finished-over c.args.target.now c.args.to c.args.ticks.now c.if-border-from.true c.requires.3

pub returns : goal.returns
returns g c = let e = c.store_vector.ensures in let sum : c.args.from + (c.args.border - c.args.from) ≡ c.args.border = omega (arith, c.if-border-from.false) in rw (e.places.0, e.places.1, sum) (finished-stored c.args.ticks.now _ (omega (arith, c.if-border-from.false)) c.requires.4 c.requires.3 c.requires.2 e.stored c.rest-rest.ensures.tick)
