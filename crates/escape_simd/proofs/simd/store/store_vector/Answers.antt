use Rattle.escape_simd.proofs.Words.{◌∙◌, take, drop, ap, sym, arith, take-take}
use Rattle.escape_simd.proofs.Stretches.{stored_alike}
use Rattle.escape_simd.proofs.simd.store.store_vector.Goals as goal

pub store_lanes-end-requires : goal.store_lanes-end-requires
store_lanes-end-requires g c =
    let r = c.requires in let loaded = ap (take c.args.left) c.load_vector-v.ensures ∙ take-take c.args.left _ (drop c.args.from c.args.src.now) (omega (arith, r.0, r.1)) in
    (omega arith, (omega arith, (r.0, r.1, r.3 ∙ sym loaded, r.4, r.5)))

pub returns-clause-stored : goal.returns-clause-stored
returns-clause-stored g c = stored_alike (ap (take c.args.left) c.load_vector-v.ensures ∙ take-take c.args.left _ (drop c.args.from c.args.src.now) (omega (arith, c.requires.0, c.requires.1))) c.store_lanes-end.ensures.stored
