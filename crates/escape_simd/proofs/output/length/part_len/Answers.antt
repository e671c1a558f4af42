use Rattle.escape_simd.proofs.Words.{◌∙◌, refl, sym, ap, arith, mode_numbered}
use Rattle.escape_simd.proofs.Lengths.{counted-begin, counted-end, counted-few, counted-first, counted-next}
use Rattle.escape_simd.proofs.output.length.part_len.Goals as goal

pub flags-init : goal.flags-init
flags-init g c = counted-begin (mode_numbered g.row.MODE) c.args.src.now c.args.at c.args.count c.requires.inside c.mask_at-mask.result c.mask_at-mask.ensures

pub overflow_add-at : goal.overflow_add-at
overflow_add-at g c =
    let some = sym c.is_clear.ensures ∙ c.flags-test.true in
    let first = counted-first (mode_numbered g.row.MODE) c.args.src.now c.args.at c.args.count c.requires.inside c.flags.len c.flags.mask c.flags.invariant some _ c.first_offset.ensures in
    omega (arith, first.1, c.requires.inside)

pub added-len-requires : goal.added-len-requires
added-len-requires g c =
    let some = sym c.is_clear.ensures ∙ c.flags-test.true in
    (counted-first (mode_numbered g.row.MODE) c.args.src.now c.args.at c.args.count c.requires.inside c.flags.len c.flags.mask c.flags.invariant some _ c.first_offset.ensures).0

pub overflow_add-len : goal.overflow_add-len
overflow_add-len g c =
    let some = sym c.is_clear.ensures ∙ c.flags-test.true in
    let next = counted-next (mode_numbered g.row.MODE) c.args.src.now c.args.at c.args.count c.requires.inside c.flags.len c.flags.mask c.flags.invariant some _ c.first_offset.ensures c.added-len.result _ c.added-len.ensures refl in
    record { fits = omega (arith, counted-few (mode_numbered g.row.MODE) c.args.src.now c.args.at c.args.count c.requires.inside _ _ next, c.requires.few) }

pub clear_first_flag-requires : goal.clear_first_flag-requires
clear_first_flag-requires g c = (omega arith, sym c.is_clear.ensures ∙ c.flags-test.true)

pub flags-smaller : goal.flags-smaller
flags-smaller g c =
    let some = sym c.is_clear.ensures ∙ c.flags-test.true in
    let first = counted-first (mode_numbered g.row.MODE) c.args.src.now c.args.at c.args.count c.requires.inside c.flags.len c.flags.mask c.flags.invariant some _ c.first_offset.ensures in
    omega (arith, first, c.first_offset.ensures, ap (λ m. m.from) c.clear_first_flag.ensures)

pub flags-preserved : goal.flags-preserved
flags-preserved g c =
    let some = sym c.is_clear.ensures ∙ c.flags-test.true in
    counted-next (mode_numbered g.row.MODE) c.args.src.now c.args.at c.args.count c.requires.inside c.flags.len c.flags.mask c.flags.invariant some _ c.first_offset.ensures c.added-len.result c.clear_first_flag.new.self c.added-len.ensures c.clear_first_flag.ensures

pub returns : goal.returns
returns g c = counted-end (mode_numbered g.row.MODE) c.args.src.now c.args.at c.args.count c.requires.inside c.flags.len c.flags.mask c.flags.invariant (sym c.is_clear.ensures ∙ c.flags-test.false)
