use Rattle.escape_simd.proofs.Words.{true≢false, ◌+◌, ◌-◌, ◌∙◌, ℕ, not, nat_eq, List, length, length-drop, take, drop, refl, ap, sym, arith, take_all, bytes_of, mode_numbered, told_by, whole_mask, Advanced, IsVectorAt, Mode, Target, reach, state}
use denote.Param.{number, value_of}
use Rattle.escape_simd.proofs.Escapes.{bytewise-but-script}
use Rattle.escape_simd.proofs.Lanes.{mask-clean}
use Rattle.escape_simd.proofs.Stretches.{reach-bounds}
use Rattle.escape_simd.proofs.Vectors.{advanced-ended, advanced-later, vector-blocks, vector-clean, vector-has_blocks, vector-later, vector-stores}
use Rattle.escape_simd.proofs.simd.by_mask.escape_by_mask.Goals as goal

pub store_vector-requires : goal.store_vector-requires
store_vector-requires g c =
    let s = vector-stores c.args.valid refl c.requires.1 in let lanes = g.met.V.Classifier.lane_count in
    (omega arith, (omega arith, (lanes, s.0, s.1, ap told_by c.requires.0, s.2, ap (λ m. m.stored) c.requires.0)))

pub returns-then-is_clear : goal.returns-then-is_clear
returns-then-is_clear g c =
    let mode = mode_numbered g.row.MODE in let v = c.requires.1 in let e = c.store_vector.ensures in
    rw (e.places.0, e.places.1) (vector-clean mode (reach (not (nat_eq (value_of (number g.row.LAST)) 0)) g.row.N) c.args.src.now c.args.target.now c.store_vector.new.target c.args.at c.args.valid c.args.to c.args.ticks.now
    (omega (arith, v.inside)) (mask-clean mode c.args.src.now c.args.at c.args.valid c.args.mask c.requires.0 (omega (arith, v.inside)) (sym c.is_clear.ensures ∙ c.if-is_clear.true)) e.stored)

pub are_paid-requires-clause-some : goal.are_paid-requires-clause-some
are_paid-requires-clause-some g c = rw c.bits-bits.ensures (sym c.is_clear.ensures ∙ c.if-is_clear.false)

pub escape_blocks-end-requires : goal.escape_blocks-end-requires
escape_blocks-end-requires g c =
    let v = c.requires.1 in let met = g.met.V.Classifier in let far = reach-bounds (not (nat_eq (value_of (number g.row.LAST)) 0)) g.row.N met.several in
    let short = rw c.bits-bits.ensures at (c.are_short.ensures c.if-are_short.true) in
    (omega arith, (omega arith, (c.requires.0, omega (arith, v.few), met.sixteens, met.most, omega (arith, v.inside), vector-has_blocks c.args.valid c.requires.0 v (omega (arith, far)) met.several met.most short (sym c.is_clear.ensures ∙ c.if-is_clear.false))))

pub returns-then-are_short : goal.returns-then-are_short
returns-then-are_short g c =
    let met = g.met.V.Classifier in let far = reach-bounds (not (nat_eq (value_of (number g.row.LAST)) 0)) g.row.N met.several in
    let short = rw c.bits-bits.ensures at (c.are_short.ensures c.if-are_short.true) in let paid = rw c.bits-bits.ensures at (c.are_paid.ensures c.if-are_paid.true) in
    let e = c.escape_blocks-end.ensures in
    vector-blocks c.args.valid c.requires.0 c.requires.1 (omega (arith, far)) met.several met.most short c.bits-bits.result c.bits-bits.ensures paid e.stretch e.stored e.ticks

pub escape_by_turns-next-requires : goal.escape_by_turns-next-requires
escape_by_turns-next-requires g c =
    let src : List ℕ = c.args.src.now in let at : ℕ = c.args.at in
    let is = take_all (length src - at) (drop at src) (omega (arith, length-drop at src)) in let met = g.met.V.Classifier in
    let told = c.requires.0 ∙ ap (λ xs. whole_mask (take c.args.valid xs)) (sym is) in
    let room = vector-later (mode_numbered g.row.MODE) g.row.N (reach (not (nat_eq (value_of (number g.row.LAST)) 0)) g.row.N) src (take (length src - at) (drop at src)) at c.args.valid c.args.to (length (bytes_of c.args.target.now)) is c.requires.1 in
    (omega arith, (omega arith, (met.lane_count, met.several, met.most, told, sym c.is_clear.ensures ∙ c.if-is_clear.false, room)))

-- the first bytes of a text, as they were escaped as a text of their own
by-turns : {N : ℕ} {mode : Mode} {slack valid size : ℕ} {src : List ℕ} {at to end t0 t1 next : ℕ} {old new : Target N} → IsVectorAt mode N slack src at (at + valid) to size
    → Advanced mode slack valid 1 1 (take (length src - at) (drop at src)) (state old 0 to t0) (state new next end t1) → Advanced mode slack (at + valid) 1 1 src (state old at to t0) (state new (at + next) end t1)
by-turns {src = src} {at = at} v e = advanced-later src (take (length src - at) (drop at src)) at (take_all (length src - at) (drop at src) (omega (arith, length-drop at src))) (omega (arith, v.inside)) e

pub returns-then-is_script : goal.returns-then-is_script
returns-then-is_script g c = by-turns c.requires.1 c.escape_by_turns-next.ensures

pub returns : goal.returns
returns g c =
    let e = by-turns c.requires.1 c.escape_by_turns-next.ensures in
    advanced-ended refl (e.reached.exact (bytewise-but-script (λ e. true≢false (sym (c.is_script.ensures.1 e) ∙ c.if-is_script.false)))) refl e
