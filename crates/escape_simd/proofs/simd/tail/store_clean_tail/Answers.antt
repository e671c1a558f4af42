use Rattle.escape_simd.proofs.Words.{◌≡◌, ℕ, List, true, ◌+◌, ◌-◌, ◌∙◌, and_parts, length, take, length-drop, drop, replicate, ap, sym, subst, arith, is_clear, mode_numbered, take-append_seam, take_all, told_by, Advanced, reach, state}
use Rattle.escape_simd.proofs.Last.{one-begun, tail-clean_back, tail-clean_front, two-begun, two-clean}
use Rattle.escape_simd.proofs.Stretches.{room-least, stored_alike}
use Rattle.escape_simd.proofs.Vectors.{advanced-asked, advanced-ended, vector-clean}
use Rattle.escape_simd.proofs.simd.tail.store_clean_tail.Goals as goal

pub store_lanes-requires : goal.store_lanes-requires
store_lanes-requires g c =
    let text : List ℕ = c.args.text.now in let count : ℕ = length text in let v = c.classify_short-v.ensures in let least = room-least (omega arith) (omega arith) c.requires.1 in
    let start : count - g.row.N ≡ 0 = omega (arith, c.if-count.true) in
    let loaded = ap (take count) v.loaded ∙ take-append_seam text (replicate (g.row.N - count) 0) in
    (omega arith, (omega arith, (g.met.V.Classifier.lane_count, omega (arith, c.if-count.true), ap told_by v.masks.back ∙ ap (λ k. drop k text) start ∙ sym loaded, omega (arith, least), ap (λ m. m.stored) v.masks.back)))

pub store_vector-requires : goal.store_vector-requires
store_vector-requires g c =
    let n : ℕ = g.row.N in let p = c.classify_pair-masks.ensures in let some = c.if-count.false in let least = room-least (omega arith) (omega arith) c.requires.1 in
    (omega arith, (omega arith, (g.met.V.Classifier.lane_count, omega arith, omega (arith, some), ap told_by (p.masks.front some), omega (arith, least, some), ap (λ m. m.stored) (p.masks.front some))))

pub store_vector-requires-2 : goal.store_vector-requires-2
store_vector-requires-2 g c =
    let n : ℕ = g.row.N in let text : List ℕ = c.args.text.now in let p = c.classify_pair-masks.ensures in let some = c.if-count.false in let least = room-least (omega arith) (omega arith) c.requires.1 in
    let all = take_all n (drop (length text - n) text) (omega (arith, length-drop (length text - n) text)) in
    (omega arith, (omega arith, (g.met.V.Classifier.lane_count, omega arith, omega (arith, some), ap told_by p.masks.back ∙ sym all, omega (arith, least, some, c.store_vector.ensures.stored.same_slice.len), ap (λ m. m.stored) p.masks.back)))

pub returns-then-count-clause-clean : goal.returns-then-count-clause-clean
returns-then-count-clause-clean g c =
    let mode = mode_numbered g.row.MODE in let n : ℕ = g.row.N in let text : List ℕ = c.args.text.now in
    let clear = (and_parts (is_clear mode c.classify_short-v.result.1.first) (is_clear mode c.classify_short-v.result.1.last) (sym c.are_clear.ensures ∙ c.if-not-are_clear.false)).1 in
    let clean = tail-clean_back mode c.classify_short-v.ensures.masks clear in
    let s = c.store_lanes.ensures in let loaded = ap (take (length text)) c.classify_short-v.ensures.loaded ∙ take-append_seam text (replicate (n - length text) 0) ∙ sym (take_all (length text) text (omega arith)) in
    let e = vector-clean mode (reach true n) text c.args.target.now c.store_lanes.new.target 0 (length text) c.args.to c.classify_short-v.new.ticks (omega arith) (λ p late early. clean p (omega (arith, c.if-count.true)) (omega (arith, early))) (stored_alike loaded s.stored) in
    subst (λ v. Advanced mode (reach true n) (length text) v 0 text (state c.args.target.now 0 c.args.to c.args.ticks.now) (state c.store_lanes.new.target (length text) c.store_lanes.result c.classify_short-v.new.ticks)) (one-begun n (length text) c.if-count.true)
    (advanced-asked c.args.ticks.now 1 c.classify_short-v.ensures.tick (advanced-ended (omega arith) (omega arith) (omega (arith, s.place)) e))

pub returns-clause-clean : goal.returns-clause-clean
returns-clause-clean g c =
    let mode = mode_numbered g.row.MODE in let n : ℕ = g.row.N in let text : List ℕ = c.args.text.now in let t = c.classify_pair-masks.new.ticks in
    let some = c.if-count.false in let masks = c.classify_pair-masks.ensures.masks in
    let clear = and_parts (is_clear mode c.classify_pair-masks.result.first) (is_clear mode c.classify_pair-masks.result.last) (sym c.are_clear-2.ensures ∙ c.if-not-are_clear-2.false) in
    let e = two-clean some c.requires.0 (tail-clean_front mode masks some clear.0) (tail-clean_back mode masks clear.1) c.store_vector.ensures.stored c.store_vector-2.ensures.stored in
    subst (λ v. Advanced mode (reach true n) (length text) v 0 text (state c.args.target.now 0 c.args.to c.args.ticks.now) (state c.store_vector-2.new.target (length text) (c.args.to + length text) t)) (two-begun n (length text) some c.requires.0)
    (advanced-asked c.args.ticks.now 2 c.classify_pair-masks.ensures.ticks e)
