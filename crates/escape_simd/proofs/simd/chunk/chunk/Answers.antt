use Rattle.escape_simd.proofs.Words.{take-take, ◌≡◌, ◌≤◌, ℕ, ◌+◌, ◌*◌, ◌∙◌, List, length, take, drop, ap, refl, subst, sym, arith, bytes_of, mode_numbered, told_by, Advanced, HasRoom, IsStored, MaskOf, Mode, Reached, Target, state, whole_mask}
use Rattle.escape_simd.proofs.Lanes.{CleanFrom}
use Rattle.escape_simd.proofs.Parts.{clean-four}
use Rattle.escape_simd.proofs.Stretches.{room-least, room-near, room-on, stored_alike}
use Rattle.escape_simd.proofs.Vectors.{advanced-asked, advanced-bordered, advanced-ended, advanced-onward, reached-to, vector-clean}
use Rattle.escape_simd.proofs.simd.chunk.chunk.Goals as goal

-- each of the vectors can be stored
module _ {N : ℕ} (vectors : ℕ) {mode : Mode} {src : List ℕ} {at to size : ℕ} (inside : at + (vectors + 1) * N ≤ length src) (room : HasRoom mode N src at (at + vectors * N) to size) where
  store-at : (k j p : ℕ) (target : Target N) {width : ℕ} {lanes : List ℕ} {mask : MaskOf} → width ≡ N → lanes ≡ take width (drop j src) → mask ≡ whole_mask (take N (drop j src)) → p ≡ to + k → k + N ≤ vectors * N → (vectors + 1) * N ≡ vectors * N + N
      → length (bytes_of target) ≡ size → (width ≡ N) × (N ≤ N) × (told_by mask ≡ take N lanes) × (p + N + N ≤ length (bytes_of target)) × (mask.stored ≡ 0)
  store-at k j p target {width} wide loaded told ends few more same =
      let least = room-least (omega arith) (omega (arith, inside, more)) room in
      (wide, omega arith, ap told_by told ∙ sym (ap (take N) loaded ∙ take-take N width (drop j src) (omega (arith, wide))), omega (arith, ends, few, least, same), ap (λ m. m.stored) told)

pub store_lanes-end-requires : goal.store_lanes-end-requires
store_lanes-end-requires g c =
    (omega arith, (omega arith, store-at 4 c.requires.0 c.requires.1 0 c.args.at c.args.to c.args.target.now g.met.V.Classifier.lane_count c.load_vector-v1.ensures c.classify_four-mask1.ensures.first (omega arith) (omega arith) (omega arith) refl))

pub store_lanes-end-requires-then-clear : goal.store_lanes-end-requires-then-clear
store_lanes-end-requires-then-clear g c =
    let n : ℕ = g.row.N in let s = c.store_lanes-end in let e = s.ensures in
    (omega arith, (omega arith, store-at 4 c.requires.0 c.requires.1 n (c.args.at + n) s.result s.new.target g.met.V.Classifier.lane_count c.load_vector-v2.ensures c.classify_four-mask1.ensures.second e.place (omega arith) (omega arith) e.stored.same_slice.len))

pub store_lanes-end-requires-then-clear-2 : goal.store_lanes-end-requires-then-clear-2
store_lanes-end-requires-then-clear-2 g c =
    let n : ℕ = g.row.N in let e = c.store_lanes-end.ensures in let s = c.store_lanes-end-then-clear in let e2 = s.ensures in
    (omega arith, (omega arith, store-at 4 c.requires.0 c.requires.1 (2 * n) (c.args.at + 2 * n) s.result s.new.target g.met.V.Classifier.lane_count c.load_vector-v3.ensures c.classify_four-mask1.ensures.third (omega (arith, e.place, e2.place)) (omega arith) (omega arith) (e2.stored.same_slice.len ∙ e.stored.same_slice.len)))

pub store_lanes-end-requires-then-clear-3 : goal.store_lanes-end-requires-then-clear-3
store_lanes-end-requires-then-clear-3 g c =
    let n : ℕ = g.row.N in let e = c.store_lanes-end.ensures in let e2 = c.store_lanes-end-then-clear.ensures in let s = c.store_lanes-end-then-clear-2 in let e3 = s.ensures in
    (omega arith, (omega arith, store-at 4 c.requires.0 c.requires.1 (3 * n) (c.args.at + 3 * n) s.result s.new.target g.met.V.Classifier.lane_count c.load_vector-v4.ensures c.classify_four-mask1.ensures.fourth (omega (arith, e.place, e2.place, e3.place)) (omega arith) (omega arith) (e3.stored.same_slice.len ∙ e2.stored.same_slice.len ∙ e.stored.same_slice.len)))

-- a vector of a clean chunk was stored
module _ {N : ℕ} {mode : Mode} {src : List ℕ} {at : ℕ} (inside : at + 4 * N ≤ length src) (clean : CleanFrom mode src at (at + 4 * N)) {width : ℕ} (wide : width ≡ N) where
  stored-on : (i next t : ℕ) {lanes : List ℕ} {old new : Target N} {p end : ℕ} → lanes ≡ take width (drop i src) → IsStored N lanes old new N p → end ≡ p + N → next ≡ i + N → at ≤ i → next ≤ at + 4 * N → Advanced mode N next 1 1 src (state old i p t) (state new next end t)
  stored-on i next t {lanes} {old} {new} {p} {end} loaded s ends is after before =
      let held = stored_alike (ap (take N) loaded ∙ take-take N width (drop i src) (omega (arith, wide))) s in
      advanced-ended (sym is) (sym is) (sym ends) (vector-clean mode N src old new i N p t (omega (arith, inside, is, before)) (λ q from until. clean q (omega (arith, after, from)) (omega (arith, before, is, until))) held)

pub returns-then-clear : goal.returns-then-clear
returns-then-clear g c =
    let mode = mode_numbered g.row.MODE in let n : ℕ = g.row.N in let src : List ℕ = c.args.src.now in let at : ℕ = c.args.at in let four = c.classify_four-mask1.ensures in
    let inside : at + 4 * n ≤ length src = omega (arith, c.requires.0) in let wide = g.met.V.Classifier.lane_count in let t = c.classify_four-mask1.new.ticks in
    let clean = clean-four mode n src at inside four.first four.second four.third four.fourth four.clear c.if-clear.true in
    let e1 = c.store_lanes-end.ensures in let e2 = c.store_lanes-end-then-clear.ensures in let e3 = c.store_lanes-end-then-clear-2.ensures in let e4 = c.store_lanes-end-then-clear-3.ensures in
    let s1 = stored-on inside clean wide at (at + n) t c.load_vector-v1.ensures e1.stored e1.place (omega arith) (omega arith) (omega arith) in
    let s2 = stored-on inside clean wide (at + n) (at + 2 * n) t c.load_vector-v2.ensures e2.stored e2.place (omega arith) (omega arith) (omega arith) in
    let s3 = stored-on inside clean wide (at + 2 * n) (at + 3 * n) t c.load_vector-v3.ensures e3.stored e3.place (omega arith) (omega arith) (omega arith) in
    let s4 = stored-on inside clean wide (at + 3 * n) (at + 4 * n) t c.load_vector-v4.ensures e4.stored e4.place (omega arith) (omega arith) (omega arith) in
    advanced-asked c.args.ticks.now 4 (omega (arith, four.ticks)) (advanced-onward (advanced-onward (advanced-onward s1 s2) s3) s4)

-- a vector more is there, where those before it were escaped
module _ {N : ℕ} (vectors : ℕ) {mode : Mode} {src : List ℕ} {at to : ℕ} {old mid : Target N} (whole : at + (vectors + 1) * N ≤ length src) (room : HasRoom mode N src at (at + vectors * N) to (length (bytes_of old))) where
  next-vector : {border i p v a t0 t1 : ℕ} (next : ℕ) → next + N ≤ at + vectors * N → Advanced mode N border v a src (state old at to t0) (state mid i p t1) → HasRoom mode N src i (next + N) p (length (bytes_of mid))
  next-vector next before e = room-near (next + N) N before (omega (arith, whole)) (omega arith) (room-on e.stretch room)

pub vector_from-next-requires : goal.vector_from-next-requires
vector_from-next-requires g c =
    let n : ℕ = g.row.N in let i = c.requires.0 in
    (omega arith, (omega arith, (c.classify_four-mask1.ensures.first, reached-to (mode_numbered g.row.MODE) c.args.src.now c.args.at, omega (arith, i), room-near (c.args.at + n) n (omega arith) (omega (arith, i)) (omega arith) c.requires.1)))

pub vector_from-next-requires-2 : goal.vector_from-next-requires-2
vector_from-next-requires-2 g c =
    let n : ℕ = g.row.N in let e = c.vector_from-next.ensures in
    (omega arith, (omega arith, (c.classify_four-mask1.ensures.second, e.reached, omega (arith, c.requires.0), next-vector 4 c.requires.0 c.requires.1 (c.args.at + n) (omega arith) e)))

pub vector_from-next-requires-3 : goal.vector_from-next-requires-3
vector_from-next-requires-3 g c =
    let n : ℕ = g.row.N in let e = c.vector_from-next-2.ensures in
    (omega arith, (omega arith, (c.classify_four-mask1.ensures.third, subst (λ border. Reached (mode_numbered g.row.MODE) c.args.src.now border c.vector_from-next-2.result.0) (omega arith) e.reached, omega (arith, c.requires.0), next-vector 4 c.requires.0 c.requires.1 (c.args.at + 2 * n) (omega arith) (advanced-onward c.vector_from-next.ensures e))))

pub vector_from-requires : goal.vector_from-requires
vector_from-requires g c =
    let n : ℕ = g.row.N in let e = c.vector_from-next-3.ensures in
    (omega arith, (omega arith, (c.classify_four-mask1.ensures.fourth, subst (λ border. Reached (mode_numbered g.row.MODE) c.args.src.now border c.vector_from-next-3.result.0) (omega arith) e.reached, omega (arith, c.requires.0), next-vector 4 c.requires.0 c.requires.1 (c.args.at + 3 * n) (omega arith) (advanced-onward (advanced-onward c.vector_from-next.ensures c.vector_from-next-2.ensures) e))))

pub returns : goal.returns
returns g c =
    let all = advanced-onward (advanced-onward (advanced-onward c.vector_from-next.ensures c.vector_from-next-2.ensures) c.vector_from-next-3.ensures) c.vector_from.ensures in
    advanced-asked c.args.ticks.now 4 (omega (arith, c.classify_four-mask1.ensures.ticks)) (advanced-bordered (omega arith) all)
