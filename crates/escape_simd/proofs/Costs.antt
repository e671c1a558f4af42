-- How far the body has come in a text, and at what cost.
use Rattle.escape_simd.proofs.Words.{◌≡◌, ℕ, ◌+◌, ◌-◌, ◌*◌, ◌/◌, ◌<◌, ◌≤◌, true, List, length, length-drop, take, drop, refl, ap, arith, le-div, take_all, Mode, bytes_of, Target, Cost, Advanced, HasRoom, Stretch, reach, rest_length, State, state}
use Rattle.std.proofs.Math.Nat.{div-mul-le_self}
use Rattle.escape_simd.proofs.RestSteps.{rest-bounds}
use Rattle.escape_simd.proofs.Stretches.{onward_to, reach-bounds, room-later, room-near, room-on}
use Rattle.escape_simd.proofs.Vectors.{advanced-ended, advanced-later, reached-to}

-- The bytes before `at` were passed, at a cost of a vector for each run and each whole vector. No write reached further past what the
-- whole ends at than those of its last bytes may.
pub record BodySoFar {N : ℕ} (mode : Mode) (src : List ℕ) (old new : State N) : Type 0 where
  pub stretch : Stretch mode (rest_length mode src new.at + reach true N) src old.target new.target (old.at, old.to) (new.at, new.to)
  pub cost : Cost mode (new.at / N) 0 src old new

-- room in a target that is the same
pub room-same : {N : ℕ} {mode : Mode} {slack : ℕ} {src : List ℕ} {old new : Target N} {at stop to : ℕ} → new ≡ old → HasRoom mode slack src at stop to (length (bytes_of old)) → HasRoom mode slack src at stop to (length (bytes_of new))
room-same is h = rw is h

-- one cost and the next
cost-onward : {N : ℕ} {mode : Mode} {src : List ℕ} {v1 v2 : ℕ} {old mid new : State N} (vectors : ℕ) → v1 + v2 ≤ vectors → Cost mode v1 0 src old mid → Cost mode v2 0 src mid new → Cost mode vectors 0 src old new
cost-onward vectors few a b = omega arith

module _ {N : ℕ} {mode : Mode} {src : List ℕ} {old mid : Target N} {at to end t0 t1 : ℕ} (so_far : BodySoFar mode src (state old 0 to t0) (state mid at end t1)) where
  -- there is room for what follows, where a vector more is there
  pub body-room : (stop : ℕ) → HasRoom mode (reach true N) src 0 (length src) to (length (bytes_of old)) → stop + N ≤ length src → HasRoom mode N src at stop end (length (bytes_of mid))
  body-room stop room inside = room-near stop N (omega (arith, inside)) (omega arith) (omega (arith, inside)) (room-on so_far.stretch room)

  -- the last bytes, as a text of their own
  abbrev last : List ℕ
  last = take (length src - at) (drop at src)

  last-is : last ≡ drop at src
  last-is = take_all (length src - at) (drop at src) (omega (arith, length-drop at src))

  last-long : at + length last ≡ length src
  last-long = omega (arith, ap length last-is, length-drop at src, so_far.stretch.inside)

  -- and for the last bytes
  pub body-rest : HasRoom mode (reach true N) src 0 (length src) to (length (bytes_of old)) → length src < at + 2 * N → (length last < 2 * N) × (HasRoom mode (reach true N) last 0 (length last) end (length (bytes_of mid)))
  body-rest room few = (omega (arith, few, last-long), room-later last (length last) (length last) last-is last-long (room-on so_far.stretch room) refl)

  -- so many vectors were passed
  pub body-on : {new : Target N} {next close t2 : ℕ} (vectors : ℕ) → 16 ≤ N → at + (vectors + 1) * N ≤ length src → (vectors + 1) * N ≡ vectors * N + N → (at / N + vectors) * N ≡ at / N * N + vectors * N → Advanced mode N (at + vectors * N) vectors 0 src (state mid at end t1) (state new next close t2) → BodySoFar mode src (state old 0 to t0) (state new next close t2)
  body-on {new} {next} {close} {t2} vectors several inside more whole e =
      let r = rest-bounds mode src next in let far = (reach-bounds true N several).0 in let l = e.stretch.limit in let p = e.reached in
      let w = div-mul-le_self at N in
      record {
        stretch = onward_to (rest_length mode src next + reach true N) so_far.stretch e.stretch (omega (arith, l)) (omega (arith, r, far, p.near, inside, more));
        cost = cost-onward (next / N) (le-div (at / N + vectors) next N (omega (arith, several)) (omega (arith, w, whole, p.whole))) so_far.cost e.cost;
      }

  -- all of it
  pub body-all : {new : Target N} {close t2 : ℕ} → 16 ≤ N → Advanced mode (reach true N) (length last) (length last / N + 1) 0 last (state mid 0 end t1) (state new (length last) close t2)
      → Advanced mode (reach true N) (length src) (length src / N + 1) 0 src (state old 0 to t0) (state new (length src) close t2)
  body-all several given =
      let e = advanced-ended last-long last-long refl (advanced-later src last at last-is so_far.stretch.inside given) in
      let l = e.stretch.limit in let none = (rest-bounds mode src (length src)).1 in
      let p = div-mul-le_self at N in let q = div-mul-le_self (length last) N in
      let w = le-div (at / N + length last / N) (length src) N (omega (arith, several)) (omega (arith, p, q, last-long)) in
      record {
        stretch = onward_to (reach true N) so_far.stretch e.stretch (omega (arith, l, none)) (omega arith);
        reached = reached-to mode src (length src);
        cost = cost-onward (length src / N + 1) (omega (arith, w)) so_far.cost e.cost;
      }
