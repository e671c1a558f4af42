-- How far the turns of a vector have come.
use Rattle.escape_simd.proofs.Words.{◌≡◌, ℕ, ◌+◌, ◌-◌, ◌<◌, ◌≤◌, true, false, List, length, take, drop, get_or, refl, sym, ap, ◌∙◌, arith, append_assoc, take-take, take-add, length-take-le, bytes_of, first_set, none_set, MaskOf, is_clear, lanes_of_mask, mask_from, told_by, Mode, needs_escape, stored_of, Target, run_count, run_count_after, Reached, Stretch, EscapedRun, Advanced, HasRunRoom, IsRunEnd, inl, HasRoom, IsFlaggedAt, IsRunAt, IsStored, IsVectorAt, State, state, drop-take}
use Rattle.escape_simd.proofs.Escapes.{reach-few}
use Rattle.escape_simd.proofs.Texts.{runs_after-≤, runs_stop-here}
use Rattle.escape_simd.proofs.Stretches.{onward_to, room-least, room-near, room-on, standing, stored_ahead, stretch-on}
use Rattle.escape_simd.proofs.RestSteps.{clean_escaped, clean_inner, clean_rest, clean_runs}
use Rattle.escape_simd.proofs.RunsOfFlags.{run-room}
use Rattle.escape_simd.proofs.Lanes.{CleanFrom, HoldsFlags, cleared-later, first-set, first_set-here, held-first, held-none, mask-holds}

-- The bytes of a vector from `next` on are left. The mask tells of these, which were stored by it.
pub record IsLeftAt (N : ℕ) (src : List ℕ) (valid next : ℕ) (mask : MaskOf) : Type 0 where
  pub told : mask ≡ mask_from (take valid src) next 1
  pub few : valid ≤ N
  pub inside : valid + N ≤ length src
  pub before : next < valid

-- The last clean bytes of a vector were passed, after a run of escapes.
abbrev pub IsFinished : {N : ℕ} → Mode → ℕ → List ℕ → ℕ → State N → State N → Type 0
IsFinished mode slack src border old new = record {
  stretch : Stretch mode slack src old.target new.target (old.at, old.to) (new.at, new.to);
  reached : Reached mode src border new.at;
  stored : stored_of new.target + run_count mode (drop new.at src) ≤ stored_of old.target + run_count_after mode true (drop old.at src) + 1;
  classified : new.ticks + stored_of old.target ≡ old.ticks + stored_of new.target;
}

-- its lanes
left-held : {N : ℕ} (mode : Mode) {src : List ℕ} {valid next : ℕ} {mask : MaskOf} → IsLeftAt N src valid next mask → HoldsFlags mode src 0 valid next (lanes_of_mask mode mask)
left-held mode {src = src} {valid = valid} {next = next} {mask = mask} l = mask-holds mode src 0 valid next mask (ap (λ m. m.bytes) l.told) (omega (arith, l.inside)) (omega (arith, ap (λ m. m.from) l.told))

-- none is set before
left-later : {N : ℕ} (mode : Mode) {src : List ℕ} {valid next : ℕ} {mask : MaskOf} → IsLeftAt N src valid next mask → (k : ℕ) → get_or (lanes_of_mask mode mask) k false ≡ true → next ≤ k
left-later mode {mask = mask} l k s = omega (arith, cleared-later mask.from _ k s, ap (λ m. m.from) l.told)

-- the text's clean bytes from `from` on, as far as the border, stand in a target from `to` on
abbrev pub CleanAhead : {N : ℕ} → Mode → List ℕ → Target N → ℕ → ℕ → ℕ → Type 0
CleanAhead mode src target from border to = (count : ℕ) → from + count ≤ border → ((p : ℕ) → from ≤ p → p < from + count → needs_escape mode (get_or src p 0) ≡ false)
    → take count (drop to (bytes_of target)) ≡ take count (drop from src)

-- The bytes up to `next` were passed, of a text's first vector whose mask now tells of those from there on. Of the vectors stored all
-- but the first were classified.
pub record TurnsSoFar {N : ℕ} (mode : Mode) (slack : ℕ) (src : List ℕ) (valid : ℕ) (mask : MaskOf) (old new : State N) : Type 0 where
  pub eight : 8 ≤ slack
  pub left : IsLeftAt N src valid new.at mask
  pub room : HasRoom mode slack src new.at valid new.to (length (bytes_of new.target))
  pub some : is_clear mode mask ≡ false
  pub stretch : Stretch mode (valid - new.at + slack) src old.target new.target (old.at, old.to) (new.at, new.to)
  pub ahead : CleanAhead mode src new.target new.at valid new.to
  pub stored : stored_of new.target + run_count mode (drop new.at src) ≤ stored_of old.target + run_count mode (drop old.at src) + 1
  pub classified : new.ticks + stored_of old.target + 1 ≡ old.ticks + stored_of new.target

-- where a row of bytes stands in a target, its clean front does
pub ahead-front : {N : ℕ} (mode : Mode) (src : List ℕ) (target : Target N) (from border to left : ℕ) → border ≤ from + left
    → take left (drop to (bytes_of target)) ≡ take left (drop from src) → CleanAhead mode src target from border to
ahead-front mode src target from border to left whole same count within clean =
    let few : count ≤ left = omega arith in
    rw (← take-take count left _ few, ← take-take count left (drop from src) few, same) refl

-- what clean bytes that stand in a target are passed as
pub ahead-passed : {N : ℕ} (mode : Mode) (slack : ℕ) (src : List ℕ) (target : Target N) (from border next to : ℕ) → CleanAhead mode src target from border to → from ≤ next → next ≤ border → border ≤ length src → CleanFrom mode src from next
    → Stretch mode slack src target target (from, to) (next, to + (next - from))
ahead-passed mode slack src target from border next to ahead forward before inside clean =
    let stands = ahead (next - from) (omega arith) (λ p late early. clean p late (omega (arith, early))) in
    grind (arith, take-add, append_assoc, clean_inner mode src from next forward clean, clean_rest mode src from next forward clean, clean_escaped mode src from next forward clean)

-- and they begin no run
pub ahead-runs : (mode : Mode) (src : List ℕ) (from next : ℕ) → from ≤ next → CleanFrom mode src from next → run_count mode (drop next src) ≡ run_count mode (drop from src)
ahead-runs mode src from next forward clean = sym (clean_runs mode src from next forward clean)

-- the turns begin
pub turns-begin : {N : ℕ} {mode : Mode} {slack : ℕ} {src : List ℕ} {old new : Target N} {valid to : ℕ} {mask : MaskOf} {ticks : ℕ} → 8 ≤ slack → mask ≡ mask_from (take valid src) 0 1 → IsVectorAt mode N slack src 0 valid to (length (bytes_of old))
    → is_clear mode mask ≡ false → IsStored slack (drop 0 src) old new valid to → TurnsSoFar mode slack src valid mask (state old 0 to ticks) (state new 0 to ticks)
turns-begin {mode = mode} {slack = slack} {src = src} {old = old} {new = new} {valid = valid} {to = to} {mask = mask} eight is v some s =
    let held = mask-holds mode src 0 valid 0 mask (ap (λ m. m.bytes) is) (omega (arith, v.inside)) (omega (arith, ap (λ m. m.from) is)) in
    let first = (first-set mode src 0 valid 0 (lanes_of_mask mode mask) held some).0 in let ahead = ahead-front mode src new 0 valid to valid (omega arith) s.ahead in
    let stretch = stored_ahead mode slack src old new 0 valid to s (omega arith) in
    let room : HasRoom mode slack src 0 valid to (length (bytes_of new)) = rw (sym s.same_slice.len) at v.room in
    grind (arith, is)

-- what is known of the first flagged byte of those that are left
first-left : {N : ℕ} (mode : Mode) {src : List ℕ} {valid next flagged : ℕ} {mask : MaskOf} → IsLeftAt N src valid next mask → is_clear mode mask ≡ false → flagged ≡ first_set (lanes_of_mask mode mask)
    → IsFlaggedAt mode src flagged × (next ≤ flagged) × (flagged < valid) × CleanFrom mode src next flagged
first-left mode {src = src} {valid = valid} {next = next} {flagged = flagged} {mask = mask} l some is =
    let h = left-held mode l in let later = left-later mode l (first_set (lanes_of_mask mode mask)) (first_set-here (lanes_of_mask mode mask) some) in
    let inside = l.inside in grind (arith, first-set, held-first)

-- one turn: the first byte that is flagged is escaped
module _ {N : ℕ} {mode : Mode} {slack : ℕ} {src : List ℕ} {old mid : Target N} {valid next to end flagged : ℕ} {mask : MaskOf} {ticks_old ticks_new : ℕ}
    (so_far : TurnsSoFar mode slack src valid mask (state old 0 to ticks_old) (state mid next end ticks_new)) (is : flagged ≡ first_set (lanes_of_mask mode mask)) where
  -- it is one of those left
  pub turn-place : IsFlaggedAt mode src flagged × (next ≤ flagged) × (flagged < valid) × CleanFrom mode src next flagged
  turn-place = first-left mode so_far.left so_far.some is

  -- it begins a run, which has room
  pub turn-run : IsRunAt mode src valid flagged mask × HasRunRoom mode src flagged valid (end + (flagged - next)) (length (bytes_of mid))
  turn-run =
      let w = so_far.left in let p = turn-place in let clean = ahead-passed mode slack src mid next valid flagged end so_far.ahead p.1 (omega (arith, p)) (omega (arith, w.inside)) p.3 in (
        record { bytes = ap (λ m. m.bytes) w.told; some = so_far.some; first = is; flagged = p.0; before = p.2; inside = omega (arith, w.inside); used = ap (λ m. m.stored) w.told },
        inl (room-near valid 8 (omega arith) (omega (arith, w.inside)) (omega (arith, so_far.eight)) (room-on clean so_far.room)),
      )

  -- and its first entry
  pub turn-room : end + (flagged - next) + 8 ≤ length (bytes_of mid)
  turn-room = run-room turn-run.1 turn-place.2 (omega (arith, so_far.left.inside))

  module _ {new : Target N} {after after_end : ℕ} {rest : MaskOf} (done : EscapedRun mode src mid new flagged after (end + (flagged - next)) after_end) (on : flagged < after) (over : IsRunEnd mode src valid after rest) where
    -- all that was passed up to here
    turn-stretch : Stretch mode (valid - after + slack) src old new (0, to) (after, after_end)
    turn-stretch =
        let p = turn-place in let h = stretch-on done.stretch in let few = reach-few mode in
        let clean = ahead-passed mode (valid - flagged + slack) src mid next valid flagged end so_far.ahead p.1 (omega arith) (omega (arith, so_far.left.inside)) p.3 in
        onward_to (valid - after + slack) (onward_to (valid - flagged + slack) so_far.stretch clean (omega arith) (omega arith)) done.stretch (omega arith) (omega arith)

    -- its run goes on
    turn-runs : run_count_after mode true (drop after src) + 1 ≡ run_count mode (drop next src)
    turn-runs = omega (arith, done.run, ahead-runs mode src next flagged turn-place.1 turn-place.3)

    -- what is left has room
    turn-rest_room : HasRoom mode slack src after valid after_end (length (bytes_of new))
    turn-rest_room = record { fits = omega (arith, turn-stretch.limit, so_far.stretch.limit, so_far.room.fits, done.stretch.same_slice.len) }

    -- the bytes that are left are a vector's
    pub turn-left : IsVectorAt mode N slack src after valid after_end (length (bytes_of new))
    turn-left = let u = turn-place in let w = so_far.left in record { few = omega (arith, w.few, u, on); inside = w.inside; room = turn-rest_room }

    -- where it has some
    module _ (some : is_clear mode rest ≡ false) where
      -- the mask tells of the bytes from there on
      pub turn-told : (rest.stored ≡ 1) × (after < length rest.bytes) × (rest.from ≤ after) × (after ≤ first_set (lanes_of_mask mode rest))
      turn-told =
          let w = so_far.left in let s = over.stops some in
          (over.used, omega (arith, s.0, ap length over.bytes, length-take-le valid src (omega (arith, w.inside))), over.from, over.cleared (first_set (lanes_of_mask mode rest)) (first_set-here (lanes_of_mask mode rest) some))

      -- the vector that begins there can be stored
      pub turn-stores : {left : MaskOf} → left ≡ mask_from rest.bytes after 0 → (told_by left ≡ take (valid - after) (drop after src)) × (valid - after ≤ N) × (after + N ≤ length src) × (after_end + (valid - after) + slack ≤ length (bytes_of new))
      turn-stores told =
          let w = so_far.left in let s = over.stops some in let least = room-least (omega (arith, s.0)) (omega (arith, w.inside)) turn-rest_room in
          let sum : valid ≡ after + (valid - after) = omega (arith, s.0) in
          (ap told_by told ∙ ap (drop after) over.bytes ∙ ap (λ k. drop after (take k src)) sum ∙ drop-take after (valid - after) src, omega (arith, w.few), omega (arith, w.inside, s.0), omega (arith, least))

      -- it was stored, and the turns go on
      pub turn-stored : {later : Target N} {left : MaskOf} {ticks : ℕ} → left ≡ mask_from rest.bytes after 1 → lanes_of_mask mode left ≡ lanes_of_mask mode rest → IsStored slack (drop after src) new later (valid - after) after_end → ticks ≡ ticks_new + 1
          → TurnsSoFar mode slack src valid left (state old 0 to ticks_old) (state later after after_end ticks)
      turn-stored {later = later} {left = left} told same s tick =
          let w = so_far.left in let stops = over.stops some in let runs = turn-runs in
          let l : IsLeftAt N src valid after left = record { told = told ∙ ap (λ xs. mask_from xs after 1) over.bytes; few = w.few; inside = w.inside; before = stops.0 } in let room = turn-rest_room in
          let some_left : is_clear mode left ≡ false = ap none_set same ∙ some in
          let ahead = ahead-front mode src later after valid after_end (valid - after) (omega arith) s.ahead in
          let stored = stored_ahead mode slack src new later after (valid - after) after_end s (omega (arith, l.before, l.inside)) in
          let on = onward_to (valid - after + slack) turn-stretch stored (omega arith) (omega arith) in
          let stop = runs_stop-here mode src after (omega (arith, l.before, l.inside)) stops.1 in
          let kept = done.stored in
          grind arith

    -- these were passed: so was the vector
    pub turn-finished : {last : Target N} {past close ticks : ℕ} → IsFinished mode slack src valid (state new after after_end ticks_new) (state last past close ticks) → Advanced mode slack valid 1 1 src (state old 0 to ticks_old) (state last past close ticks)
    turn-finished f = let s = onward_to slack turn-stretch f.stretch (omega (arith, stretch-on f.stretch, f.reached.whole)) (omega arith) in grind (arith, turn-runs)

-- after the last escape of a vector, its last clean bytes were stored
pub finished-stored : {N : ℕ} {mode : Mode} {slack : ℕ} {src : List ℕ} {old new : Target N} {border from to size : ℕ} {mask : MaskOf} (ticks_old ticks_new : ℕ)
    → from < border → IsVectorAt mode N slack src from border to size → IsRunEnd mode src border from mask → is_clear mode mask ≡ true
    → IsStored slack (drop from src) old new (border - from) to → ticks_new ≡ ticks_old + 1 → IsFinished mode slack src border (state old from to ticks_old) (state new border (to + (border - from)) ticks_new)
finished-stored {mode = mode} {slack = slack} {src = src} {old = old} {new = new} {border = border} {from = from} {to = to} {mask = mask} ticks_old ticks_new before v r none s tick =
    let held = mask-holds mode src 0 border from mask r.bytes (omega (arith, v.inside)) (omega (arith, r.from)) in
    let clean : CleanFrom mode src from border = λ p late early. held-none mode src 0 border from (lanes_of_mask mode mask) held (omega arith) none p late (omega (arith, early)) in
    let ahead = ahead-front mode src new from border to (border - from) (omega arith) s.ahead in
    let on = ahead-passed mode slack src new from border border to ahead (omega arith) (omega arith) (omega (arith, v.inside)) clean in
    let all = onward_to slack (stored_ahead mode slack src old new from (border - from) to s r.inside) on (omega arith) (omega arith) in
    grind (arith, runs_stop-here, ahead-runs)

-- or there were none
pub finished-over : {N : ℕ} {mode : Mode} {slack : ℕ} {src : List ℕ} (t : Target N) {border from : ℕ} (to ticks : ℕ) {mask : MaskOf} → border ≤ from → IsRunEnd mode src border from mask
    → IsFinished mode slack src border (state t from to ticks) (state t from to ticks)
finished-over t to ticks over r = grind (arith, standing, runs_after-≤)
