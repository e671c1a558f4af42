-- How a run of escapes goes on, and how far a mask tells of one.
use Rattle.escape_simd.proofs.Words.{◌≡◌, ℕ, ◌+◌, ◌<◌, ◌≤◌, inl, inr, Bool, true, false, List, length, drop, get_or, refl, ap, sym, length-take-le, ◌∙◌, arith, bytes_of, first_set, none_set, MaskOf, lanes_of_mask, mask_from, Mode, needs_escape, entry_count, escaped_count, Target, source_len, run_count_after, run_end, run_reach, EscapedRun, HasRunRoom, IsFlaggedAt, IsRunAt, IsRunEnd, Stretch, stored_of}
use Rattle.escape_simd.proofs.Escapes.{entry-counts, passed-after}
use Rattle.escape_simd.proofs.ReplacementLemmas.{length-replacement}
use Rattle.escape_simd.proofs.Texts.{escaped-here, first-here, next-here, one≤source_len, run_end-here}
use Rattle.escape_simd.proofs.Stretches.{onward, room-least, standing, stretch-on}
use Rattle.escape_simd.proofs.Lanes.{CleanFrom, HoldsFlags, cleared-later, first-set, first_set-before, first_set-here, mask-holds, none-before}

-- A run

-- there is room for an entry
pub run-room : {mode : Mode} {src : List ℕ} {at stop to size : ℕ} → HasRunRoom mode src at stop to size → at < stop → stop ≤ length src → to + 8 ≤ size
run-room room before inside = elim room [
  | inl h ↦ omega (arith, room-least (omega (arith, before)) inside h)
  | inr h ↦ omega (arith, h, before)
]

-- it begins
pub run-begins : {N : ℕ} {mode : Mode} {src : List ℕ} {at : ℕ} (t : Target N) (to : ℕ) → IsFlaggedAt mode src at → EscapedRun mode src t t at at to to
run-begins {N} {mode} {src} {at} t to f = record {
  stretch = standing mode (run_reach mode) src t at to (omega (arith, f.0));
  stored = refl;
  run = omega (arith, first-here mode src at f.0 f.1, next-here mode src at f.0 f.1);
  alone = λ _. (refl, omega arith);
}

-- one byte more was escaped
module _ {N : ℕ} {mode : Mode} {src : List ℕ} {mid new : Target N} {next end after after_end : ℕ} (f : IsFlaggedAt mode src next) (stretch : Stretch mode (run_reach mode) src mid new (next, end) (after, after_end)) (place : after ≡ next + source_len mode (drop next src)) (stored : stored_of new ≡ stored_of mid) where
  -- the place after it
  pub run-after : (next < after) × (after ≤ next + 3)
  run-after = omega (arith, place, one≤source_len mode (drop next src))

  -- there is room for what is left
  pub run-room-on : {stop : ℕ} → HasRunRoom mode src next stop end (length (bytes_of mid)) → after < stop → HasRunRoom mode src after stop after_end (length (bytes_of new))
  run-room-on room before = elim room [
    | inl h ↦ inl (record { fits = omega (arith, stretch.limit, h.fits, stretch.same_slice.len) })
    | inr h ↦ inr (omega (arith, h, stretch-on stretch, before, run-after, stretch.same_slice.len))
  ]

  -- the run
  pub run-on : {old : Target N} {at to : ℕ} → EscapedRun mode src old mid at next to end → EscapedRun mode src old new at after to after_end
  run-on s =
      let on = next-here mode src next f.0 f.1 in
      let e = ap (λ k. run_count_after mode true (drop k src)) place in
      record {
        stretch = onward s.stretch stretch;
        stored = stored ∙ s.stored;
        run = omega (arith, s.run, on, e);
        alone = λ one.
            let there : after ≡ next + 1 = place ∙ ap (λ k. next + k) (one (drop next src)) in
            let a = s.alone one in let more = escaped-here mode src next f.0 f.1 in let same = ap (λ k. escaped_count mode (drop k src)) place in (
              ap (run_end mode src) there ∙ sym (run_end-here mode src next f.0 f.1) ∙ a.0,
              omega (arith, there, a.1, s.stretch.forward, more, same, stretch.escaped),
            );
      }

-- A run that is looked up

-- a byte whose entry has a count needs an escape
pub counted : (mode : Mode) (b count : ℕ) → count ≡ entry_count mode b → (count ≡ 0 → ⊥) → needs_escape mode b ≡ true
counted mode b count is some = grind arith

-- and one whose entry has none needs none
pub uncounted : (mode : Mode) (b count : ℕ) → count ≡ entry_count mode b → count ≡ 0 → needs_escape mode b ≡ false
uncounted mode b count is none = grind (arith, entry-counts, length-replacement)

-- A run by its flags

-- what a mask tells after one byte of it
module _ {mode : Mode} {src : List ℕ} {valid at next : ℕ} {mask rest : MaskOf} (r : IsRunAt mode src valid at mask) (place : next ≡ at + source_len mode (drop at src)) (cut : rest ≡ mask_from mask.bytes (first_set (lanes_of_mask mode mask) + 1) mask.stored) where
  -- its lanes
  abbrev bits : List Bool
  bits = lanes_of_mask mode rest

  -- the place after it
  place-after : (at < next) × (next ≤ at + 3)
  place-after = omega (arith, one≤source_len mode (drop at src), place)

  -- what was passed with it is clean
  mask-between : CleanFrom mode src (at + 1) next
  mask-between p late before = passed-after mode src at next p place (omega arith) before

  -- the mask tells of the bytes behind it
  behind : rest.from ≡ at + 1
  behind = omega (arith, ap (λ m. m.from) cut, r.first)

  -- the flags from there on
  mask-flags : HoldsFlags mode src 0 valid next bits
  mask-flags = mask-holds mode src 0 valid next rest (ap (λ m. m.bytes) cut ∙ r.bytes) (omega (arith, r.inside)) (omega (arith, behind, place-after))

  -- and none before
  mask-cleared : (k : ℕ) → get_or bits k false ≡ true → next ≤ k
  mask-cleared k s =
      let later = none-before mode src 0 (at + 1) next bits (λ i t. (omega (arith, behind, cleared-later rest.from _ i t), (mask-flags.set i t).1)) mask-between k s in
      omega (arith, later)

  -- where some lane is set, bytes are left
  mask-left : none_set bits ≡ false → next < valid
  mask-left some = omega (arith, (first-set mode src 0 valid next bits mask-flags some).0, mask-cleared (first_set bits) (first_set-here bits some))

  -- the next lane is one of them
  pub mask-told : none_set bits ≡ false → next < length rest.bytes
  mask-told some = omega (arith, mask-left some, ap length (ap (λ m. m.bytes) cut ∙ r.bytes), length-take-le valid src r.inside)

  -- where it is set, the run goes on
  pub mask-goes : none_set bits ≡ false → get_or bits next false ≡ true → IsRunAt mode src valid next rest
  mask-goes some here =
      let t = mask-flags.set next here in let there : 0 + next ≡ next = omega arith in
      let later = mask-cleared (first_set bits) (first_set-here bits some) in let before = first_set-before bits next in
      record {
        bytes = ap (λ m. m.bytes) cut ∙ r.bytes;
        some = some;
        first = grind (arith, later, before, here);
        flagged = (omega (arith, t.0, r.inside), rw there at t.1);
        before = t.0;
        inside = r.inside;
        used = ap (λ m. m.stored) cut ∙ r.used;
      }

  -- else it has ended
  pub mask-ends : next ≤ length src → (none_set bits ≡ false → get_or bits next false ≡ false) → IsRunEnd mode src valid next rest
  mask-ends inside other =
      let u = place-after in let there : 0 + next ≡ next = omega arith in
      record {
        inside = inside;
        bytes = ap (λ m. m.bytes) cut ∙ r.bytes;
        from = omega (arith, behind, u);
        cleared = mask-cleared;
        over = λ past. record {
          whole = past;
          near = omega (arith, u, r.before);
          exact = λ one. omega (arith, past, u, r.before, place, one (drop at src));
          clean = λ p late early. mask-between p (omega (arith, late, r.before)) early;
        };
        stops = λ some. (mask-left some, rw there at (mask-flags.unset next (other some) (omega arith) (mask-left some)));
        used = ap (λ m. m.stored) cut ∙ r.used;
      }
