-- A vector of a text as a whole: stored where it is clean, and what blocks cost.
use Rattle.escape_simd.proofs.Words.{◌≡◌, ℕ, ◌+◌, ◌-◌, ◌*◌, ◌/◌, ◌<◌, ◌≤◌, Bool, true, false, ◌&&◌, List, length, length-drop, length-take-le, map, take, drop, get_or, refl, sym, ap, subst, ◌∙◌, arith, cases_Bool, drop-drop, get_or-drop, get_or-map, get_or-take, get_or-zip2, length-map, nat_tests, zip2, bits_of, first_set, flagged_blocks, gaps, length-bits_of, none_set, MaskOf, is_clear, lanes_of_mask, whole_mask, Mode, is_long, script, needs_escape, replacement, stored_of, Target, source_len, run_count, AreShort, Advanced, HasBlocks, HasRoom, IsStored, IsVectorAt, Reached, Stretch, state}
use Rattle.escape_simd.proofs.Escapes.{other-byte, source_len-alone}
use Rattle.escape_simd.proofs.Gaps.{gaps-paid_mask}
use Rattle.escape_simd.proofs.Lanes.{CleanFrom, HoldsFlags, first-set, first_set-here, mask-holds, none_set-at}
use Rattle.escape_simd.proofs.Shortened.{keeps-clean}
use Rattle.escape_simd.proofs.Stretches.{ended, onward, onward_to, room-later, room-least, room-near, stored_ahead, stretch-later, widened}
use Rattle.escape_simd.proofs.Texts.{passed_clean-here}
use Rattle.escape_simd.proofs.Turns.{ahead-front, ahead-passed, ahead-runs}

-- just up to a border
pub reached-to : (mode : Mode) (src : List ℕ) (border : ℕ) → Reached mode src border border
reached-to mode src border = grind arith

-- clean bytes that were stored are passed
pub clean-stored : {N : ℕ} (mode : Mode) (slack : ℕ) (src : List ℕ) (old new : Target N) (at valid to : ℕ) → at + valid ≤ length src → CleanFrom mode src at (at + valid) → IsStored slack (drop at src) old new valid to
    → Stretch mode slack src old new (at, to) (at + valid, to + valid)
clean-stored mode slack src old new at valid to inside clean s =
    let p = ahead-passed mode slack src new at (at + valid) (at + valid) to (ahead-front mode src new at (at + valid) to valid (omega arith) s.ahead) (omega arith) (omega arith) inside clean in
    onward_to slack (stored_ahead mode slack src old new at valid to s (omega (arith, inside))) (ended p refl (omega arith)) (omega arith) (omega arith)

-- a clean vector was stored
pub vector-clean : {N : ℕ} (mode : Mode) (slack : ℕ) (src : List ℕ) (old new : Target N) (at valid to ticks : ℕ) → at + valid ≤ length src → CleanFrom mode src at (at + valid)
    → IsStored slack (drop at src) old new valid to → Advanced mode slack (at + valid) 1 1 src (state old at to ticks) (state new (at + valid) (to + valid) ticks)
vector-clean mode slack src old new at valid to ticks inside clean s =
    let same = ahead-runs mode src at (at + valid) (omega arith) clean in
    record {
      stretch = clean-stored mode slack src old new at valid to inside clean s;
      reached = reached-to mode src (at + valid);
      cost = omega (arith, s.stored, same);
    }

-- one stretch of vectors, and then the next
pub advanced-onward : {N : ℕ} {mode : Mode} {slack border border2 v1 v2 a1 a2 : ℕ} {src : List ℕ} {old mid new : Target N} {at i next to p end t0 t1 t2 : ℕ}
    → Advanced mode slack border v1 a1 src (state old at to t0) (state mid i p t1) → Advanced mode slack border2 v2 a2 src (state mid i p t1) (state new next end t2) → Advanced mode slack border2 (v1 + v2) (a1 + a2) src (state old at to t0) (state new next end t2)
advanced-onward a b = record {
  stretch = onward a.stretch b.stretch;
  reached = b.reached;
  cost = omega (arith, a.cost, b.cost);
}

-- the same, up to and past places that are equal
pub advanced-bordered : {N : ℕ} {mode : Mode} {slack border b vectors asked : ℕ} {src : List ℕ} {old new : Target N} {at next to end t0 t1 : ℕ}
    → border ≡ b → Advanced mode slack border vectors asked src (state old at to t0) (state new next end t1) → Advanced mode slack b vectors asked src (state old at to t0) (state new next end t1)
advanced-bordered {N} {mode} {slack} {border} {b} {vectors} {asked} {src} {old} {new} {at} {next} {to} {end} {t0} {t1} e s = subst (λ k. Advanced mode slack k vectors asked src (state old at to t0) (state new next end t1)) e s

pub advanced-ended : {N : ℕ} {mode : Mode} {slack border b vectors asked : ℕ} {src : List ℕ} {old new : Target N} {at next i to end p t0 t1 : ℕ}
    → border ≡ b → next ≡ i → end ≡ p → Advanced mode slack border vectors asked src (state old at to t0) (state new next end t1) → Advanced mode slack b vectors asked src (state old at to t0) (state new i p t1)
advanced-ended {N} {mode} {slack} {border} {b} {vectors} {asked} {src} {old} {new} {at} {next} {i} {to} {end} {p} {t0} {t1} e f h s =
    subst (λ k. Advanced mode slack b vectors asked src (state old at to t0) (state new i k t1)) h (subst (λ k. Advanced mode slack b vectors asked src (state old at to t0) (state new k end t1)) f (advanced-bordered e s))

-- from a target that is the same
pub advanced-from : {N : ℕ} {mode : Mode} {slack border vectors asked : ℕ} {src : List ℕ} {old mid new : Target N} {at next to end t0 t1 : ℕ}
    → mid ≡ old → Advanced mode slack border vectors asked src (state mid at to t0) (state new next end t1) → Advanced mode slack border vectors asked src (state old at to t0) (state new next end t1)
advanced-from {N} {mode} {slack} {border} {vectors} {asked} {src} {new = new} {at} {next} {to} {end} {t0} {t1} is e = subst (λ t. Advanced {N = N} mode slack border vectors asked src (state t at to t0) (state new next end t1)) is e

-- the vectors that were classified before, counted with them
pub advanced-asked : {N : ℕ} {mode : Mode} {slack border vectors : ℕ} {src : List ℕ} {old new : Target N} {at next to end t1 t2 : ℕ} (t0 asked : ℕ)
    → t1 ≡ t0 + asked → Advanced mode slack border vectors asked src (state old at to t1) (state new next end t2) → Advanced mode slack border vectors 0 src (state old at to t0) (state new next end t2)
advanced-asked t0 asked e s = record { stretch = s.stretch; reached = s.reached; cost = omega (arith, e, s.cost) }

-- what escaped a text from a place on, as a text of its own
pub advanced-later : {N : ℕ} {mode : Mode} {slack border vectors asked : ℕ} {old new : Target N} {next to end t0 t1 : ℕ} (src text : List ℕ) (at : ℕ) → text ≡ drop at src → at ≤ length src
    → Advanced mode slack border vectors asked text (state old 0 to t0) (state new next end t1) → Advanced mode slack (at + border) vectors asked src (state old at to t0) (state new (at + next) end t1)
advanced-later {N} {mode} {slack} {border} {vectors} {asked} {old} {new} {next} {to} {end} {t0} {t1} src text at is inside given =
    let e = subst (λ xs. Advanced mode slack border vectors asked xs (state old 0 to t0) (state new next end t1)) is given in
    let p = e.reached in let u = ap (run_count mode) (drop-drop next at src) in
    record {
      stretch = stretch-later src at inside e.stretch;
      reached = grind (arith, get_or-drop, p);
      cost = omega (arith, e.cost, u);
    }

-- a vector of a text, as the first of a text of its own
pub vector-later : (mode : Mode) (n slack : ℕ) (src text : List ℕ) (at valid to size : ℕ) → text ≡ drop at src → IsVectorAt mode n slack src at (at + valid) to size → IsVectorAt mode n slack text 0 valid to size
vector-later mode n slack src text at valid to size is v =
    record { few = omega (arith, v.few); inside = omega (arith, v.inside, ap length is, length-drop at src); room = room-later text valid valid is refl v.room refl }

-- a vector of which what came before it may have passed some bytes
pub vector-left : (mode : Mode) (n : ℕ) (src : List ℕ) (at from to size : ℕ) → 16 ≤ n → Reached mode src at from → at + 2 * n ≤ length src → HasRoom mode n src from (at + n) to size → IsVectorAt mode n n src from (from + (n - (from - at))) to size
vector-left mode n src at from to size several p inside room =
    let border : at + n ≡ from + (n - (from - at)) = omega (arith, p.whole, p.near, several) in
    record { few = omega arith; inside = omega (arith, inside, p.whole, p.near, several); room = subst (λ k. HasRoom mode n src from k to size) border room }

-- a vector that is there can be stored
pub vector-stores : {mode : Mode} {N slack : ℕ} {src : List ℕ} {at border to size : ℕ} (valid : ℕ) → at + valid ≡ border → IsVectorAt mode N slack src at border to size → (valid ≤ N) × (at + N ≤ length src) × (to + valid + slack ≤ size)
vector-stores valid ends v = let least = room-least (omega (arith, ends)) (omega (arith, v.inside)) v.room in (omega (arith, v.few, ends), omega (arith, v.inside, ends), omega (arith, least, ends))

-- in script, e2 is one byte
e2_count : length (replacement script 226) ≡ 1
unfolding replacement
e2_count = refl

-- no separator begins with a byte for which two stand
pub not_lead : (mode : Mode) (src : List ℕ) (p : ℕ) → length (replacement mode (get_or src p 0)) ≡ 2 → source_len mode (drop p src) ≡ 1
not_lead script src p two = grind (arith, source_len-alone, other-byte, e2_count)
not_lead mode src p two = refl

-- a mask tells of each byte whether it needs an escape
told-held : (mode : Mode) (src : List ℕ) (at valid : ℕ) (bits : List Bool) → HoldsFlags mode src at valid at bits → (k : ℕ) → k < valid → get_or bits k false ≡ needs_escape mode (get_or src (at + k) 0)
told-held mode src at valid bits h k few = let t = h.set k in let u = h.unset k in grind (arith, cases_Bool)

-- where no flagged byte of a text is long, each has a short escape
pub short-lanes : (mode : Mode) (n : ℕ) (src : List ℕ) (at : ℕ) (bits : List Bool) → at + n ≤ length src → n ≤ length bits → none_set (zip2 ◌&&◌ (map (is_long mode) (take n (drop at src))) bits) ≡ true → AreShort mode n src at bits
short-lanes mode n src at bits inside wide none k h set needed =
    let full : length (take n (drop at src)) ≡ n = length-take-le n (drop at src) (omega (arith, inside, length-drop at src)) in
    let ms = map (is_long mode) (take n (drop at src)) in
    let lane : get_or ms k false ≡ is_long mode (get_or src (at + k) 0) =
    get_or-map (is_long mode) (take n (drop at src)) k 0 false (omega (arith, full, h)) ∙ ap (is_long mode) (get_or-take n (drop at src) k 0 h ∙ get_or-drop at src k 0) in
    let both = get_or-zip2 ◌&&◌ ms bits k false false false (omega (arith, full, length-map (take n (drop at src)) (is_long mode), h)) (omega (arith, h, wide)) in
    let clear : (is_long mode (get_or src (at + k) 0) && true) ≡ false = rw (lane, set) at (sym both ∙ none_set-at (zip2 ◌&&◌ ms bits) k none) in
    grind (arith, nat_tests, clear, needed)

-- where each flagged byte has a short escape, each byte is passed alone
alone-short : (mode : Mode) (n : ℕ) (src : List ℕ) (at valid : ℕ) (bits : List Bool) → HoldsFlags mode src at valid at bits → AreShort mode n src at bits → at + valid ≤ length src → valid ≤ n → (p : ℕ) → at ≤ p → p < at + valid → source_len mode (drop p src) ≡ 1
alone-short mode n src at valid bits h short inside few p after before =
    let t = h.set (p - at) in let u = h.unset (p - at) in let s = short (p - at) in grind (arith, cases_Bool, not_lead, passed_clean-here)

-- a vector that can be escaped by blocks
module _ {N : ℕ} {mode : Mode} {slack : ℕ} {src : List ℕ} {at to size : ℕ} {mask : MaskOf} (valid : ℕ) (is : mask ≡ whole_mask (take valid (drop at src))) (v : IsVectorAt mode N slack src at (at + valid) to size) (far : 16 ≤ slack) (several : 16 ≤ N) (narrow : N ≤ 64) where
  -- its lanes
  abbrev bits : List Bool
  bits = lanes_of_mask mode mask

  held : HoldsFlags mode src at valid at bits
  held = mask-holds mode src at valid at mask (ap (λ m. m.bytes) is) (omega (arith, v.inside)) (omega (arith, ap (λ m. m.from) is))

  module _ (short : AreShort mode N src at bits) where
    -- so it can
    pub vector-has_blocks : is_clear mode mask ≡ false → HasBlocks mode src at valid to size
    vector-has_blocks some =
        let f = first-set mode src at valid at bits held some in
        let two = short (first_set bits) (omega (arith, f, v.few)) (first_set-here bits some) f.1 in
        record {
          some = omega (arith, f);
          short = λ k h needed. short k (omega (arith, h, v.few)) (told-held mode src at valid bits held k h ∙ needed) needed;
          kept = keeps-clean mode _ two;
          few = omega (arith, v.few, narrow);
          inside = omega (arith, v.inside, several);
          room = room-near (at + valid) 16 (omega arith) (omega (arith, v.inside)) (omega (arith, far)) v.room;
        }

    -- it was, and its runs pay for what was stored
    pub vector-blocks : {old new : Target N} {end ticks_old ticks_new : ℕ} (n : ℕ) → bits_of 64 n ≡ bits → (valid + 7) / 8 ≤ flagged_blocks 8 bits + gaps false (take valid bits) + 1
        → Stretch mode 16 src old new (at, to) (at + valid, end) → stored_of new + flagged_blocks 8 bits ≡ stored_of old + (valid + 7) / 8 → ticks_new ≡ ticks_old + ((valid + 7) / 8 - (flagged_blocks 8 bits + 1))
        → Advanced mode slack (at + valid) 1 1 src (state old at to ticks_old) (state new (at + valid) end ticks_new)
    vector-blocks n number paid s stored ticks =
        let told = told-held mode src at valid bits held in
        let alone = alone-short mode N src at valid bits held short (omega (arith, v.inside)) (omega (arith, v.few)) in
        let runs = gaps-paid_mask mode src bits at valid (omega (arith, v.inside)) (omega (arith, ap length number, length-bits_of 64 n, v.few, narrow)) told alone in
        record {
          stretch = widened slack far s;
          reached = reached-to mode src (at + valid);
          cost = omega (arith, stored, ticks, paid, runs);
        }
