-- The last bytes of a text, held with zeros behind them.
use Rattle.escape_simd.proofs.Words.{min, ◌≡◌, ℕ, ◌+◌, ◌-◌, ◌*◌, ◌/◌, ◌<◌, ◌≤◌, true, false, List, [], ◌++◌, length, take, drop, replicate, refl, sym, ap, ◌∙◌, arith, append_assoc, append-nil, length-append, length-drop, append_cancel_right, drop_all, drop_at, get_or_past, length-replicate, replicate-append-replicate, drop-append-le, drop-drop, take_all, take-append_seam, MaskOf, is_clear, lanes_of_mask, whole_mask, Mode, script, bytes_of, Target, inner, escaped_count, run_count, flag_count, rest_length, AreTailMasks, Advanced, HasRoom, IsStored, IsVectorAt, Reached, state}
use Rattle.std.proofs.Math.Nat.{div-eq_of_lt, div-eq_of_lt-le}
use Rattle.escape_simd.proofs.Behind.{inner-behind, escaped-behind, get_or-behind, runs-behind}
use Rattle.escape_simd.proofs.Lanes.{CleanFrom, mask-clean, mask-holds}
use Rattle.escape_simd.proofs.ReplacementLemmas.{inner-nil}
use Rattle.escape_simd.proofs.RestSteps.{rest-bounds, rest-flagged, rest-is}
use Rattle.escape_simd.proofs.Stretches.{ended, onward_to, stored_ahead}
use Rattle.escape_simd.proofs.Texts.{escaped-empty, runs-empty}
use Rattle.escape_simd.proofs.Turns.{ahead-front, ahead-passed, ahead-runs}
use Rattle.escape_simd.proofs.Vectors.{clean-stored, advanced-ended, advanced-later, reached-to}

-- n zeros
abbrev pub zeros : ℕ → List ℕ
zeros n = replicate n 0

-- A text with zeros behind it

-- nothing goes past its end
pub zero-stops : (mode : Mode) (text : List ℕ) (k border next : ℕ) → border ≤ length text → length text ≤ next → Reached mode (text ++ zeros k) border next → next ≡ length text
zero-stops script text k border next within past q = let c = q.clean (length text) in grind (arith, get_or-behind, get_or_past)
zero-stops mode text k border next within past q = let e = q.exact (λ bytes. refl) in omega (arith, e, within, past)

module _ (mode : Mode) (text : List ℕ) (k : ℕ) where
  -- with them
  abbrev held : List ℕ
  held = text ++ zeros k

  -- as many bytes
  pub length-held : length held ≡ length text + k
  length-held = length-append text (zeros k) ∙ omega (arith, length-replicate {A = ℕ} k 0)

  -- what is behind it
  behind : drop (length text) held ≡ zeros k
  behind = drop_at text (zeros k) (length text) refl

  -- what escaped it
  pub advanced-behind : {N : ℕ} {slack border vectors asked : ℕ} {old new : Target N} {to end t0 t1 : ℕ} → Advanced mode slack border vectors asked held (state old 0 to t0) (state new (length text) end t1)
      → Advanced mode slack (length text) vectors asked text (state old 0 to t0) (state new (length text) end t1)
  advanced-behind {N} {slack} {border} {vectors} {asked} {old} {new} {to} {end} {t0} {t1} e =
      let s = e.stretch in
      let none : drop (length text) text ≡ [] = drop_all (length text) text (omega arith) in
      let cut = inner-behind mode text k in
      let past : inner mode (drop (length text) held) ≡ inner mode (zeros k) = ap (inner mode) behind in
      let r0 = rest-is mode held 0 ∙ ap length cut ∙ length-append (inner mode text) (inner mode (zeros k)) in
      let q1 = rest-is mode text (length text) ∙ ap length (ap (inner mode) none ∙ inner-nil mode) in
      let c = escaped-behind mode text k in let c1 = ap (escaped_count mode) behind in let c2 = ap (escaped_count mode) none ∙ escaped-empty mode in
      let u = runs-behind mode text k in let u1 = ap (run_count mode) behind in let u2 = ap (run_count mode) none ∙ runs-empty mode false in
      let written : take end (bytes_of new) ≡ take to (bytes_of old) ++ inner mode text =
      append_cancel_right (take end (bytes_of new)) (take to (bytes_of old) ++ inner mode text) (inner mode (zeros k))
      (ap (λ xs. take end (bytes_of new) ++ xs) (sym past) ∙ s.bytes ∙ ap (λ xs. take to (bytes_of old) ++ xs) cut ∙ sym (append_assoc (take to (bytes_of old)) (inner mode text) (inner mode (zeros k)))) in
      let limit = rest-is mode held (length text) ∙ ap length past in let front = rest-is mode text 0 in
      let bytes = ap (λ xs. take end (bytes_of new) ++ xs) (ap (inner mode) none ∙ inner-nil mode) ∙ append-nil (take end (bytes_of new)) ∙ written in
      record {
        stretch = grind arith;
        reached = reached-to mode text (length text);
        cost = omega (arith, e.cost, u, u1, u2);
      }

-- two clean vectors that may have some of the same bytes
pub two-clean : {N : ℕ} {mode : Mode} {slack n : ℕ} {text : List ℕ} {old mid new : Target N} {to t : ℕ} → n ≤ length text → length text < 2 * n → CleanFrom mode text 0 n → CleanFrom mode text (length text - n) (length text)
    → IsStored slack (drop 0 text) old mid n to → IsStored slack (drop (length text - n) text) mid new n (to + (length text - n)) → Advanced mode slack (length text) 2 2 text (state old 0 to t) (state new (length text) (to + length text) t)
two-clean {mode = mode} {slack = slack} {n = n} {text = text} {old = old} {mid = mid} {new = new} {to = to} inside few clean1 clean2 s1 s2 =
    let last : ℕ = length text - n in
    let p = ahead-passed mode slack text mid 0 n last to (ahead-front mode text mid 0 n to n (omega arith) s1.ahead) (omega arith) (omega (arith, few, inside)) inside (λ p late early. clean1 p late (omega (arith, early, few, inside))) in
    let first = onward_to (n - last + slack) (stored_ahead mode slack text old mid 0 n to s1 (omega arith)) (ended p refl (omega arith)) (omega (arith, few, inside)) (omega arith) in
    let rest = clean-stored mode slack text mid new last n (to + last) (omega (arith, inside)) (λ p late early. clean2 p late (omega (arith, early, inside))) s2 in
    let same = ahead-runs mode text 0 (length text) (omega arith) (λ p late early. grind (arith, clean1, clean2)) in
    record {
      stretch = onward_to slack first (ended rest (omega (arith, inside)) (omega (arith, inside))) (omega (arith, few, inside)) (omega arith);
      reached = reached-to mode text (length text);
      cost = omega (arith, s1.stored, s2.stored, same);
    }

-- A short text

-- it is all that is loaded of it
pub loaded-short : (text lanes : List ℕ) (n m : ℕ) → m ≡ n → lanes ≡ drop (length text - length text) text ++ zeros (m - length text) → lanes ≡ text ++ zeros (n - length text)
loaded-short text lanes n m same loaded = let none : length text - length text ≡ 0 = omega arith in rw (sym same) (rw none at loaded)

-- a short text as its last vector, in two rows
pub spilled-short : (text lanes dst : List ℕ) (n m : ℕ) → length text < n → m ≡ n → lanes ≡ text ++ zeros (n - length text) → dst ≡ lanes ++ drop m (zeros n) → dst ++ (zeros n ++ []) ≡ drop (length text - n) text ++ zeros (2 * n - min (length text) n)
spilled-short text lanes dst n m few same loaded stored =
    let none : drop m (zeros n) ≡ [] = drop_all m (zeros n) (omega (arith, same, length-replicate {A = ℕ} n 0)) in
    let start : length text - n ≡ 0 = omega (arith, few) in
    let count : 2 * n - min (length text) n ≡ n - length text + n = omega (arith, few) in
    let whole : dst ≡ text ++ zeros (n - length text) = stored ∙ ap (λ xs. lanes ++ xs) none ∙ append-nil lanes ∙ loaded in
    rw (start, count, whole, append-nil (zeros n)) (append_assoc text (zeros (n - length text)) (zeros n) ∙ ap (λ xs. text ++ xs) (replicate-append-replicate (n - length text) n 0))

-- a text's last vector and the zeros of both rows, from a place on
pub tail-rows : (text rows : List ℕ) (border skipped next k : ℕ) → rows ≡ drop border text ++ zeros k → next ≡ border + skipped → next ≤ length text
    → take (length rows - skipped) (drop skipped rows) ≡ drop next text ++ zeros k
tail-rows text rows border skipped next k is at inside = grind (arith, take_all, length-drop {A = ℕ}, drop-append-le, drop-drop)

-- The last bytes of a text from a place on, with zeros behind them
module _ (mode : Mode) (slack n : ℕ) (text held : List ℕ) (next left k end : ℕ) (inside : next ≤ length text) (all : left ≡ length text - next) (is : held ≡ drop next text ++ zeros k) where
  -- they can be escaped as a vector
  pub last-vector : (size : ℕ) → left ≤ n → n ≤ k → HasRoom mode slack text next (length text) end size → IsVectorAt mode n slack held 0 (0 + left) end size
  last-vector size few free room =
      let rest = drop next text in let long = length-drop next text in
      let front = rest-is mode (rest ++ zeros k) 0 ∙ ap length (inner-behind mode rest k) ∙ length-append (inner mode rest) (inner mode (zeros k)) in
      let back = rest-is mode (rest ++ zeros k) (0 + left) ∙ ap (λ xs. length (inner mode xs)) (drop_at rest (zeros k) (0 + left) (omega (arith, all, long))) in
      let none = (rest-bounds mode text (length text)).1 in
      record {
        few = omega (arith, few);
        inside = omega (arith, ap length is, length-held mode rest k, long, all, free);
        room = rw is (record { fits = omega (arith, room.fits, front, back, rest-is mode text next, none) });
      }

  -- a mask of the text's bytes is one of theirs
  pub last-told : {mask : MaskOf} → mask ≡ whole_mask (drop next text) → mask ≡ whole_mask (take left held)
  last-told told =
      let rest = drop next text in let count : left ≡ length rest = omega (arith, all, length-drop next text) in
      told ∙ ap whole_mask (sym (ap (take left) is ∙ ap (λ j. take j (rest ++ zeros k)) count ∙ take-append_seam rest (zeros k)))

  -- then all are
  pub last-all : {N : ℕ} (old new : Target N) (past close t0 t1 : ℕ) → Advanced mode slack (0 + left) 1 1 held (state old 0 end t0) (state new past close t1) → Advanced mode slack (length text) 1 1 text (state old next end t0) (state new (length text) close t1)
  last-all old new past close t0 t1 e =
      let count = length-drop next text in
      let stops = zero-stops mode (drop next text) k (0 + left) past (omega (arith, all, count)) (omega (arith, all, count, e.reached.whole)) (rw is at e.reached) in
      let whole : next + length (drop next text) ≡ length text = omega (arith, count, inside) in
      advanced-ended whole whole refl (advanced-later text (drop next text) next refl inside (advanced-behind mode (drop next text) k (rw (is, stops) at e)))

-- A short text of which no byte is flagged
module _ (mode : Mode) {n : ℕ} {text : List ℕ} {first last : MaskOf} (t : AreTailMasks n text first last) where
  -- its last vector is all that is left of it
  tail-back : last ≡ whole_mask (take (min (length text) n) (drop (length text - n) text))
  tail-back = t.back ∙ ap whole_mask (sym (take_all (min (length text) n) (drop (length text - n) text) (omega (arith, length-drop (length text - n) text))))

  -- it is clean, and may be all of the text
  pub tail-clean_back : is_clear mode last ≡ true → CleanFrom mode text (length text - n) (length text)
  tail-clean_back none p late early = mask-clean mode text (length text - n) (min (length text) n) last tail-back (omega arith) none p late (omega (arith, early))

  -- and so is the first one
  pub tail-clean_front : n ≤ length text → is_clear mode first ≡ true → CleanFrom mode text 0 n
  tail-clean_front some none p late early = mask-clean mode text 0 n first (t.front some) (omega (arith, some)) none p late (omega (arith, early))

  -- where it has room for its bytes, and for five more for each lane that is set, it has room for what they become
  pub tail-room : (slack to size : ℕ) → to + (length text + 5 * (flag_count (lanes_of_mask mode first) + flag_count (lanes_of_mask mode last))) + slack ≤ size → HasRoom mode slack text 0 (length text) to size
  tail-room slack to size fits =
      let border : ℕ = length text - n in let count : ℕ = min (length text) n in
      let held1 = λ (some : n ≤ length text). mask-holds mode text 0 n 0 first (ap (λ m. m.bytes) (t.front some)) (omega (arith, some)) (omega (arith, ap (λ m. m.from) (t.front some))) in
      let held2 = mask-holds mode text border count border last (ap (λ m. m.bytes) tail-back) (omega arith) (omega (arith, ap (λ m. m.from) tail-back)) in
      let front = rest-flagged mode text border 0 (lanes_of_mask mode first) (omega arith) (λ k before none. (held1 (omega (arith, before))).unset k none (omega arith) (omega (arith, before, t.few))) in
      let back = rest-flagged mode text count border (lanes_of_mask mode last) (omega arith) (λ k before none. held2.unset k none (omega arith) before) in
      let begin : 0 + border ≡ border = omega arith in let all : border + count ≡ length text = omega arith in
      record { fits = omega (arith, fits, front, back, ap (rest_length mode text) begin, ap (rest_length mode text) all) }

-- how many vectors a short text begins
pub one-begun : (n count : ℕ) → count < n → 1 ≡ count / n + 1
one-begun n count few = grind (arith, div-eq_of_lt)

pub two-begun : (n count : ℕ) → n ≤ count → count < 2 * n → 2 ≡ count / n + 1
two-begun n count some few = grind (arith, div-eq_of_lt-le)
