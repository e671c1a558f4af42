-- Stretches of a text: one after another, of clean bytes, and of what one escape stands for.
use Rattle.escape_simd.proofs.Words.{◌≡◌, ℕ, ◌+◌, ◌-◌, ◌*◌, ◌<◌, ◌≤◌, Bool, true, false, List, ◌++◌, length, take, drop, get_or, sym, ap, ◌∙◌, arith, append_assoc, length-append, length-take-le, length-drop, slice_range, paste, take-append-add, drop-drop, take-append-le, take-take, take_at, drop_at, append_cancel_right, flat_map-append, Mode, json, html, script, mode_of, needs_escape, replacement, bytes_of, stored_of, escaped_of, quotes_of, IsSameSlice, Target, inner, source_len, first_replacement, escaped_count, HasRoom, Stretch, IsStored, reach, run_reach}
use Rattle.std.proofs.lemmas.List.Folds.{drop_split}
use Rattle.std.proofs.lemmas.List.Edits.{take-paste, drop-paste}
use Rattle.escape_simd.proofs.RestSteps.{rest-is, rest-between}
use Rattle.escape_simd.proofs.Escapes.{byte-at, two≤escape}
use Rattle.escape_simd.proofs.Texts.{inner-here, escaped-here, one≤source_len, source_len≤length, length-first}

-- How far stores may reach

-- 16 bytes at least, and a vector at most
pub reach-bounds : (last : Bool) (n : ℕ) → 16 ≤ n → (16 ≤ reach last n) × (reach last n ≤ n)
reach-bounds true n some = grind arith
reach-bounds false n some = grind arith

-- Stretches

-- what is the same from a place on is the same further on
pub drop_further : (xs ys : List ℕ) (i j : ℕ) → i ≤ j → drop i xs ≡ drop i ys → drop j xs ≡ drop j ys
drop_further xs ys i j h e = grind (arith, drop-drop (j - i) i xs, drop-drop (j - i) i ys)

-- no byte of the text
pub standing : {N : ℕ} (mode : Mode) (slack : ℕ) (src : List ℕ) (t : Target N) (at to : ℕ) → at ≤ length src → Stretch mode slack src t t (at, to) (at, to)
standing mode slack src t at to inside = grind arith

-- it ends no earlier than it began
pub stretch-on : {N : ℕ} {mode : Mode} {slack : ℕ} {src : List ℕ} {old new : Target N} {at next to end : ℕ} → Stretch mode slack src old new (at, to) (next, end) → (to + (next - at) ≤ end) × (end ≤ to + 6 * (next - at))
stretch-on {mode = mode} {src = src} {at = at} {next = next} s = grind (arith, rest-between mode src at next s.forward s.inside)

-- Room

-- what has room has it where a stretch ends
pub room-on : {N : ℕ} {mode : Mode} {slack more : ℕ} {src : List ℕ} {old new : Target N} {at next to end stop : ℕ} → Stretch mode slack src old new (at, to) (next, end) → HasRoom mode more src at stop to (length (bytes_of old)) → HasRoom mode more src next stop end (length (bytes_of new))
room-on s h = record { fits = omega (arith, s.limit, s.same_slice.len, h.fits) }

-- and up to a nearer place, for the bytes behind that one and as many more
pub room-near : {mode : Mode} {slack : ℕ} {src : List ℕ} {at stop to size : ℕ} (near more : ℕ) → near ≤ stop → stop ≤ length src → more ≤ slack + (stop - near) → HasRoom mode slack src at stop to size → HasRoom mode more src at near to size
room-near {mode} {slack} {src} {at} {stop} near more before inside few h = record { fits = omega (arith, h.fits, few, rest-between mode src near stop before inside) }

-- for as many bytes as there are
pub room-least : {mode : Mode} {slack : ℕ} {src : List ℕ} {at stop to size : ℕ} → at ≤ stop → stop ≤ length src → HasRoom mode slack src at stop to size → to + (stop - at) + slack ≤ size
room-least {mode} {slack} {src} {at} {stop} before inside h = omega (arith, h.fits, rest-between mode src at stop before inside)

-- where there are six bytes for each
pub room-six : (mode : Mode) (slack : ℕ) (src : List ℕ) (at stop to size : ℕ) → at ≤ stop → stop ≤ length src → to + 6 * (stop - at) + slack ≤ size → HasRoom mode slack src at stop to size
room-six mode slack src at stop to size before inside fits = record { fits = omega (arith, fits, rest-between mode src at stop before inside) }

-- of a text from a place on, as a text of its own
pub room-later : {mode : Mode} {slack : ℕ} {src : List ℕ} {at stop to size : ℕ} (text : List ℕ) (i j : ℕ) → text ≡ drop at src → at + i ≡ stop → HasRoom mode slack src at stop to size → i ≡ j → HasRoom mode slack text 0 j to size
room-later {mode} {slack} {src} {at} {stop} text i j is ends h same =
    let r0 = rest-is mode (drop at src) 0 in let r1 = rest-is mode (drop at src) i ∙ ap (λ xs. length (inner mode xs)) (drop-drop i at src ∙ ap (λ k. drop k src) ends) in
    rw (is, ← same) (record { fits = omega (arith, h.fits, r0, r1, rest-is mode src at, rest-is mode src stop) })

-- one stretch, and then the next: no write reaches further past the end of both than `more`
pub onward_to : {N : ℕ} {mode : Mode} {slack slack2 : ℕ} {src : List ℕ} {old mid new : Target N} {at i next to p end : ℕ} (more : ℕ)
    → Stretch mode slack src old mid (at, to) (i, p) → Stretch mode slack2 src mid new (i, p) (next, end) → p + slack ≤ end + more → slack2 ≤ more → Stretch mode more src old new (at, to) (next, end)
onward_to more a b h l = grind (arith, drop_further)

-- and with the same reach
pub onward : {N : ℕ} {mode : Mode} {slack : ℕ} {src : List ℕ} {old mid new : Target N} {at i next to p end : ℕ}
    → Stretch mode slack src old mid (at, to) (i, p) → Stretch mode slack src mid new (i, p) (next, end) → Stretch mode slack src old new (at, to) (next, end)
onward {slack = slack} a b = let on = stretch-on b in onward_to slack a b (omega (arith, on)) (omega arith)

-- writes that may reach further
pub widened : {N : ℕ} {mode : Mode} {slack : ℕ} {src : List ℕ} {old new : Target N} {at next to end : ℕ} (more : ℕ)
    → slack ≤ more → Stretch mode slack src old new (at, to) (next, end) → Stretch mode more src old new (at, to) (next, end)
widened more h s = grind (arith, drop_further)

-- what stands before a place within a piece that was pasted in
front-paste : (old piece : List ℕ) (to n f : ℕ) → to + n ≤ length old → n ≤ length piece → f ≤ n → take (to + f) (paste old to piece n) ≡ take to old ++ take f piece
front-paste old piece to n f room long h =
    let l = length-take-le to old (omega arith) in let few : to + f ≤ to + n = omega arith in
    let e = take-append-add (take to old) (take n piece) f in
    rw (← take-take (to + f) (to + n) (paste old to piece n) few, take-paste old to piece n (omega arith) long) (rw (l, take-take f n piece h) at e)

-- a piece was pasted in, whose first `count` bytes stand for the text up to `next`
pub pasted : {N : ℕ} (mode : Mode) (slack : ℕ) (src : List ℕ) (old new : Target N) (at next to count : ℕ) (piece : List ℕ) (n : ℕ) → IsSameSlice old new → bytes_of new ≡ paste (bytes_of old) to piece n
    → to + n ≤ length (bytes_of old) → n ≤ length piece → count ≤ n → at ≤ next → next ≤ length src
    → take count piece ++ inner mode (drop next src) ≡ inner mode (drop at src) → n ≤ count + slack
    → escaped_of new + escaped_count mode (drop next src) ≡ escaped_of old + escaped_count mode (drop at src)
    → quotes_of new ≡ quotes_of old
    → Stretch mode slack src old new (at, to) (next, to + count)
pasted mode slack src old new at next to count piece n same written room long some forward inside stands low escaped quotes =
    let l = ap length stands in
    grind (arith, front-paste, drop_further, drop-paste, append_assoc, length-append {A = ℕ}, length-take-le {A = ℕ}, rest-is)

-- an entry of eight bytes reaches no further past what it stands for
pub entry-reach : (mode : Mode) (src : List ℕ) (i : ℕ) → needs_escape mode (get_or src i 0) ≡ true → 8 ≤ length (first_replacement mode (drop i src)) + run_reach mode
entry-reach script src i needed = omega (arith, length-first script (drop i src), one≤source_len script (drop i src))
entry-reach mode src i needed = omega (arith, two≤escape mode (get_or src i 0) (omega arith) needed, ap (λ b. length (replacement mode b)) (byte-at src i))

-- what one escape stands for: its entry, which begins with what is written, was pasted in
pub escaped_unit : {N : ℕ} (mode : Mode) (src : List ℕ) (old new : Target N) (i to : ℕ) (entry : List ℕ) → i < length src → needs_escape mode (get_or src i 0) ≡ true
    → (count : ℕ) → IsSameSlice old new → bytes_of new ≡ paste (bytes_of old) to entry 8 → to + 8 ≤ length (bytes_of old) → length entry ≡ 8
    → count ≤ 8 → take count entry ≡ first_replacement mode (drop i src)
    → escaped_of new ≡ escaped_of old + 1 → stored_of new ≡ stored_of old → quotes_of new ≡ quotes_of old
    → Stretch mode (run_reach mode) src old new (i, to) (i + source_len mode (drop i src), to + count)
escaped_unit mode src old new i to entry inside needed count same written room long six front escaped stored quotes =
    let l = length-drop i src in let fits = source_len≤length mode (drop i src) (omega arith) in let c = sym (length-take-le count entry (omega arith)) ∙ ap length front in
    pasted mode (run_reach mode) src old new i (i + source_len mode (drop i src)) to count entry 8 same written room (omega arith) six (omega arith) (omega arith)
    (rw front (sym (inner-here mode src i inside))) (omega (arith, entry-reach mode src i needed, c)) (omega (arith, escaped-here mode src i inside needed)) quotes

-- a vector that was stored, and passed no byte yet
pub stored_ahead : {N : ℕ} (mode : Mode) (slack : ℕ) (src : List ℕ) (old new : Target N) (from left to : ℕ) → IsStored slack (drop from src) old new left to
    → from ≤ length src → Stretch mode (left + slack) src old new (from, to) (from, to)
stored_ahead mode slack src old new from left to s inside = grind arith

-- a vector stored of some bytes is also one of others that begin with the same
pub stored_alike : {N slack left to : ℕ} {lanes held : List ℕ} {old new : Target N} → take left lanes ≡ take left held → IsStored slack lanes old new left to → IsStored slack held old new left to
stored_alike same s = grind (arith, same)

-- a stretch up to places that are equal
pub ended : {N : ℕ} {mode : Mode} {slack : ℕ} {src : List ℕ} {old new : Target N} {at next i to end p : ℕ}
    → Stretch mode slack src old new (at, to) (next, end) → next ≡ i → end ≡ p → Stretch mode slack src old new (at, to) (i, p)
ended s e f = rw (e, f) at s

-- one stretch, and the next from places that are equal
pub onward_at : {N : ℕ} {mode : Mode} {slack : ℕ} {src : List ℕ} {old mid new : Target N} {at i j next to p q end : ℕ}
    → Stretch mode slack src old mid (at, to) (i, p) → Stretch mode slack src mid new (j, q) (next, end) → i ≡ j → p ≡ q → Stretch mode slack src old new (at, to) (next, end)
onward_at a b e f = onward (rw (e, f) at a) b

-- a stretch of a text from a place on, as a text of its own
pub stretch-later : {N : ℕ} {mode : Mode} {slack : ℕ} {old new : Target N} {next to end : ℕ} (src : List ℕ) (at : ℕ) → at ≤ length src → Stretch mode slack (drop at src) old new (0, to) (next, end) → Stretch mode slack src old new (at, to) (at + next, end)
stretch-later {N} {mode} {slack} {old} {new} {next} {to} {end} src at inside s =
    let there : drop next (drop at src) ≡ drop (at + next) src = drop-drop next at src in let count = length-drop at src in
    let r0 = rest-is mode (drop at src) 0 in let r1 = rest-is mode (drop at src) next ∙ ap (λ xs. length (inner mode xs)) there in
    let q0 = rest-is mode src at in let q1 = rest-is mode src (at + next) in let c = ap (escaped_count mode) there in
    let bytes = ap (λ xs. take end (bytes_of new) ++ inner mode xs) (sym there) ∙ s.bytes in grind arith

-- in the modes that go byte by byte, what stands for bytes is cut where they are
inner-cut : (is_html : Bool) (xs ys : List ℕ) → inner (mode_of is_html) (xs ++ ys) ≡ inner (mode_of is_html) xs ++ inner (mode_of is_html) ys
inner-cut true xs ys = flat_map-append (replacement html) xs ys
inner-cut false xs ys = flat_map-append (replacement json) xs ys

-- what a stretch wrote in these modes, and where it ended
module _ {N : ℕ} (is_html : Bool) {slack : ℕ} {src : List ℕ} {old new : Target N} {at next to end : ℕ} (s : Stretch (mode_of is_html) slack src old new (at, to) (next, end)) where
  -- the escaping of the rest, cut at its end
  parts : inner (mode_of is_html) (drop at src) ≡ inner (mode_of is_html) (slice_range src at next) ++ inner (mode_of is_html) (drop next src)
  parts = ap (inner (mode_of is_html)) (drop_split src at next s.forward) ∙ inner-cut is_html (slice_range src at next) (drop next src)

  -- the escaping of the stretch
  pub stretch-written : take end (bytes_of new) ≡ take to (bytes_of old) ++ inner (mode_of is_html) (slice_range src at next)
  stretch-written = grind (arith, append_cancel_right, slice_range, parts, append_assoc)

  -- as many bytes further
  pub stretch-end : end ≡ to + length (inner (mode_of is_html) (slice_range src at next))
  stretch-end = grind (arith, rest-is, parts, length-append {A = ℕ}, slice_range)

-- lanes that begin with these bytes were pasted in: a vector of them is stored
pub stored_from_paste : {N slack left : ℕ} {held : List ℕ} {old new : Target N} {to n : ℕ} (lanes : List ℕ) → IsSameSlice old new → bytes_of new ≡ paste (bytes_of old) to lanes n
    → stored_of new ≡ stored_of old + 1 → escaped_of new ≡ escaped_of old → quotes_of new ≡ quotes_of old
    → left ≤ n → n ≤ length lanes → n ≤ left + slack → to + n ≤ length (bytes_of old) → take left lanes ≡ take left held → IsStored slack held old new left to
stored_from_paste {left = left} {old = old} {to = to} {n = n} lanes same bytes stored escaped quotes some long few room loaded =
    let is = bytes ∙ append_assoc (take to (bytes_of old)) (take n lanes) (drop (to + n) (bytes_of old)) in
    grind (arith, is, take_at, drop_at, take-append-le, take-take left n lanes some, length-take-le {A = ℕ}, drop_further, drop-paste)
