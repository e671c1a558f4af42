-- A text that is appended: from registers, or part by part in place.
use Rattle.escape_simd.proofs.Words.{drop_all, ◌≡◌, ℕ, ◌+◌, ◌-◌, ◌<◌, ◌≤◌, Bool, true, false, cond, List, [], ◌++◌, length, take, drop, replicate, get_or, sym, ap, ◌∙◌, append_assoc, arith, count_by, take-add, take-append-add, take-append_seam, nat_tests, append-nil, take-append-drop, take-take, get_or-le-sum_by, MaskOf, is_clear, ◌*◌, ◌&&◌, and_parts, Mode, inner, quote_of, IsFront, AreTailMasks, whole_mask}
use Rattle.escape_simd.proofs.Lanes.{CleanFrom, clean-list, mask-clean}
use Rattle.escape_simd.proofs.Last.{tail-clean_back, tail-clean_front}
use Rattle.escape_simd.proofs.ReplacementLemmas.{inner-nil}
use Rattle.escape_simd.proofs.Texts.{IsClean, inner-clean}

-- bytes that need no escape stand for themselves
pub itself : (mode : Mode) (text : List ℕ) → CleanFrom mode text 0 (length text) → inner mode text ≡ text
itself mode text clean = let c = inner-clean mode [] text (λ k h. clean k (omega arith) h) in grind (arith, append-nil, inner-nil)

-- what stands after a vector of the text, which goes over the end of those before it
pub vector-over : (old src before : List ℕ) (len at n e : ℕ) → len ≡ length old → at ≤ e → before ≡ old ++ take e src → take (len + at) before ++ take n (drop at src) ≡ old ++ take (at + n) src
vector-over old src before len at n e is on so_far = grind (arith, take-append-add, take-take, append_assoc, take-add)

-- what stands for a piece of a text was written behind what was, and for the rest it is yet to be
pub piece-on : (items filled new piece behind rest whole : List ℕ) (end count close : ℕ) → end ≤ count → take count filled ≡ items → take close new ≡ take end filled ++ piece → rest ≡ piece ++ behind → take end items ++ rest ≡ whole
    → take close new ++ behind ≡ whole
piece-on items filled new piece behind rest whole end count close inside front written joined so_far =
    let kept : take end filled ≡ take end items = grind (arith, take-take, front, inside) in
    rw written (append_assoc (take end filled) piece behind ∙ ap (λ xs. xs ++ (piece ++ behind)) kept ∙ ap (λ xs. take end items ++ xs) (sym joined) ∙ so_far)

-- a vector gets back the bytes that it lent, as many as it has
pub given-back : (new filled : List ℕ) (close count : ℕ) → length new ≡ length filled → count ≡ length filled → close ≤ count → take close (take count (new ++ drop (length new) filled)) ≡ take close new
given-back new filled close count same all inside = let none : drop (length new) filled ≡ [] = drop_all (length new) filled (omega (arith, same)) in grind (arith, append-nil, take-take, none, inside)

-- a clean front of a text, and a stretch more
pub front-more : (mode : Mode) (src : List ℕ) (at end n : ℕ) → IsFront mode src at end → end + n ≤ length src → CleanFrom mode src end (end + n) → IsFront mode src at (end + n)
front-more mode src at end n front inside clean = grind (arith, clean, front.clean)

-- bytes of a text that were appended, and more of them
pub copied-on : (text old items new : List ℕ) (at n m : ℕ) → items ≡ old ++ take at text → m ≡ n → new ≡ items ++ take m (drop at text) → new ≡ old ++ take (at + n) text
copied-on text old items new at n m so_far is pushed = rw is at pushed ∙ ap (λ xs. xs ++ take n (drop at text)) so_far ∙ append_assoc old (take at text) (take n (drop at text)) ∙ ap (λ xs. old ++ xs) (sym (take-add at n text))

-- and fewer of them
pub copied-front : (text old items : List ℕ) (at from n : ℕ) → items ≡ old ++ take at text → from ≤ at → n ≡ length old + from → take n items ≡ old ++ take from text
copied-front text old items at from n copied before is = rw (copied, is) (grind (arith, take-append-add, take-take, before))

-- it was appended as it is, and then what stands for the rest
pub front-rest : (mode : Mode) (src old new more rest : List ℕ) (at : ℕ) → IsFront mode src 0 at → new ≡ old ++ take at src → rest ≡ drop at src → more ≡ new ++ (inner mode rest ++ quote_of mode) → more ≡ old ++ (inner mode src ++ quote_of mode)
front-rest mode src old new more rest at front copied is appended =
    let clean : IsClean mode (take at src) = clean-list mode src 0 at (λ k after before. front.clean k after (omega (arith, before))) in
    let whole = inner-clean mode (drop at src) (take at src) clean in
    grind (arith, append_assoc, take-append-drop, whole, is)

-- what stands for a text, and a quotation mark after it
pub marked : (mode : Mode) (text old new last : List ℕ) → new ≡ old ++ inner mode text → last ≡ new ++ quote_of mode → last ≡ old ++ (inner mode text ++ quote_of mode)
marked mode text old new last written quoted = grind (arith, append_assoc)

-- Short texts

-- a short text of which no byte is flagged stands for itself
pub tail-itself : {first last : MaskOf} (mode : Mode) (n : ℕ) (text : List ℕ) → AreTailMasks n text first last → is_clear mode first ≡ true → is_clear mode last ≡ true → inner mode text ≡ text
tail-itself mode n text t none1 none2 =
    itself mode text (λ p late early.
    let few = t.few in let back = tail-clean_back mode t none2 p in
    let front = λ (some : n ≤ length text). tail-clean_front mode t some none1 p in grind (arith, few, back, front))

-- four clean vectors are clean
pub clean-four : (mode : Mode) (n : ℕ) (src : List ℕ) (at : ℕ) {mask1 mask2 mask3 mask4 : MaskOf} {clear : Bool} → at + 4 * n ≤ length src
    → mask1 ≡ whole_mask (take n (drop at src)) → mask2 ≡ whole_mask (take n (drop (at + n) src)) → mask3 ≡ whole_mask (take n (drop (at + 2 * n) src)) → mask4 ≡ whole_mask (take n (drop (at + 3 * n) src))
    → clear ≡ ((is_clear mode mask1 && is_clear mode mask2) && (is_clear mode mask3 && is_clear mode mask4)) → clear ≡ true → CleanFrom mode src at (at + 4 * n)
clean-four mode n src at {mask1} {mask2} {mask3} {mask4} inside a b c d is clear p late early =
    let all = and_parts (is_clear mode mask1 && is_clear mode mask2) (is_clear mode mask3 && is_clear mode mask4) (sym is ∙ clear) in
    let front = and_parts (is_clear mode mask1) (is_clear mode mask2) all.0 in let back = and_parts (is_clear mode mask3) (is_clear mode mask4) all.1 in
    let c1 = mask-clean mode src at n mask1 a (omega (arith, inside)) front.0 p in
    let c2 = mask-clean mode src (at + n) n mask2 b (omega (arith, inside)) front.1 p in
    let c3 = mask-clean mode src (at + 2 * n) n mask3 c (omega (arith, inside)) back.0 p in
    let c4 = mask-clean mode src (at + 3 * n) n mask4 d (omega (arith, inside)) back.1 p in
    grind (arith, c1, c2, c3, c4, late, early)

-- the first lanes of a vector that was loaded with a text are the text
pub lanes-front : (n : ℕ) (text lanes : List ℕ) → lanes ≡ text ++ replicate (n - length text) 0 → take (length text) lanes ≡ text
lanes-front n text lanes loaded = grind (arith, take-append_seam)

-- and so they are after other bytes
pub vector-front : (old text lanes : List ℕ) (n len : ℕ) → len ≡ length old → lanes ≡ text ++ replicate (n - length text) 0 → take (len + length text) (old ++ lanes) ≡ old ++ text
vector-front old text lanes n len is loaded = let t = take-append-add old lanes (length text) in let f = lanes-front n text lanes loaded in grind (arith, t, f)

-- Whether a text stands for itself

-- where none is counted, none needs an escape
pub none-counted : (f : ℕ → Bool) (xs : List ℕ) → count_by f xs ≡ 0 → (k : ℕ) → k < length xs → f (get_or xs k 0) ≡ false
none-counted f xs none k h = let a = get_or-le-sum_by (λ y. cond (f y) 1 0) xs k 0 h in grind (arith, nat_tests)
