-- Quotation marks that are copied to places of a slice.
use Rattle.std.proofs.Common.{◌≡◌, ℕ, ◌+◌, ◌-◌, ◌≤◌, List, [], ◌++◌, length, take, drop, IsUtf8, Result, Ok, Err, OnOk, OnErr, refl, sym, subst, ap, ◌∙◌, append-nil, length-append, length-drop, take_at, arith}
use Rattle.std.proofs.lemmas.List.{drop_all}
use Rattle.std.proofs.lemmas.Slice.{take-put_mid}
use Rattle.std.proofs.lemmas.Str.{IsUtf8-append}
use borrow.Rule.Slice.PartMut.{put_mid, post_of}
use Rattle.escape_lanes.specs.Mode.{Mode}
use Rattle.escape_simd.specs.Output.{inner, plain, quote_of}
use Rattle.escape_simd.proofs.OutputLemmas.{IsUtf8-output}
use Rattle.escape_simd.proofs.Whole.{plain-parts}

-- a quotation mark, what stands for the text, and a quotation mark, in a row
in_row : (mode : Mode) (text q : List ℕ) → q ≡ quote_of mode → (q ++ inner mode text) ++ q ≡ plain mode text
in_row mode text q is = ap (λ xs. (xs ++ inner mode text) ++ xs) is ∙ sym (plain-parts mode text)

-- before what stands for the text, and behind it
pub room-quoted : (mode : Mode) (text q room old mark1 mark2 : List ℕ) (end k : ℕ) → q ≡ quote_of mode → mark1 ≡ q → mark2 ≡ q
    → take end room ≡ take (length q) (mark1 ++ old) ++ inner mode text → end ≤ length room
    → take (end + length q) (put_mid end k room mark2) ≡ plain mode text
room-quoted mode text q room old mark1 mark2 end k is opened closed written fits =
    let long = ap length closed in let short = ap length opened in
    take-put_mid end k room mark2 (end + length q) (omega (arith, long)) fits
    ∙ ap (λ xs. xs ++ mark2) (written ∙ ap (λ xs. xs ++ inner mode text) (take_at mark1 old (length q) short ∙ opened))
    ∙ ap (λ xs. (q ++ inner mode text) ++ xs) closed ∙ in_row mode text q is

-- at both ends of a slice that they fill with what stands for the text
pub ends-quoted : (mode : Mode) (text q dst mark1 inside mark2 : List ℕ) (last k : ℕ) → q ≡ quote_of mode → mark1 ≡ q → mark2 ≡ q → inside ≡ inner mode text
    → length dst ≡ length (plain mode text) → last ≡ length dst - length q
    → put_mid last (length (put_mid (length q) k (mark1 ++ drop (length q) dst) inside) - last) (put_mid (length q) k (mark1 ++ drop (length q) dst) inside) mark2 ≡ plain mode text
ends-quoted mode text q dst mark1 inside mark2 last k is opened closed between whole ends =
    let begun : List ℕ = mark1 ++ drop (length q) dst in let filled : List ℕ = put_mid (length q) k begun inside in
    let short = ap length opened in let all = ap length (in_row mode text q is) in
    let sum1 = length-append (q ++ inner mode text) q in let sum2 = length-append q (inner mode text) in let wide = ap length between in
    let front : take last filled ≡ q ++ inner mode text =
    take-put_mid (length q) k begun inside last (omega (arith, all, sum1, sum2, wide)) (omega (arith, short, length-append mark1 (drop (length q) dst)))
    ∙ ap (λ xs. xs ++ inside) (take_at mark1 (drop (length q) dst) (length q) short ∙ opened) ∙ ap (λ xs. q ++ xs) between in
    let none : post_of last (length filled - last) filled ≡ [] = drop_all (length filled - last) (drop last filled) (omega (arith, length-drop last filled)) in
    ap (λ xs. xs ++ (mark2 ++ post_of last (length filled - last) filled)) front
    ∙ ap (λ xs. (q ++ inner mode text) ++ (mark2 ++ xs)) none
    ∙ ap (λ xs. (q ++ inner mode text) ++ xs) (append-nil mark2 ∙ closed) ∙ in_row mode text q is

-- a text with the output for another appended, or as it was
pub IsUtf8-appended : {E : Type 0} (mode : Mode) (result : Result (Unit {0}) E) (text old new : List ℕ) → IsUtf8 text → IsUtf8 old
    → OnOk result (new ≡ old ++ plain mode text) → OnErr result (new ≡ old) → IsUtf8 new
IsUtf8-appended mode (Ok done) text old new value before exact same =
    subst IsUtf8 (sym exact) (IsUtf8-append old (plain mode text) before (IsUtf8-output mode text (plain mode text) value refl))
IsUtf8-appended mode (Err why) text old new value before exact same = subst IsUtf8 (sym same) before
