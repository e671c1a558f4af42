-- A read or a write after a front that was read or written before.
use Rattle.std.proofs.Common.{◌≡◌, ℕ, ◌+◌, List, ◌++◌, Option, length, take, drop, refl, subst, sym, ap, ◌∙◌, take-add, append_assoc, take-append-drop, le_refl}
use Rattle.std.proofs.lemmas.List.{take_at, take_all}
use Rattle.std.specs.Io.KnownBytes.{Appends, Consumes, Keeps}
use Rattle.std.proofs.KnownBytes.{Appends-trans, Appends-kept, Consumes-trans}
use Rattle.escape_stream.specs.Run.{AppendsFront}

-- the front stayed, and the read filled what stands after it
pub Consumes-more : (a b c : Option (List ℕ)) (xs ys : List ℕ) (f n : ℕ) → take f ys ≡ take f xs
    → Consumes a b (take f xs) → Consumes b c (take n (drop f ys)) → Consumes a c (take (f + n) ys)
Consumes-more a b c xs ys f n front before read =
    subst (Consumes a c) (ap (λ l. l ++ take n (drop f ys)) (sym front) ∙ sym (take-add f n ys))
    (Consumes-trans a b c (take f xs) (take n (drop f ys)) before read)

-- the write took the front of what was left
pub Appends-more : (a b c : Option (List ℕ)) (xs : List ℕ) (f n : ℕ)
    → Appends a b (take f xs) → Appends b c (take n (drop f xs)) → Appends a c (take (f + n) xs)
Appends-more a b c xs f n before write =
    subst (Appends a c) (sym (take-add f n xs)) (Appends-trans a b c (take f xs) (take n (drop f xs)) before write)

-- bytes were written, and then a beginning of the next ones: a beginning of all of them
pub beginning-after : (a b c : Option (List ℕ)) (xs ys zs all : List ℕ) → all ≡ xs ++ (ys ++ zs) → Appends a b xs → AppendsFront b c ys → AppendsFront a c all
beginning-after a b c xs ys zs all is before more =
    let front = take more.count ys in
    let rest = drop more.count ys ++ zs in
    let cut : all ≡ (xs ++ front) ++ rest =
    is
    ∙ ap (λ l. xs ++ (l ++ zs)) (sym (take-append-drop more.count ys))
    ∙ ap (λ l. xs ++ l) (append_assoc front (drop more.count ys) zs)
    ∙ sym (append_assoc xs front rest) in
    record {
      count = length (xs ++ front);
      appended = subst (Appends a c) (sym (ap (take (length (xs ++ front))) cut ∙ take_at (xs ++ front) rest (length (xs ++ front)) refl)) (Appends-trans a b c xs front before more.appended);
    }

-- all of them
pub beginning-all : (a b c : Option (List ℕ)) (xs : List ℕ) → Appends a b xs → Keeps b c → AppendsFront a c xs
beginning-all a b c xs written kept = record {
  count = length xs;
  appended = subst (Appends a c) (sym (take_all (length xs) xs (le_refl (length xs)))) (Appends-kept a b c xs written kept);
}
