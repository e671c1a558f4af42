-- What a writer's bytes grow by, write after write.
use Rattle.std.proofs.Common.{◌≡◌, ℕ, ◌+◌, List, ◌++◌, Option, Result, Ok, Err, OnOk, OnErr, take, drop, subst, sym, ap, ◌∙◌, take-add, take-append-drop, append_assoc}
use Rattle.std.specs.Io.KnownBytes.{Appends}
use Rattle.std.proofs.KnownBytes.{Appends-trans}
use Rattle.escape_text.specs.Writers.{AppendsBeginning}

-- the first of the bytes were written
pub beginning-taken : (a b : Option (List ℕ)) (bytes : List ℕ) (n : ℕ) → Appends a b (take n bytes) → AppendsBeginning a b bytes
beginning-taken a b bytes n appended = record { written = take n bytes; lost = drop n bytes; whole = sym (take-append-drop n bytes); appended = appended }

-- the write took the front of what was left
pub Appends-more : (a b c : Option (List ℕ)) (bytes : List ℕ) (f n : ℕ)
    → Appends a b (take f bytes) → Appends b c (take n (drop f bytes)) → Appends a c (take (f + n) bytes)
Appends-more a b c bytes f n before write =
    subst (Appends a c) (sym (take-add f n bytes)) (Appends-trans a b c (take f bytes) (take n (drop f bytes)) before write)

-- a beginning of the first piece
pub beginning-first : (a b : Option (List ℕ)) (all piece more : List ℕ) → piece ++ more ≡ all → AppendsBeginning a b piece → AppendsBeginning a b all
beginning-first a b all piece more same first =
    record {
      written = first.written;
      lost = first.lost ++ more;
      whole = sym same ∙ ap (λ xs. xs ++ more) first.whole ∙ append_assoc first.written first.lost more;
      appended = first.appended;
    }

-- what was written before, and a beginning of a piece
pub beginning-after : (a b c : Option (List ℕ)) (all done piece more : List ℕ) → done ++ (piece ++ more) ≡ all
    → Appends a b done → AppendsBeginning b c piece → AppendsBeginning a c all
beginning-after a b c all done piece more same before piece_written =
    let part = ap (λ xs. xs ++ more) piece_written.whole ∙ append_assoc piece_written.written piece_written.lost more in
    record {
      written = done ++ piece_written.written;
      lost = piece_written.lost ++ more;
      whole = sym same ∙ ap (λ xs. done ++ xs) part ∙ sym (append_assoc done piece_written.written (piece_written.lost ++ more));
      appended = Appends-trans a b c done piece_written.written before piece_written.appended;
    }

-- what holds anyway holds after success, and after an error
pub after_ok : {T E : Type 0} (r : Result T E) (P : Type 0) → P → OnOk r P
after_ok (Ok _) P p = p
after_ok (Err _) P p = tt

pub after_error : {T E : Type 0} (r : Result T E) (P : Type 0) → P → OnErr r P
after_error (Ok _) P p = tt
after_error (Err _) P p = p

-- what follows from what holds after an error
pub after_error-map : {T E : Type 0} (r : Result T E) (P Q : Type 0) → (P → Q) → OnErr r P → OnErr r Q
after_error-map (Ok _) P Q f p = tt
after_error-map (Err _) P Q f p = f p
