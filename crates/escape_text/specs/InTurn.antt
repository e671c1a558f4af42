-- Writes to a formatter and to a writer, one after the other.
use Rattle.std.specs.Prelude.{ℕ, Bool, true, false, List, [], ◌∷◌, ◌++◌, Option, IsTrue, refl}
use Rattle.std.specs.Fmt.{IsPlainFormatter, HasWritten, WritesInCalls}
use Rattle.std.specs.List.{FoldsTo, concat}
use Rattle.std.specs.Io.KnownBytes.{Appends}
use Rattle.std.proofs.Common.{sym, subst, ap, ◌∙◌, append_assoc, true≢false}
use Rattle.std.proofs.KnownBytes.{Appends-nil, Appends-trans}
use Rattle.std.proofs.lemmas.List.Folds.{concat-append}
use Rattle.escape_text.specs.Sinks.{AreInTurn}
use Rattle.escape_text.specs.Writers.{AppendsAsFar}

module _ {W : Type 0} (took : W → List ℕ → W → Type 0) where
  -- some steps, and then others
  steps-more : (a b c : W) (xs ys : List (List ℕ)) → FoldsTo took a xs b → FoldsTo took b ys c → FoldsTo took a (xs ++ ys) c
  steps-more a b c [] ys before after = subst (λ w. FoldsTo took w ys c) (sym before) after
  steps-more a b c (x ∷ xs) ys before after = (before.0, before.1, steps-more before.0 b c xs ys before.2 after)

  calls-more : (a b c : W) (xs ys : List ℕ) → WritesInCalls took a xs b → WritesInCalls took b ys c → WritesInCalls took a (xs ++ ys) c
  calls-more a b c xs ys before after = record {
    parts = before.parts ++ after.parts;
    calls = steps-more a b c before.parts after.parts before.calls after.calls;
    whole = concat-append before.parts after.parts ∙ ap (λ l. l ++ concat after.parts) before.whole ∙ ap (λ l. xs ++ l) after.whole;
  }

  -- writes to a formatter
  pub formatter-in_turn : AreInTurn (λ f ok bytes g. IsPlainFormatter f → IsTrue ok → HasWritten took f bytes g)
  formatter-in_turn = record {
    none = λ f plain told. record { wrote = record { parts = []; calls = refl; whole = refl }; plain = plain };
    more = λ a b c ok xs ys before after plain told.
        let first = before plain refl in let second = after first.plain told in
        record { wrote = calls-more a.writer b.writer c.writer xs ys first.wrote second.wrote; plain = second.plain };
    stopped = λ a b xs ys before plain told. absurd (true≢false (sym told));
  }

-- what was written before, and what a write wrote
as_far-more : (a b c : Option (List ℕ)) (ok : Bool) (xs ys : List ℕ) → Appends a b xs → AppendsAsFar b ok c ys → AppendsAsFar a ok c (xs ++ ys)
as_far-more a b c true xs ys before after = Appends-trans a b c xs ys before after
as_far-more a b c false xs ys before after = record {
  written = xs ++ after.written;
  lost = after.lost;
  whole = ap (λ l. xs ++ l) after.whole ∙ sym (append_assoc xs after.written after.lost);
  appended = Appends-trans a b c xs after.written before after.appended;
}

-- writes to a writer
pub writer-in_turn : {W : Type 0} (contents : W → Option (List ℕ)) → AreInTurn (λ old ok bytes new. AppendsAsFar (contents old) ok (contents new) bytes)
writer-in_turn contents = record {
  none = λ a. Appends-nil (contents a);
  more = λ a b c ok xs ys before after. as_far-more (contents a) (contents b) (contents c) ok xs ys before after;
  stopped = λ a b xs ys before. record {
    written = before.written;
    lost = before.lost ++ ys;
    whole = ap (λ l. l ++ ys) before.whole ∙ append_assoc before.written before.lost ys;
    appended = before.appended;
  };
}
