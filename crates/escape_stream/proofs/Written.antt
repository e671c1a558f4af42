-- An output that is written in parts: its pieces, and quotation marks around them.
use Rattle.std.proofs.Common.{◌≡◌, ℕ, ◌≤◌, List, [], ◌++◌, Option, IsUtf8, length, take, slice_range, refl, subst, sym, ap, ◌∙◌, append_assoc, append-nil, le_refl}
use Rattle.std.specs.Io.KnownBytes.{Appends}
use Rattle.std.specs.Str.{IsCharBoundary}
use Rattle.std.proofs.KnownBytes.{Appends-nil, Appends-trans}
use Rattle.std.proofs.lemmas.List.{take_all}
use Rattle.escape_lanes.specs.Mode.{Mode}
use Rattle.escape_simd.specs.Output.{inner, plain, quote_of}
use Rattle.escape_simd.proofs.Pieces.{inner-piece}
use Rattle.escape_simd.proofs.Whole.{plain-parts}
use Rattle.escape_stream.specs.Run.{AppendsFront}
use Rattle.escape_stream.proofs.Transfer.{beginning-after}

-- what was written for a text up to a place, and then of its next piece
module _ (mode : Mode) (text : List ℕ) (at next : ℕ) (a b c : Option (List ℕ)) (piece : List ℕ) (utf8 : IsUtf8 text) (here : IsCharBoundary text at) (cut : IsCharBoundary text next)
    (forward : at ≤ next) (is : piece ≡ inner mode (slice_range text at next)) (before : Appends a b (inner mode (take at text))) where
  -- the whole piece
  pub piece-appended : Appends b c piece → Appends a c (inner mode (take next text))
  piece-appended more =
      subst (Appends a c) (ap (λ l. inner mode (take at text) ++ l) is ∙ sym (inner-piece mode text at next utf8 here forward))
      (Appends-trans a b c (inner mode (take at text)) piece before more)

  -- a beginning of it
  pub piece-beginning : AppendsFront b c piece → AppendsFront a c (inner mode text)
  piece-beginning more =
      let rest = inner mode (slice_range text next (length text)) in
      let all : inner mode text ≡ inner mode (take at text) ++ (piece ++ rest) =
      ap (inner mode) (sym (take_all (length text) text (le_refl (length text))))
      ∙ inner-piece mode text next (length text) utf8 cut cut.0
      ∙ ap (λ l. l ++ rest) (inner-piece mode text at next utf8 here forward)
      ∙ append_assoc (inner mode (take at text)) (inner mode (slice_range text at next)) rest
      ∙ ap (λ l. inner mode (take at text) ++ (l ++ rest)) (sym is) in
      beginning-after a b c (inner mode (take at text)) piece rest (inner mode text) all before more

-- a beginning of the output for a text ends
module _ (mode : Mode) (text : List ℕ) (a b c : Option (List ℕ)) where
  parts : plain mode text ≡ quote_of mode ++ (inner mode text ++ quote_of mode)
  parts = plain-parts mode text ∙ append_assoc (quote_of mode) (inner mode text) (quote_of mode)

  -- in its first quotation mark
  pub ends-in_open : AppendsFront a c (quote_of mode) → AppendsFront a c (plain mode text)
  ends-in_open more = beginning-after a a c [] (quote_of mode) (inner mode text ++ quote_of mode) (plain mode text) parts (Appends-nil a) more

  -- between both
  pub ends-in_text : Appends a b (quote_of mode) → AppendsFront b c (inner mode text) → AppendsFront a c (plain mode text)
  ends-in_text before more = beginning-after a b c (quote_of mode) (inner mode text) (quote_of mode) (plain mode text) parts before more

  -- in its last one
  pub ends-in_close : Appends a b (quote_of mode ++ inner mode text) → AppendsFront b c (quote_of mode) → AppendsFront a c (plain mode text)
  ends-in_close before more =
      beginning-after a b c (quote_of mode ++ inner mode text) (quote_of mode) [] (plain mode text)
      (plain-parts mode text ∙ ap (λ l. (quote_of mode ++ inner mode text) ++ l) (sym (append-nil (quote_of mode)))) before more

-- it is whole
pub written-whole : (mode : Mode) (text : List ℕ) (a b c d : Option (List ℕ)) → Appends a b (quote_of mode) → Appends b c (inner mode text) → Appends c d (quote_of mode) → Appends a d (plain mode text)
written-whole mode text a b c d first second third =
    subst (Appends a d) (sym (plain-parts mode text))
    (Appends-trans a c d (quote_of mode ++ inner mode text) (quote_of mode) (Appends-trans a b c (quote_of mode) (inner mode text) first second) third)
