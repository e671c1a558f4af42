-- An output that is written to a sink part by part.
use Rattle.std.proofs.Common.{◌≡◌, ℕ, Bool, true, false, List, [], ◌∷◌, ◌++◌, length, IsUtf8, subst, sym, ap, ◌∙◌, refl, append-nil, append_assoc, arith}
use Rattle.escape_lanes.specs.Mode.{Mode}
use Rattle.escape_simd.specs.Output.{inner, plain, quote_of}
use Rattle.escape_simd.proofs.OutputLemmas.{inner-append}
use Rattle.escape_simd.proofs.Pieces.{cut-text}
use Rattle.escape_simd.proofs.ReplacementLemmas.{inner-nil}
use Rattle.escape_simd.proofs.Whole.{plain-parts}
use Rattle.escape_text.specs.Sinks.{AreInTurn}

-- What stands for the text up to the rest was written, and that of the rest is left.
pub record WritesSoFar {D : Type 0} (sends : D → Bool → List ℕ → D → Type 0) (mode : Mode) (old new : D) (text rest : List ℕ) : Type 0 where
  pub done : List ℕ
  pub sent : sends old true done new
  pub left : done ++ inner mode rest ≡ inner mode text

-- a part of a text, and what is left of it
pub parts : (mode : Mode) (text part rest : List ℕ) → text ≡ part ++ rest → IsUtf8 part → inner mode text ≡ inner mode part ++ inner mode rest
parts mode text part rest same utf8 = inner-append mode text part rest same (cut-text mode part utf8)

pub no_bytes : (bytes : List ℕ) → length bytes ≡ 0 → bytes ≡ []
no_bytes [] none = refl
no_bytes (x ∷ bytes) none = absurd (omega arith)

module _ {D : Type 0} {sends : D → Bool → List ℕ → D → Type 0} (laws : AreInTurn sends) (mode : Mode) where
  pub begin : (a : D) (text : List ℕ) → WritesSoFar sends mode a a text text
  begin a text = record { done = []; sent = laws.none a; left = refl }

  module _ (a b c : D) (text rest part behind : List ℕ) (so_far : WritesSoFar sends mode a b text rest) (same : rest ≡ part ++ behind) (utf8 : IsUtf8 part) where
    regrouped : (so_far.done ++ inner mode part) ++ inner mode behind ≡ inner mode text
    regrouped = append_assoc so_far.done (inner mode part) (inner mode behind) ∙ ap (λ xs. so_far.done ++ xs) (sym (parts mode rest part behind same utf8)) ∙ so_far.left

    pub further : sends b true (inner mode part) c → WritesSoFar sends mode a c text behind
    further sent = record {
      done = so_far.done ++ inner mode part;
      sent = laws.more a b c true so_far.done (inner mode part) so_far.sent sent;
      left = regrouped;
    }

    -- the part was not written whole
    pub broken_off : sends b false (inner mode part) c → sends a false (inner mode text) c
    broken_off sent =
        subst (λ xs. sends a false xs c) regrouped
        (laws.stopped a c (so_far.done ++ inner mode part) (inner mode behind) (laws.more a b c false so_far.done (inner mode part) so_far.sent sent))

  -- nothing is left
  pub finished : (a b : D) (text rest : List ℕ) → WritesSoFar sends mode a b text rest → rest ≡ [] → sends a true (inner mode text) b
  finished a b text rest so_far none =
      subst (λ xs. sends a true xs b) (sym (append-nil so_far.done) ∙ ap (λ xs. so_far.done ++ xs) (sym (ap (inner mode) none ∙ inner-nil mode)) ∙ so_far.left) so_far.sent

  -- a quotation mark, what stands for the text, and a quotation mark
  whole : (text : List ℕ) → quote_of mode ++ (inner mode text ++ quote_of mode) ≡ plain mode text
  whole text = sym (plain-parts mode text ∙ append_assoc (quote_of mode) (inner mode text) (quote_of mode))

  pub quoted : (a b c d : D) (ok : Bool) (text : List ℕ) → sends a true (quote_of mode) b → sends b true (inner mode text) c → sends c ok (quote_of mode) d → sends a ok (plain mode text) d
  quoted a b c d ok text first second third =
      subst (λ xs. sends a ok xs d) (whole text) (laws.more a b d ok _ _ first (laws.more b c d ok _ _ second third))

  pub stopped_first : (a b : D) (text : List ℕ) → sends a false (quote_of mode) b → sends a false (plain mode text) b
  stopped_first a b text first = subst (λ xs. sends a false xs b) (whole text) (laws.stopped a b _ _ first)

  pub stopped_inside : (a b c : D) (text : List ℕ) → sends a true (quote_of mode) b → sends b false (inner mode text) c → sends a false (plain mode text) c
  stopped_inside a b c text first second = subst (λ xs. sends a false xs c) (whole text) (laws.more a b c false _ _ first (laws.stopped b c _ _ second))
