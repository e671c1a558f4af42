-- The lines of bytes are their first line, and those of the bytes after it.
use Rattle.std.proofs.Common.{◌≡◌, ◌≢◌, ℕ, ◌<◌, Bool, true, false, cond, eqb, List, [], ◌∷◌, ◌++◌, All, length, refl, sym, subst, ap, ◌∙◌, arith, append-nil, ◌⊎◌, inl, inr, ne_eqb}
use Rattle.std.proofs.lemmas.List.Elements.{All-nil, All-cons}
use Rattle.std.proofs.lemmas.List.Splits.{slice_split_none, slice_split_at, length-slice_split}
use Rattle.std.proofs.lemmas.Bool.{cond-true, cond-false}
use Rattle.std.proofs.lemmas.Bool.Decides.{eqb_tells}
use Rattle.std.proofs.lemmas.Grind.{common_steps}
use Rattle.std.proofs.BufReadLemmas.{take_through-append, drop_through-append}
use Rattle.std.specs.Io.BufRead.{take_through, drop_through, first_line, strip_last, ends_with_byte}
use Rattle.std.specs.Str.Lines.{lines, lines_of_parts, strip_carriage_return}
use Rattle.std.specs.List.{slice_split}

abbrev is_newline : ℕ → Bool
is_newline b = eqb b 10

-- a line, its newline, and what follows
record IsCut (bytes : List ℕ) : Type 0 where
  pub line : List ℕ
  pub rest : List ℕ
  pub whole : bytes ≡ line ++ 10 ∷ rest
  pub none : All (λ b. b ≢ 10) line

cut_or_none : (bytes : List ℕ) → IsCut bytes ⊎ All (λ b. b ≢ 10) bytes
cut_or_none [] = inr (All-nil _)
cut_or_none (b ∷ bytes) =
    elim (eqb_tells b 10) [
      | inl is ↦ inl record { line = []; rest = bytes; whole = ap (λ x. x ∷ bytes) is.1; none = All-nil _ }
      | inr differs ↦ elim (cut_or_none bytes) [
        | inl cut ↦ inl record { line = b ∷ cut.line; rest = cut.rest; whole = ap (λ xs. b ∷ xs) cut.whole; none = All-cons (λ x. x ≢ 10) b cut.line differs.1 cut.none }
        | inr none ↦ inr (All-cons (λ x. x ≢ 10) b bytes differs.1 none)
      ]
    ]

-- a part before others is a line
part_first : (part : List ℕ) (parts : List (List ℕ)) → 0 < length parts → lines_of_parts (part ∷ parts) ≡ strip_carriage_return part ∷ lines_of_parts parts
part_first part [] some = absurd (omega arith)
part_first part (next ∷ more) some = refl

-- the last part is a line, unless it is empty
part_last : (part : List ℕ) → 0 < length part → lines_of_parts (part ∷ []) ≡ part ∷ []
part_last [] some = absurd (omega arith)
part_last (b ∷ bytes) some = cond-false (eqb (length (b ∷ bytes)) 0) _ _ (ne_eqb (length (b ∷ bytes)) 0 (λ e. omega arith))

ends_with_it : (byte : ℕ) (line : List ℕ) → ends_with_byte byte (line ++ byte ∷ []) ≡ true
ends_with_it byte line = grind (arith, common_steps)

last_stripped : (byte : ℕ) (line : List ℕ) → strip_last byte (line ++ byte ∷ []) ≡ line
last_stripped byte line = grind (arith, common_steps)

strip_return : (line : List ℕ) → strip_last 13 line ≡ strip_carriage_return line
strip_return [] = refl
strip_return (b ∷ bytes) = grind (arith, common_steps)

not_at_end : (line : List ℕ) → All (λ b. b ≢ 10) line → ends_with_byte 10 line ≡ false
not_at_end line none = grind (arith, common_steps)

none_false : (line : List ℕ) → All (λ b. b ≢ 10) line → All (λ b. is_newline b ≡ false) line
none_false line none = λ i d inside. ne_eqb _ 10 (none i d inside)

-- what a reader gives first, of what it takes for it
line_taken : List ℕ → List ℕ
line_taken taken = cond (ends_with_byte 10 taken) (strip_last 13 (strip_last 10 taken)) (strip_last 10 taken)

-- The lines of bytes are the one that a reader gives first, and those of what it then has left.
record IsFirstOf (bytes line rest : List ℕ) : Type 0 where
  pub all : lines bytes ≡ line ∷ lines rest
  pub first : first_line bytes ≡ line
  pub left : drop_through 10 bytes ≡ rest

first_of_cut : (line rest : List ℕ) → All (λ b. b ≢ 10) line → IsFirstOf (line ++ 10 ∷ rest) (strip_carriage_return line) rest
unfolding line_taken
first_of_cut line rest none = record {
  all = ap lines_of_parts (slice_split_at is_newline line 10 rest (none_false line none) refl)
      ∙ part_first line (slice_split is_newline rest) (omega (arith, length-slice_split is_newline rest));
  first = ap line_taken (take_through-append 10 line (10 ∷ rest) none)
      ∙ cond-true _ _ _ (ends_with_it 10 line) ∙ ap (strip_last 13) (last_stripped 10 line) ∙ strip_return line;
  left = drop_through-append 10 line (10 ∷ rest) none;
}

first_of_last : (line : List ℕ) → All (λ b. b ≢ 10) line → 0 < length line → IsFirstOf line line []
unfolding line_taken
first_of_last line none some =
    let at_end = not_at_end line none in record {
      all = ap lines_of_parts (slice_split_none is_newline line (none_false line none)) ∙ part_last line some;
      first = ap line_taken (ap (take_through 10) (sym (append-nil line)) ∙ take_through-append 10 line [] none ∙ append-nil line)
          ∙ cond-false _ _ _ at_end ∙ cond-false _ _ _ at_end;
      left = ap (drop_through 10) (sym (append-nil line)) ∙ drop_through-append 10 line [] none;
    }

step_of : (bytes line rest : List ℕ) → IsFirstOf bytes line rest → lines bytes ≡ first_line bytes ∷ lines (drop_through 10 bytes)
step_of bytes line rest is = is.all ∙ sym (ap (λ x. x ∷ lines rest) is.first) ∙ sym (ap (λ x. first_line bytes ∷ lines x) is.left)

pub lines_step : (bytes : List ℕ) → 0 < length bytes → lines bytes ≡ first_line bytes ∷ lines (drop_through 10 bytes)
lines_step bytes some =
    elim (cut_or_none bytes) [
      | inl cut ↦ subst (λ (xs : List ℕ). lines xs ≡ first_line xs ∷ lines (drop_through 10 xs)) (sym cut.whole) (step_of _ _ _ (first_of_cut cut.line cut.rest cut.none))
      | inr none ↦ step_of _ _ _ (first_of_last bytes none some)
    ]
