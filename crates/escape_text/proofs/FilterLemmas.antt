-- What a filter has written of the lines that it read, and what is left. A loop over `reader.lines(alloc)` that writes
-- `record line` for each line has the invariant `IsFiltered record`; its steps are `known_more`, `known_part` and `known_whole`.
use Rattle.std.proofs.Common.{◌≡◌, ℕ, ◌<◌, List, ◌++◌, length, flat_map, Option, None, Some, IfSome, sym, ap, ◌∙◌, subst, append_assoc, append-nil}
use Rattle.std.specs.Io.KnownBytes.{Appends, IsAtEnd, Keeps}
use Rattle.std.specs.Io.BufRead.{first_line, drop_through, DropsThrough}
use Rattle.std.specs.Str.Lines.{lines}
use Rattle.std.proofs.KnownBytes.{Appends-trans, Appends-kept}
use Rattle.escape_text.specs.Writers.{AppendsBeginning}
use Rattle.escape_text.proofs.WriterLemmas.{beginning-after}
use Rattle.escape_text.proofs.LineLemmas.{lines_step}

-- the line is the first of the known bytes
abbrev pub IsFirstLineOf : Option (List ℕ) → List ℕ → Type 0
IsFirstLineOf rest line = IfSome rest (λ xs. (0 < length xs) × (line ≡ first_line xs))

module _ (record_of : List ℕ → List ℕ) where
  -- the records of all lines
  abbrev pub records : List ℕ → List ℕ
  records bytes = flat_map record_of (lines bytes)

  -- the reader has `rest` left, and all records but its were written
  pub record IsFiltered (bytes : List ℕ) (rest held grown : Option (List ℕ)) : Type 0 where
    pub left : List ℕ
    pub known : rest ≡ Some left
    pub done : List ℕ
    pub appended : Appends held grown done
    pub whole : done ++ records left ≡ records bytes

  -- its record, and those of what follows
  records_step : (bytes line : List ℕ) → 0 < length bytes → line ≡ first_line bytes → record_of line ++ records (drop_through 10 bytes) ≡ records bytes
  records_step bytes line some first =
      ap (λ x. record_of x ++ records (drop_through 10 bytes)) first ∙ sym (ap (flat_map record_of) (lines_step bytes some))

  -- another record was written
  filtered_more : (bytes line : List ℕ) (rest after held grown more : Option (List ℕ)) → IsFiltered bytes rest held grown
      → IsFirstLineOf rest line → DropsThrough rest after 10 → Appends grown more (record_of line) → IsFiltered bytes after held more
  filtered_more bytes line rest after held grown more so_far first drops wrote =
      let left : List ℕ = so_far.left in
      let is = subst (λ r. IsFirstLineOf r line) so_far.known first in
      record {
        left = drop_through 10 left;
        known = subst (λ r. DropsThrough r after 10) so_far.known drops;
        done = so_far.done ++ record_of line;
        appended = Appends-trans held grown more so_far.done (record_of line) so_far.appended wrote;
        whole = append_assoc so_far.done (record_of line) (records (drop_through 10 left)) ∙ ap (λ xs. so_far.done ++ xs) (records_step left line is.0 is.1) ∙ so_far.whole;
      }

  -- a beginning of another record was written
  filtered_part : (bytes line : List ℕ) (rest held grown more : Option (List ℕ)) → IsFiltered bytes rest held grown
      → IsFirstLineOf rest line → AppendsBeginning grown more (record_of line) → AppendsBeginning held more (records bytes)
  filtered_part bytes line rest held grown more so_far first part =
      let left : List ℕ = so_far.left in
      let is = subst (λ r. IsFirstLineOf r line) so_far.known first in
      beginning-after held grown more (records bytes) so_far.done (record_of line) (records (drop_through 10 left))
      (ap (λ xs. so_far.done ++ xs) (records_step left line is.0 is.1) ∙ so_far.whole) so_far.appended part

  -- all was written
  filtered_whole : (bytes : List ℕ) (rest held grown : Option (List ℕ)) → IsFiltered bytes rest held grown → IsAtEnd rest → Appends held grown (records bytes)
  filtered_whole bytes rest held grown so_far at_end =
      let none = subst IsAtEnd so_far.known at_end in
      subst (Appends held grown) (sym (append-nil so_far.done) ∙ ap (λ xs. so_far.done ++ records xs) (sym none) ∙ so_far.whole) so_far.appended

  -- The same, where the reader's bytes are known.

  pub known_more : (known : Option (List ℕ)) (line : List ℕ) (rest after held grown more : Option (List ℕ)) → IfSome known (λ bytes. IsFiltered bytes rest held grown)
      → IsFirstLineOf rest line → DropsThrough rest after 10 → Appends grown more (record_of line) → IfSome known (λ bytes. IsFiltered bytes after held more)
  known_more None line rest after held grown more so_far first drops wrote = tt
  known_more (Some bytes) line rest after held grown more so_far first drops wrote = filtered_more bytes line rest after held grown more so_far first drops wrote

  pub known_part : (known : Option (List ℕ)) (line : List ℕ) (rest held grown more : Option (List ℕ)) → IfSome known (λ bytes. IsFiltered bytes rest held grown)
      → IsFirstLineOf rest line → AppendsBeginning grown more (record_of line) → IfSome known (λ bytes. AppendsBeginning held more (records bytes))
  known_part None line rest held grown more so_far first part = tt
  known_part (Some bytes) line rest held grown more so_far first part = filtered_part bytes line rest held grown more so_far first part

  pub known_whole : (known rest held grown flushed : Option (List ℕ)) → IfSome known (λ bytes. IsFiltered bytes rest held grown)
      → IsAtEnd rest → Keeps grown flushed → IfSome known (λ bytes. Appends held flushed (records bytes))
  known_whole None rest held grown flushed so_far at_end kept = tt
  known_whole (Some bytes) rest held grown flushed so_far at_end kept = Appends-kept held grown flushed (records bytes) (filtered_whole bytes rest held grown so_far at_end) kept
