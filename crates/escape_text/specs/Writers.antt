-- What a write that failed leaves.
use Rattle.std.specs.Prelude.{◌≡◌, ℕ, Bool, true, false, List, ◌++◌, Option}
use Rattle.std.specs.Io.KnownBytes.{Appends}

-- A writer's bytes grew by a beginning of these bytes, perhaps by none or by all. Nothing is said of a writer that
-- does not tell its bytes.
pub record AppendsBeginning (held grown : Option (List ℕ)) (bytes : List ℕ) : Type 0 where
  pub written : List ℕ
  pub lost : List ℕ
  pub whole : bytes ≡ written ++ lost
  pub appended : Appends held grown written

-- They grew by all of these bytes after a write that succeeded, and else by a beginning of them.
abbrev pub AppendsAsFar : Option (List ℕ) → Bool → Option (List ℕ) → List ℕ → Type 0
AppendsAsFar held true grown bytes = Appends held grown bytes
AppendsAsFar held false grown bytes = AppendsBeginning held grown bytes
