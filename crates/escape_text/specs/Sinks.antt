-- What writes do one after the other.
use Rattle.std.specs.Prelude.{ℕ, Bool, true, false, List, [], ◌++◌}

-- Writes that succeed do together what one write of all their bytes does, and so do they and one that fails after them, whatever was to
-- follow it. A write of no bytes does nothing.
pub record AreInTurn {D : Type 0} (sends : D → Bool → List ℕ → D → Type 0) : Type 0 where
  pub none : (a : D) → sends a true [] a
  pub more : (a b c : D) (ok : Bool) (xs ys : List ℕ) → sends a true xs b → sends b ok ys c → sends a ok (xs ++ ys) c
  pub stopped : (a b : D) (xs ys : List ℕ) → sends a false xs b → sends a false (xs ++ ys) b
