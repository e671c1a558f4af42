-- What a target holds, and what has been written to it.
use Rattle.std.specs.Prelude.{◌≡◌, ℕ, ◌+◌, List, length}
use Rattle.std.proofs.Math.Seq.{paste}
use Rattle.std.specs.Borrow.{MutBor}
use Rattle.escape_lanes.specs.declared.simd.target.Target.{Target}

-- the bytes of the target
abbrev pub bytes_of : {N : ℕ} → Target N → List ℕ
bytes_of t = t.slice.now

-- how many vectors were stored, whole or the front of one
abbrev pub stored_of : {N : ℕ} → Target N → ℕ
stored_of t = t.stored.count

-- how many escapes were written
abbrev pub escaped_of : {N : ℕ} → Target N → ℕ
escaped_of t = t.escaped.count

-- how many quotes were written
abbrev pub quotes_of : {N : ℕ} → Target N → ℕ
quotes_of t = t.quotes.count

-- the target stands over this slice: what it holds when it ends is what the slice holds then
abbrev pub IsOver : {N : ℕ} → Target N → MutBor (List ℕ) → Type 0
IsOver t dst = t.slice.ghost_name ≡ dst.ghost_name

-- both stand over one slice, which keeps its length
pub record IsSameSlice {N : ℕ} (old new : Target N) : Type 0 where
  pub reference : new.slice.ghost_name ≡ old.slice.ghost_name
  pub len : length new.slice.now ≡ length old.slice.now

-- One write put the bytes at `at`: so many vectors were stored with it, and so many escapes and quotation marks written.
pub record Writes {N : ℕ} (vectors escapes marks : ℕ) (old new : Target N) (at : ℕ) (written : List ℕ) : Type 0 where
  pub same_slice : IsSameSlice old new
  pub bytes : bytes_of new ≡ paste (bytes_of old) at written (length written)
  pub stored : stored_of new ≡ stored_of old + vectors
  pub escaped : escaped_of new ≡ escaped_of old + escapes
  pub quotes : quotes_of new ≡ quotes_of old + marks
