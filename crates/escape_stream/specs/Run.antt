-- What a run reads and writes, where the bytes that a reader has left and a writer holds are known.
use Rattle.std.specs.Prelude.{ℕ, List, Option, take, IsUtf8}
use Rattle.std.specs.Io.KnownBytes.{Appends, Consumes, IsAtEnd}
use Rattle.escape_lanes.specs.Mode.{Mode}
use Rattle.escape_simd.specs.Output.{plain}

-- a reader gave these bytes, and is at its end
pub record IsReadWhole (unread rest : Option (List ℕ)) (bytes : List ℕ) : Type 0 where
  pub given : Consumes unread rest bytes
  pub at_end : IsAtEnd rest

-- a reader gave all that it had, and the fact holds of these bytes
pub record WholeInput (unread rest : Option (List ℕ)) (P : List ℕ → Type 0) : Type 0 where
  pub bytes : List ℕ
  pub read : IsReadWhole unread rest bytes
  pub fact : P bytes

-- a writer's bytes grew by the first `count` of these bytes
pub record AppendsFront (held grown : Option (List ℕ)) (bytes : List ℕ) : Type 0 where
  pub count : ℕ
  pub appended : Appends held grown (take count bytes)

-- the bytes are text, and a writer's bytes grew by its whole escaping
pub record AppendsEscaped (mode : Mode) (held grown : Option (List ℕ)) (bytes : List ℕ) : Type 0 where
  pub is_text : IsUtf8 bytes
  pub appended : Appends held grown (plain mode bytes)

-- the bytes are text, and a writer's bytes grew by a beginning of its escaping
pub record AppendsEscapedBeginning (mode : Mode) (held grown : Option (List ℕ)) (bytes : List ℕ) : Type 0 where
  pub is_text : IsUtf8 bytes
  pub beginning : AppendsFront held grown (plain mode bytes)
