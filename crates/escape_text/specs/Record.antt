-- JSON objects whose values are texts.
use Rattle.std.specs.Prelude.{ℕ, List, ◌∷◌, [], ◌++◌, length, max}
use Rattle.std.specs.Borrow.{Bor}
use Rattle.std.specs.List.{join_by}
use Rattle.escape_lanes.specs.Mode.{Mode}
use Rattle.escape_simd.specs.Output.{plain, bound}

abbrev pub Field : Type 0
Field = Bor (List ℕ) × Bor (List ℕ)

-- a member of an object (RFC 8259, section 4): a key, a colon, and a value
abbrev pub member_of : Mode → Field → List ℕ
member_of mode field = plain mode field.0.now ++ 0x3a ∷ plain mode field.1.now

-- the larger bound of its two texts
abbrev pub bound_of_member : Mode → Field → ℕ
bound_of_member mode field = max (bound mode (length field.0.now)) (bound mode (length field.1.now))

-- the object (RFC 8259, section 4): a brace, the members with a comma between each two, and a brace
abbrev pub object_of : Mode → List Field → List ℕ
object_of mode fields = 0x7b ∷ join_by (member_of mode) (0x2c ∷ []) fields ++ 0x7d ∷ []
