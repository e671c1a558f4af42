-- Many texts in one output.
use Rattle.std.specs.Prelude.{ℕ, List, [], ◌∷◌, ◌++◌}
use Rattle.std.specs.List.{join_by}

-- a JSON array (RFC 8259, section 5): a bracket, the values with a comma between each two, and a bracket
abbrev pub array_of : {X : Type 0} → (X → List ℕ) → List X → List ℕ
array_of f xs = 0x5b ∷ join_by f (0x2c ∷ []) xs ++ 0x5d ∷ []
