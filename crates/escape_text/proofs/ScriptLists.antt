-- Arrays of script literals are safe in a script element, as their parts are.
use Rattle.std.proofs.Common.{◌≡◌, ◌≢◌, ℕ, ◌<◌, ◌≤◌, List, [], ◌∷◌, ◌++◌, Bor, length, length-append, flat_map, slice_index_or, arith, ap}
use Rattle.std.specs.List.{join_by}
use Rattle.std.proofs.lemmas.List.Elements.{All-nil, All-cons, All-append}
use Rattle.escape_lanes.specs.Mode.{script}
use Rattle.escape_simd.specs.Output.{plain}
use Rattle.escape_simd.specs.Script.{IsSafeInScript}
use Rattle.escape_simd.proofs.PlainLaws.{script_is_safe}
use Rattle.escape_text.specs.Lists.{array_of}

-- no `<`, no `>` and no `&`
abbrev IsNoMarkup : ℕ → Type 0
IsNoMarkup b = (b ≢ 0x3c) × (b ≢ 0x3e) × (b ≢ 0x26)

-- bytes that are safe behind any others: the first is no further byte of a character
record IsSafePart (bytes : List ℕ) : Type 0 where
  pub first : slice_index_or bytes 0 0 < 0x80
  pub safe : IsSafeInScript bytes

-- a separator in joined parts would stand in one of them
no_separator : (m : ℕ) (a b front rest : List ℕ) → 0x80 ≤ m → slice_index_or b 0 0 < 0x80
    → ((f r : List ℕ) → a ≢ f ++ 0xe2 ∷ 0x80 ∷ m ∷ r) → ((f r : List ℕ) → b ≢ f ++ 0xe2 ∷ 0x80 ∷ m ∷ r)
    → a ++ b ≢ front ++ 0xe2 ∷ 0x80 ∷ m ∷ rest
no_separator m [] b front rest high low first second is = second front rest is
no_separator m (x ∷ a) b (f ∷ front) rest high low first second is =
    no_separator m a b front rest high low (λ g r e. first (x ∷ g) r (ap (λ xs. x ∷ xs) e)) second (cc)
no_separator m (x ∷ []) b [] rest high low first second is =
    let e : b ≡ 0x80 ∷ m ∷ rest = cc in omega (arith, ap (λ xs. slice_index_or xs 0 0) e)
no_separator m (x ∷ y ∷ []) b [] rest high low first second is =
    let e : b ≡ m ∷ rest = cc in omega (arith, ap (λ xs. slice_index_or xs 0 0) e)
no_separator m (x ∷ y ∷ z ∷ a) b [] rest high low first second is = first [] a (cc)

joined : (a b : List ℕ) → IsSafePart a → IsSafePart b → IsSafePart (a ++ b)
joined [] b first second = second
joined (x ∷ a) b first second = record {
  first = first.first;
  safe = record {
    no_markup = All-append IsNoMarkup (x ∷ a) b first.safe.no_markup second.safe.no_markup;
    no_line_separator = λ front rest. no_separator 0xa8 (x ∷ a) b front rest (omega arith) second.first first.safe.no_line_separator second.safe.no_line_separator;
    no_paragraph_separator = λ front rest. no_separator 0xa9 (x ∷ a) b front rest (omega arith) second.first first.safe.no_paragraph_separator second.safe.no_paragraph_separator;
  };
}

-- a list shorter than a separator has none
too_short : (m : ℕ) (a front rest : List ℕ) → length a ≤ 1 → a ≢ front ++ 0xe2 ∷ 0x80 ∷ m ∷ rest
too_short m a front rest short is = omega (arith, simp length-append at (ap length is))

nothing : IsSafePart []
nothing = record {
  first = omega arith;
  safe = record {
    no_markup = All-nil IsNoMarkup;
    no_line_separator = λ front rest. too_short 0xa8 [] front rest (omega arith);
    no_paragraph_separator = λ front rest. too_short 0xa9 [] front rest (omega arith);
  };
}

-- a bracket or a comma
mark : (b : ℕ) → b < 0x80 → b ≢ 0x3c → b ≢ 0x3e → b ≢ 0x26 → IsSafePart (b ∷ [])
mark b low less greater ampersand = record {
  first = low;
  safe = record {
    no_markup = All-cons IsNoMarkup b [] (less, greater, ampersand) (All-nil IsNoMarkup);
    no_line_separator = λ front rest. too_short 0xa8 (b ∷ []) front rest (omega arith);
    no_paragraph_separator = λ front rest. too_short 0xa9 (b ∷ []) front rest (omega arith);
  };
}

literal : (text : List ℕ) → IsSafePart (plain script text)
literal text = record { first = omega arith; safe = script_is_safe text }

comma : IsSafePart (0x2c ∷ [])
comma = mark 0x2c (omega arith) (λ e. omega arith) (λ e. omega arith) (λ e. omega arith)

-- the literals after the first
more : (values : List (Bor (List ℕ))) → IsSafePart (flat_map (λ v. 0x2c ∷ [] ++ plain script v.now) values)
more [] = nothing
more (v ∷ values) = joined _ _ (joined (0x2c ∷ []) (plain script v.now) comma (literal v.now)) (more values)

all : (values : List (Bor (List ℕ))) → IsSafePart (join_by (λ v. plain script v.now) (0x2c ∷ []) values)
all [] = nothing
all (v ∷ values) = joined (plain script v.now) _ (literal v.now) (more values)

pub array_is_safe : (values : List (Bor (List ℕ))) → IsSafeInScript (array_of (λ v. plain script v.now) values)
array_is_safe values =
    let begin = mark 0x5b (omega arith) (λ e. omega arith) (λ e. omega arith) (λ e. omega arith) in
    let end = mark 0x5d (omega arith) (λ e. omega arith) (λ e. omega arith) (λ e. omega arith) in
    (joined (0x5b ∷ []) _ begin (joined _ (0x5d ∷ []) (all values) end)).safe
