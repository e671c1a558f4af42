-- What a loop over a list has appended: `flat_map f` of the values so far, if each turn appends `f` of one. Under
-- `#[tactic(auto, using(escape_text::proofs::Many::many))]` such a loop needs its invariant, and no lemma.
use Rattle.std.proofs.Common.{◌≡◌, ℕ, ◌+◌, ◌<◌, false, List, [], ◌∷◌, ◌++◌, length, take, get_or, flat_map, zero, suc, add-one, Option, subst, sym, ap, ◌∙◌, append_assoc, append-nil, arith}
use Rattle.std.proofs.KnownBytes.{Appends-trans}
use Rattle.std.proofs.lemmas.Bool.Decides.{nat_tests}
use Rattle.std.proofs.lemmas.List.{take_more, flat_map_more}
use Rattle.std.specs.Io.KnownBytes.{Appends}
use Rattle.std.specs.List.{join_by}
use Rattle.std.specs.Prelude.{◌==◌, if◌then◌else◌}

module _ {X : Type 0} (f : X → List ℕ) (xs : List X) (i : ℕ) (d : X) (inside : i < length xs) where
  -- one value more
  one_more : flat_map f (take i xs) ++ f (get_or xs i d) ≡ flat_map f (take (i + 1) xs)
  one_more = flat_map_more f [] (take i xs) (get_or xs i d) ∙ ap (flat_map f) (sym (take_more xs i d inside))

  -- to a vector
  pub appended_more : (old now new : List ℕ) → now ≡ old ++ flat_map f (take i xs) → new ≡ now ++ f (get_or xs i d) → new ≡ old ++ flat_map f (take (i + 1) xs)
  appended_more old now new so_far more =
      more ∙ ap (λ bytes. bytes ++ f (get_or xs i d)) so_far ∙ append_assoc old (flat_map f (take i xs)) (f (get_or xs i d)) ∙ ap (λ bytes. old ++ bytes) one_more

  -- to a writer
  pub written_more : (old now new : Option (List ℕ)) → Appends old now (flat_map f (take i xs)) → Appends now new (f (get_or xs i d)) → Appends old new (flat_map f (take (i + 1) xs))
  written_more old now new so_far more = subst (Appends old new) one_more (Appends-trans old now new _ _ so_far more)

pub ruleset many = (appended_more, written_more)

-- the same with `sep` between each two
one_more_joined : {X : Type 0} (f : X → List ℕ) (sep : List ℕ) (xs : List X) (i : ℕ) (d : X) → i < length xs
    → join_by f sep (take i xs) ++ ((if i == 0 then [] else sep) ++ f (get_or xs i d)) ≡ join_by f sep (take (i + 1) xs)
one_more_joined f sep [] i d inside = absurd (omega arith)
one_more_joined f sep (x ∷ xs) zero d inside = sym (append-nil (f x))
one_more_joined {X} f sep (x ∷ xs) (suc i) d inside =
    let g : X → List ℕ = λ y. sep ++ f y in let more = rw add-one at (one_more g xs i d (omega arith)) in
    let after : (suc i == 0) ≡ false = grind (arith, nat_tests) in
    rw (after, add-one) (append_assoc (f x) (flat_map g (take i xs)) (g (get_or xs i d)) ∙ ap (λ bytes. f x ++ bytes) more)

pub joined_more : {X : Type 0} (f : X → List ℕ) (sep : List ℕ) (xs : List X) (i : ℕ) (x : X) (mark old now new : List ℕ) → i < length xs → x ≡ get_or xs i x
    → mark ≡ (if i == 0 then [] else sep) → now ≡ old ++ join_by f sep (take i xs) → new ≡ now ++ (mark ++ f x) → new ≡ old ++ join_by f sep (take (i + 1) xs)
joined_more f sep xs i x mark old now new inside is marked so_far more =
    more ∙ ap (λ bytes. bytes ++ (mark ++ f x)) so_far ∙ append_assoc old (join_by f sep (take i xs)) (mark ++ f x)
    ∙ ap (λ bytes. old ++ (join_by f sep (take i xs) ++ (bytes ++ f x))) marked ∙ ap (λ y. old ++ (join_by f sep (take i xs) ++ ((if i == 0 then [] else sep) ++ f y))) is
    ∙ ap (λ bytes. old ++ bytes) (one_more_joined f sep xs i x inside)
