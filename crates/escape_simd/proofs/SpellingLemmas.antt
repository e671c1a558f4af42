-- Laws of texts that are spelled item by item.
use Rattle.escape_simd.proofs.Words.{◌≡◌, ◌≢◌, ◌==◌, ℕ, ◌<◌, ◌≤◌, ◌⊎◌, true, false, List, [], ◌∷◌, ◌++◌, map, flat_map, length, get_or, Option, Some, None, refl, sym, ap, ap₂, subst, ◌∙◌, length-append, arith, inl, inr, encode_utf8, All-from_recursion, all_scalars, IsScalar, and_parts, cases_Bool, ne_eqb, AllZip, concat, AllByRecursion, append_cancel_right, char_from_byte, encode_same, length-encode, len_utf8_bounds, Spells, Mode, needs_escape, replacement, inner, scalar, All, All-nil, All-append}
use Rattle.escape_simd.proofs.ReplacementLemmas.{IsBytewise, inner_clean, inner_needed}
use Rattle.std.proofs.lemmas.List.Concat.{concat_is}
use Rattle.std.proofs.lemmas.List.Folds.{flat_map-map}

-- what holds of each element of each piece holds of each that stands in the pieces
pub each_flat_map : (P : ℕ → Type 0) (f : ℕ → List ℕ) → ((b : ℕ) → AllByRecursion P (f b)) → (bytes : List ℕ) → All P (flat_map f bytes)
each_flat_map P f each [] = All-nil P
each_flat_map P f each (b ∷ bs) = All-append P (f b) (flat_map f bs) (All-from_recursion P (f b) (each b)) (each_flat_map P f each bs)

-- what stands for a character is its replacement where it needs an escape, and otherwise the character
pub piece_cases : (mode : Mode) → IsBytewise mode → (c : ℕ) (P : List ℕ → Type 0) → (needs_escape mode c ≡ true → P (replacement mode c))
    → (needs_escape mode c ≡ false → P (encode_utf8 c)) → P (inner mode (encode_utf8 c))
piece_cases mode bytewise c P needed clean =
    elim (cases_Bool (needs_escape mode c)) [
      | inl need ↦ subst P (sym (inner_needed mode bytewise c need)) (needed need)
      | inr none ↦ subst P (sym (inner_clean mode bytewise c none)) (clean none)
    ]

-- a character begins with no other character's byte below 128
pub not_begun : (c b : ℕ) (x : List ℕ) → b < 128 → c ≢ b → (get_or (encode_utf8 c ++ x) 0 0 == b) ≡ false
not_begun c b x low other = ne_eqb _ _ (λ same.
    other (char_from_byte (encode_utf8 c ++ x) x c refl (omega arith) (omega (arith, length-append (encode_utf8 c) x, length-encode c, (len_utf8_bounds c).0)) ∙ same))

-- each piece of a text is an item of its character
each_of : (Item : List ℕ → ℕ → Type 0) (f : ℕ → List ℕ) → ((c : ℕ) → IsScalar c → Item (f c) c) → (text : List ℕ) → all_scalars text ≡ true → AllZip Item (map f text) text
each_of Item f item [] h = tt
each_of Item f item (c ∷ cs) h = let parts = and_parts (scalar c) (all_scalars cs) h in (item c parts.0, each_of Item f item cs parts.1)

-- the pieces of a text, where each is an item of its character
pub Spells-flat_map : (Item : List ℕ → ℕ → Type 0) (f : ℕ → List ℕ) → ((c : ℕ) → IsScalar c → Item (f c) c) → (text : List ℕ) → all_scalars text ≡ true → Spells Item (flat_map f text) text
Spells-flat_map Item f item text h =
    record { items = map f text; each = each_of Item f item text h; joined = sym (concat_is (map f text) ∙ flat_map-map (λ x. x) f text) }

-- where no item is shorter than the piece, the pieces are shortest
pub pieces_le : (Item : List ℕ → ℕ → Type 0) (f : ℕ → List ℕ) → ((i : List ℕ) (c : ℕ) → Item i c → length (f c) ≤ length i)
    → (items : List (List ℕ)) (text : List ℕ) → AllZip Item items text → length (flat_map f text) ≤ length (concat items)
pieces_le Item f least [] [] h = omega arith
pieces_le Item f least (i ∷ is) (c ∷ cs) h = omega (arith, length-append {A = ℕ}, least i c h.0, pieces_le Item f least is cs h.1)
pieces_le Item f least is cs h = absurd h

-- A reader's first step tells the character of an item that isn't raw, and what comes after the item.
abbrev pub Tells : (List ℕ → ℕ → Type 0) → (List ℕ → Option ℕ × List ℕ) → Type 0
Tells Item read = (i x : List ℕ) (c : ℕ) → Item i c → ((i ≡ encode_utf8 c) × ((read (i ++ x)).0 ≡ None)) ⊎ (read (i ++ x) ≡ (Some c, x))

module _ (Item : List ℕ → ℕ → Type 0) (read : List ℕ → Option ℕ × List ℕ) (tells : Tells Item read) where
  -- no item begins another, and an item is of one character alone
  apart : (i j x y : List ℕ) (c d : ℕ) → Item i c → Item j d → i ++ x ≡ j ++ y → (c ≡ d) × (x ≡ y)
  apart i j x y c d p q same =
      grind (arith, tells i x c p, tells j y d q, encode_same)

  -- an item has a byte
  no_item : (i x : List ℕ) (c : ℕ) → (read []).0 ≡ None → Item i c → i ++ x ≢ []
  no_item i x c none p empty = grind (arith, tells i x c p, length-append i x, length-encode c, len_utf8_bounds c)

  -- so joined items are of one text at most
  same_text : (read []).0 ≡ None → (is js : List (List ℕ)) (t u : List ℕ) → AllZip Item is t → AllZip Item js u → concat is ≡ concat js → t ≡ u
  same_text none [] [] [] [] h k same = refl
  same_text none [] (j ∷ js) [] (d ∷ ds) h k same = absurd (no_item j (concat js) d none k.0 (sym same))
  same_text none (i ∷ is) [] (c ∷ cs) [] h k same = absurd (no_item i (concat is) c none h.0 same)
  same_text none (i ∷ is) (j ∷ js) (c ∷ cs) (d ∷ ds) h k same =
      let both = apart i j (concat is) (concat js) c d h.0 k.0 same in
      ap₂ (λ a b. a ∷ b) both.0 (same_text none is js cs ds h.1 k.1 both.1)
  same_text none is js t u h k same = grind arith

  -- one byte list spells one text at most
  pub Spells-one_text : (read []).0 ≡ None → (bytes t u : List ℕ) → Spells Item bytes t → Spells Item bytes u → t ≡ u
  Spells-one_text none bytes t u p q = same_text none p.items q.items t u p.each q.each (sym p.joined ∙ q.joined)

  -- What items of two kinds spell, and is no longer than the pieces, is the pieces: where no item of the one kind is shorter than the
  -- piece, and one of the other that is as long is the piece.
  pub only_pieces : (P Q : List ℕ → ℕ → Type 0) → ((i : List ℕ) (c : ℕ) → P i c → Item i c) → ((i : List ℕ) (c : ℕ) → Q i c → Item i c)
      → (f : ℕ → List ℕ) → ((i : List ℕ) (c : ℕ) → P i c → length (f c) ≤ length i) → ((i : List ℕ) (c : ℕ) → Q i c → length i ≡ length (f c) → i ≡ f c)
      → (is js : List (List ℕ)) (text : List ℕ) → AllZip P is text → AllZip Q js text → concat is ≡ concat js → length (concat is) ≤ length (flat_map f text) → concat is ≡ flat_map f text
  only_pieces P Q p q f least only [] [] [] h k also small = refl
  only_pieces P Q p q f least only (i ∷ is) (j ∷ js) (c ∷ cs) h k also small =
      let rest = (apart i j (concat is) (concat js) c c (p i c h.0) (q j c k.0) also).1 in
      let same : i ≡ j = append_cancel_right i j (concat js) (cc) in
      let sizes : (length i ≡ length (f c)) × (length (concat is) ≤ length (flat_map f cs)) = omega (arith, length-append {A = ℕ}, least i c h.0, pieces_le P f least is cs h.1) in
      cc (only_pieces P Q p q f least only is js cs h.1 k.1 rest sizes.1, only j c k.0 (sym (ap length same) ∙ sizes.0))
  only_pieces P Q p q f least only is js cs h k also small = grind arith
