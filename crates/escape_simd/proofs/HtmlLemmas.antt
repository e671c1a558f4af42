-- Laws of HTML texts: the output reads as the text, holds no markup, and is the only one that does.
use Rattle.escape_simd.proofs.Words.{Option, Some, None, drop, ap₂, ◌≡◌, ◌≢◌, ℕ, true, false, ◌==◌, cond, List, [], ◌∷◌, ◌++◌, length, get_or, flat_map, encode_utf8, encode_utf8_all, refl, sym, ◌∙◌, arith, inl, inr, IsScalar, all_scalars, AllByRecursion, AllZip, concat, nat_tests, recursion_from_All, encode_ascii, html, replacement, needs_escape, inner, plain, IsHtmlItem, entity_of, entity, HtmlReads, is_markup, IsMarkupFree, IsOnlyHtml, AmpersandsBeginEntities, take-append_seam, drop-append_seam, All-take, All-drop}
use Rattle.escape_simd.specs.Html.{raw}
use Rattle.escape_simd.proofs.SpellingLemmas.{each_flat_map, piece_cases, not_begun, Tells, Spells-flat_map, Spells-one_text}
use Rattle.escape_simd.proofs.ReplacementLemmas.{inner_needed, inner-pieces, needs_escape_low}

-- what stands for a character
abbrev piece : ℕ → List ℕ
piece c = inner html (encode_utf8 c)

-- a character that has an entity needs an escape, and the entity is what is written for it
pub entity_is : (c : ℕ) (i : List ℕ) → entity_of c ≡ Some i → (needs_escape html c ≡ true) × (i ≡ replacement html c)
unfolding entity_of replacement
entity_is c i e = grind (arith, nat_tests)

-- a character that needs an escape has an entity, which is what is written for it
entity_of_needed : (c : ℕ) → needs_escape html c ≡ true → entity_of c ≡ Some (replacement html c)
unfolding entity_of replacement
entity_of_needed c need = grind (arith, nat_tests)

-- what stands for a character reads as it
piece_item : (c : ℕ) → IsScalar c → IsHtmlItem (piece c) c
piece_item c scalar = piece_cases html tt c (λ p. IsHtmlItem p c) (λ need. entity (entity_of_needed c need)) (λ clean. raw scalar (grind (arith, nat_tests)))

-- the output holds no markup
pub html_is_markup_free : (bytes : List ℕ) → IsMarkupFree (plain html bytes)
unfolding replacement
html_is_markup_free bytes = each_flat_map (λ x. is_markup x ≡ false) (replacement html) (λ b. grind (arith, nat_tests)) bytes

-- an item without markup is what stands for the character
markup_free_item : (i : List ℕ) (c : ℕ) → IsHtmlItem i c → AllByRecursion (λ x. is_markup x ≡ false) i → i ≡ piece c
markup_free_item i c (entity e) free = let h = entity_is c i e in h.1 ∙ sym (inner_needed html tt c h.0)
markup_free_item i c (raw scalar other) free =
    piece_cases html tt c (λ p. encode_utf8 c ≡ p) (λ need. grind (arith, nat_tests, encode_ascii, needs_escape_low, free)) (λ clean. refl)

-- what reads as characters and holds no markup is what stands for them
only_pieces : (items : List (List ℕ)) (text : List ℕ) → AllZip IsHtmlItem items text → IsMarkupFree (concat items) → concat items ≡ flat_map piece text
only_pieces [] [] h free = refl
only_pieces (i ∷ is) (c ∷ cs) h free =
    let free_item = rw take-append_seam at (All-take (λ x. is_markup x ≡ false) (length i) (i ++ concat is) free) in
    let free_rest = rw drop-append_seam at (All-drop (λ x. is_markup x ≡ false) (length i) (i ++ concat is) free) in
    ap₂ (λ a b. a ++ b) (markup_free_item i c h.0 (recursion_from_All (λ x. is_markup x ≡ false) i free_item)) (only_pieces is cs h.1 free_rest)
only_pieces is cs h free = absurd h

-- the character of the entity that begins the bytes, if one does, and what comes after it
read : List ℕ → Option ℕ × List ℕ
read bytes =
    let letter = get_or bytes 1 0 in
    let c = cond (letter == 113) 0x22 (cond (letter == 97) 0x26 (cond (letter == 108) 0x3c (cond (letter == 103) 0x3e (cond (get_or bytes 4 0 == 55) 0x27 0x2f)))) in
    cond (get_or bytes 0 0 == 0x26) (Some c, drop (length (replacement html c)) bytes) (None, bytes)

-- it tells the character of each entity
tells : Tells IsHtmlItem read
unfolding read replacement
tells i x c (raw _ other) = inl (refl, rw (not_begun c 0x26 x (omega arith) other))
tells i x c (entity e) =
    inr (grind (arith, nat_tests, entity_is c i e))

-- the output for the bytes of a text
pub IsOnlyHtml-plain : (text : List ℕ) → all_scalars text ≡ true → IsOnlyHtml (plain html (encode_utf8_all text)) text
unfolding read
IsOnlyHtml-plain text scalars =
    let pieces = inner-pieces html text in
    let reads : HtmlReads (plain html (encode_utf8_all text)) text = rw pieces (Spells-flat_map IsHtmlItem piece piece_item text scalars) in
    record {
      reads = reads;
      markup_free = html_is_markup_free (encode_utf8_all text);
      only = λ other spelled free. spelled.joined ∙ only_pieces spelled.items text spelled.each (rw spelled.joined at free) ∙ sym pieces;
      one_text = λ other spelled. Spells-one_text IsHtmlItem read tells refl (plain html (encode_utf8_all text)) other text spelled reads;
    }

-- Ampersands

-- bytes without an ampersand before others
past_letters : (letters tail : List ℕ) → AllByRecursion (λ b. b ≢ 0x26) letters → AmpersandsBeginEntities tail → AmpersandsBeginEntities (letters ++ tail)
past_letters [] tail h begins front rest e = begins front rest e
past_letters (x ∷ xs) tail h begins [] rest e = absurd (h.0 (cc))
past_letters (x ∷ xs) tail h begins (f ∷ fs) rest e = past_letters xs tail h.1 begins fs rest (cc)

-- what stands for a byte has an ampersand only as the first byte of an entity
letters_of : (b : ℕ) → (replacement html b ≡ get_or (replacement html b) 0 0 ∷ drop 1 (replacement html b)) × AllByRecursion (λ x. x ≢ 0x26) (drop 1 (replacement html b))
    × (get_or (replacement html b) 0 0 ≡ 0x26 → entity_of b ≡ Some (replacement html b))
unfolding replacement entity_of
letters_of b = grind (arith, nat_tests)

-- such bytes before others
past_first : (b x : ℕ) (bytes letters tail : List ℕ) → bytes ≡ x ∷ letters → AllByRecursion (λ y. y ≢ 0x26) letters → (x ≡ 0x26 → entity_of b ≡ Some bytes)
    → AmpersandsBeginEntities tail → AmpersandsBeginEntities (bytes ++ tail)
past_first b x bytes letters tail is h whole begins [] rest e = (b, bytes, tail, whole (cc), sym e)
past_first b x bytes letters tail is h whole begins (f ∷ fs) rest e = past_letters letters tail h begins fs rest (cc)

-- each ampersand of the output begins an entity
pub html_ampersands_begin_entities : (bytes : List ℕ) → AmpersandsBeginEntities (plain html bytes)
html_ampersands_begin_entities [] [] rest e = absurd (cc)
html_ampersands_begin_entities [] (f ∷ fs) rest e = absurd (cc)
html_ampersands_begin_entities (b ∷ bs) front rest e = let l = letters_of b in past_first b _ _ _ (plain html bs) l.0 l.1 l.2 (html_ampersands_begin_entities bs) front rest e
