-- Laws of JSON literals.
use Rattle.escape_simd.proofs.Words.{◌≡◌, ◌≢◌, ℕ, ◌+◌, ◌-◌, ◌*◌, ◌/◌, ◌%◌, ◌<◌, ◌≤◌, ◌⊎◌, ◌==◌, cond, true, List, [], ◌∷◌, length, drop, get_or, length-append, flat_map, encode_utf8, encode_utf8_all, Option, Some, None, refl, sym, ap, subst, ◌∙◌, arith, inl, inr, le_antisymm, IsScalar, digit_value, digit_char, all_scalars, cases_lt, ne_eqb, nat_tests, append_cancel_right, length-encode, len_utf8_bounds, len_utf8_ascii, digit_value-digit_char, Mode, json, replacement, needs_escape, control_escape, inner, plain, quoted, IsJsonItem, raw, short, hex, pair, IsHexForm, digits, IsHexDigit, short_escape, IsLiteral, JsonDenotes, IsNotUpper, HasLowerDigits, IsLowerItem, IsLower, IsOnlyJson, Spells}
use Rattle.escape_simd.proofs.SpellingLemmas.{piece_cases, not_begun, Spells-flat_map, Spells-one_text, pieces_le, Tells, only_pieces}
use Rattle.escape_simd.proofs.ReplacementLemmas.{inner_clean, inner-pieces, hex_escape, length-replacement}

-- what stands for a character
abbrev piece : ℕ → List ℕ
piece c = inner json (encode_utf8 c)

-- the seven characters that are written short, and the others that need an escape
pub needed_cases : (c : ℕ) → needs_escape json c ≡ true → (P : ℕ → Type 0) → P 0x08 → P 0x09 → P 0x0a → P 0x0c → P 0x0d → P 0x22 → P 0x5c
    → (c < 32 → replacement json c ≡ control_escape c → P c) → P c
unfolding replacement
needed_cases c need P p1 p2 p3 p4 p5 p6 p7 other = grind (arith, nat_tests)

-- a hex digit that isn't upper-case is the one that writes its value
lower_digit : (d v : ℕ) → IsHexDigit d → IsNotUpper d → digit_value d ≡ v → d ≡ digit_char v
lower_digit d v h k e = grind (arith, nat_tests)

-- the digit that writes a value isn't upper-case
digit_char_not_upper : (v : ℕ) → v < 16 → IsNotUpper (digit_char v)
digit_char_not_upper v h = grind (arith, nat_tests)

-- the hex escape of a character is a form of its value with lower-case digits
pub hex_form : (c : ℕ) → c < 0x10000 → (form : IsHexForm (hex_escape c) c) × HasLowerDigits form
hex_form c low =
    let worth : digit_value (digit_char (c / 0x1000)) * 0x1000 + digit_value (digit_char (c / 0x100 % 16)) * 0x100 + digit_value (digit_char (c / 0x10 % 16)) * 0x10 + digit_value (digit_char (c % 16)) ≡ c =
    omega (arith, digit_value-digit_char) in
    subst (λ n. (form : IsHexForm (hex_escape c) n) × HasLowerDigits form) worth (
      digits (omega (arith, digit_value-digit_char)) (omega (arith, digit_value-digit_char)) (omega (arith, digit_value-digit_char)) (omega (arith, digit_value-digit_char)),
      grind (arith, digit_char_not_upper),
    )

-- and the only such form
pub hex_only : (i : List ℕ) (c : ℕ) → (form : IsHexForm i c) → HasLowerDigits form → i ≡ hex_escape c
hex_only i c (digits {d3 = d3} {d2 = d2} {d1 = d1} {d0 = d0} h3 h2 h1 h0) lower =
    cc (
      lower_digit d3 (c / 0x1000) h3 lower.0 (omega arith),
      lower_digit d2 (c / 0x100 % 16) h2 lower.1 (omega arith),
      lower_digit d1 (c / 0x10 % 16) h1 lower.2 (omega arith),
      lower_digit d0 (c % 16) h0 lower.3 (omega arith),
    )

-- a control character is written so
control_hex : (c : ℕ) → c < 32 → control_escape c ≡ hex_escape c
control_hex c low = grind (arith, nat_tests)

-- what stands for a character is an item of it with no upper-case hex digit
pub lower_item : (c : ℕ) → IsScalar c → IsLowerItem (piece c) c
unfolding replacement short_escape
lower_item c scalar =
    piece_cases json tt c (λ p. IsLowerItem p c)
    (λ need. needed_cases c need (λ x. IsLowerItem (replacement json x) x) (short refl, tt) (short refl, tt) (short refl, tt) (short refl, tt) (short refl, tt) (short refl, tt) (short refl, tt)
    (λ low written. let form = hex_form c (omega arith) in rw (written ∙ control_hex c low) (hex form.0 (inl (omega arith)), form.1)))
    (λ clean. (raw scalar (grind (arith, nat_tests)) (grind (arith, nat_tests)) (grind (arith, nat_tests)), tt))

-- What stands for a character

-- Bytes that stand for a character: as short as they can be, and with six bytes its hex escape.
pub record IsPiece (bytes : List ℕ) (c : ℕ) : Type 0 where
  pub itself : 32 ≤ c → c ≢ 0x22 → c ≢ 0x5c → length bytes < 6 → bytes ≡ encode_utf8 c
  pub letter : (b : ℕ) → short_escape b ≡ Some c → (length bytes ≡ 1) ⊎ (bytes ≡ 0x5c ∷ b ∷ [])
  pub most : length bytes ≤ 6
  pub six : 6 ≤ length bytes → bytes ≡ hex_escape c

-- what is written for a character is so
pub IsPiece-json : (c : ℕ) → IsPiece (piece c) c
unfolding replacement short_escape
IsPiece-json c =
    piece_cases json tt c (λ p. IsPiece p c)
    (λ need. record {
      itself = λ h k l small. absurd (grind (arith, nat_tests));
      letter = λ b e. inr (grind (arith, nat_tests));
      most = (length-replacement json c).1;
      six = λ long. grind (arith, nat_tests, needed_cases, control_hex);
    })
    (λ clean. grind (arith, nat_tests, length-encode, len_utf8_bounds, len_utf8_ascii))

-- a raw character of JSON stands for itself
pub piece-raw : (c : ℕ) → 32 ≤ c → c ≢ 0x22 → c ≢ 0x5c → piece c ≡ encode_utf8 c
piece-raw c h k l = inner_clean json tt c (grind (arith, nat_tests))

-- no item is shorter than what stands for the character
pub least : (i : List ℕ) (c : ℕ) → IsJsonItem i c → length (piece c) ≤ length i
least i c (raw _ h k l) = omega (arith, ap length (piece-raw c h k l))
least i c (short {b = b} s) = grind (arith, (IsPiece-json c).letter b s)
least i c (hex (digits _ _ _ _) _) = (IsPiece-json c).most
least i c (pair (digits _ _ _ _) (digits _ _ _ _) _ _) = omega (arith, (IsPiece-json c).most)

-- an item with no upper-case digit that is as long as what stands for the character is that
pub only : (i bytes : List ℕ) (c : ℕ) → IsPiece bytes c → IsLowerItem i c → length i ≡ length bytes → i ≡ bytes
only i bytes c p (raw _ h k l, lower) same = sym (p.itself h k l (omega (arith, length-encode c, (len_utf8_bounds c).1)))
only i bytes c p (short {b = b} s, lower) same = grind (arith, p.letter b s)
only i bytes c p (hex (digits h3 h2 h1 h0) _, lower) same = hex_only i c (digits h3 h2 h1 h0) lower ∙ sym (p.six (omega arith))
only i bytes c p (pair (digits _ _ _ _) (digits _ _ _ _) _ _, lower) same = absurd (omega (arith, p.most))

-- A reader

-- the value of the hex form that begins the bytes
abbrev form_value : List ℕ → ℕ
form_value bytes = digit_value (get_or bytes 2 0) * 0x1000 + digit_value (get_or bytes 3 0) * 0x100 + digit_value (get_or bytes 4 0) * 0x10 + digit_value (get_or bytes 5 0)

-- the character of the escape that begins the bytes, if one does, and what comes after it
read : List ℕ → Option ℕ × List ℕ
read bytes =
    let high = form_value bytes in
    cond (get_or bytes 0 0 == 0x5c)
    (cond (get_or bytes 1 0 == 0x75)
    (cond (high / 0x400 == 0x36) (Some (0x10000 + (high - 0xd800) * 0x400 + (form_value (drop 6 bytes) - 0xdc00)), drop 12 bytes) (Some high, drop 6 bytes))
    (short_escape (get_or bytes 1 0), drop 2 bytes))
    (None, bytes)

-- it tells the character of each item that isn't raw
tells : Tells IsJsonItem read
unfolding read short_escape
tells i x c (raw _ _ _ l) = inl (refl, rw (not_begun c 0x5c x (omega arith) l))
tells i x c (short {b = b} s) = inr (rw (ne_eqb b 0x75 (λ e. let none = rw e at s in cc), s) refl)
tells i x c (hex (digits _ _ _ _) range) = inr (rw (ne_eqb (c / 0x400) 0x36 (λ e. omega arith)) refl)
tells i x c (pair {high = h} (digits _ _ _ _) (digits _ _ _ _) range _) = let e : h / 0x400 ≡ 0x36 = omega arith in inr (rw e refl)

-- Literals

-- two bytes more between quotation marks
pub length-quoted : (bytes : List ℕ) → length (quoted bytes) ≡ length bytes + 2
length-quoted bytes = omega (arith, length-append bytes (0x22 ∷ []))

-- two literals that are one have one inside
spelled_too : (P Q : List ℕ → ℕ → Type 0) (bytes t u : List ℕ) (p : IsLiteral P bytes t) (q : IsLiteral Q bytes u) → Spells Q p.inside u
spelled_too P Q bytes t u p q =
    subst (λ xs. Spells Q xs u) (append_cancel_right q.inside p.inside (0x22 ∷ []) (cc (sym q.between ∙ p.between))) q.spelled

-- the pieces of a text between quotation marks, where each is an item of its character
literal-pieces : (Item : List ℕ → ℕ → Type 0) (f : ℕ → List ℕ) → ((c : ℕ) → IsScalar c → Item (f c) c) → (text : List ℕ) → all_scalars text ≡ true → IsLiteral Item (quoted (flat_map f text)) text
literal-pieces Item f item text scalars = record { inside = flat_map f text; spelled = Spells-flat_map Item f item text scalars; between = refl }

-- The output is the only shortest literal by items of a kind with no upper-case hex digit.
pub record IsOnly (Item : List ℕ → ℕ → Type 0) (output text : List ℕ) : Type 0 where
  pub literal : IsLiteral Item output text
  pub denotes : JsonDenotes output text
  pub lower : IsLower output text
  pub least : (other : List ℕ) → IsLiteral Item other text → length output ≤ length other
  pub only : (other : List ℕ) → IsLiteral Item other text → IsLower other text → length other ≤ length output → other ≡ output
  pub one_text : (other : List ℕ) → JsonDenotes output other → other ≡ text

-- so is what stands for a text between quotation marks, where for each character such an item stands, and none is shorter
pub IsOnly-quoted : (Item : List ℕ → ℕ → Type 0) (mode : Mode) → ((i : List ℕ) (c : ℕ) → Item i c → IsJsonItem i c) → ((c : ℕ) → IsPiece (inner mode (encode_utf8 c)) c)
    → ((i : List ℕ) (c : ℕ) → Item i c → length (inner mode (encode_utf8 c)) ≤ length i) → ((c : ℕ) → IsScalar c → Item (inner mode (encode_utf8 c)) c × IsLowerItem (inner mode (encode_utf8 c)) c)
    → (text : List ℕ) → all_scalars text ≡ true → IsOnly Item (quoted (inner mode (encode_utf8_all text))) text
unfolding read
IsOnly-quoted Item mode json_item is_piece least both text scalars =
    let f = λ (c : ℕ). inner mode (encode_utf8 c) in
    let inside : List ℕ = flat_map f text in
    let denotes = literal-pieces IsJsonItem f (λ c scalar. (both c scalar).1.0) text scalars in
    rw (inner-pieces mode text) (record {
      literal = literal-pieces Item f (λ c scalar. (both c scalar).0) text scalars;
      denotes = denotes;
      lower = literal-pieces IsLowerItem f (λ c scalar. (both c scalar).1) text scalars;
      least = λ other h. omega (arith, length-quoted inside, length-quoted h.inside, ap length h.between, ap length h.spelled.joined, pieces_le Item f least h.spelled.items text h.spelled.each);
      only = λ other h lower small.
          let s = h.spelled in let l = spelled_too Item IsLowerItem other text text h lower in
          let same = only_pieces IsJsonItem read tells Item IsLowerItem json_item (λ i c item. item.0) f least (λ i c item. only i (f c) c (is_piece c) item)
          s.items l.items text s.each l.each (sym s.joined ∙ l.joined) (omega (arith, length-quoted inside, length-quoted h.inside, ap length h.between, ap length s.joined)) in
          h.between ∙ ap quoted (s.joined ∙ same);
      one_text = λ other q. Spells-one_text IsJsonItem read tells refl q.inside other text q.spelled (spelled_too IsJsonItem IsJsonItem (quoted inside) other text q denotes);
    })

-- the output for the bytes of a text
pub IsOnlyJson-plain : (text : List ℕ) → all_scalars text ≡ true → IsOnlyJson (plain json (encode_utf8_all text)) text
IsOnlyJson-plain text scalars =
    let output : List ℕ = plain json (encode_utf8_all text) in
    let h = IsOnly-quoted IsJsonItem json (λ i c item. item) IsPiece-json least (λ c scalar. let both = lower_item c scalar in (both.0, both)) text scalars in
    record {
      shortest = record { denotes = h.literal; least = h.least };
      lower = h.lower;
      only = λ other shortest lower. h.only other shortest.denotes lower (shortest.least output h.literal);
      others = λ other denotes differs. elim (cases_lt (length output) (length other)) [
        | inl longer ↦ inl longer
        | inr small ↦ inr (le_antisymm small (h.least other denotes), λ lower. differs (h.only other denotes lower small))
      ];
      one_text = h.one_text;
    }
