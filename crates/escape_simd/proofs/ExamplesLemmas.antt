-- The examples of what a reader makes of bytes hold.
use Rattle.escape_simd.proofs.Words.{◌≡◌, ◌≢◌, ℕ, List, [], ◌∷◌, ◌++◌, length, codes, refl, sym, ap, subst, ◌∙◌, arith, inl, inr, true, true≢false, append-nil, append_cancel_right, nat_tests, encode_utf8, encode_same, AllZip, concat, quoted, Spells, IsJsonItem, raw, short, hex, pair, digits, IsLiteral, short_escape, IsHtmlItem, entity, entity_of, IsScriptItem, is_script_marked}
use Rattle.std.proofs.Common.{lit<, lit≤}
use Rattle.std.proofs.lemmas.Bool.{eqb-false}
use Rattle.escape_simd.specs.Html as Html
use Rattle.escape_simd.specs.Examples.{JsonExamples, HtmlExamples, ScriptExamples}
use Rattle.escape_simd.proofs.SpellingLemmas.{not_begun}

-- items between quotation marks
literal : (Item : List ℕ → ℕ → Type 0) (items : List (List ℕ)) (text : List ℕ) → AllZip Item items text → IsLiteral Item (quoted (concat items)) text
literal Item items text each = record { inside = concat items; spelled = record { items = items; each = each; joined = refl }; between = refl }

-- bytes that no item begins are spelled by no text
no_spelling : (Item : List ℕ → ℕ → Type 0) (b : ℕ) (bs : List ℕ) → ((i x : List ℕ) (c : ℕ) → Item i c → i ++ x ≢ b ∷ bs) → (text : List ℕ) → ¬ Spells Item (b ∷ bs) text
no_spelling Item b bs none text spelled = none_of spelled.items text spelled.each spelled.joined where
  none_of : (items : List (List ℕ)) (t : List ℕ) → AllZip Item items t → b ∷ bs ≢ concat items
  none_of [] [] each joined = cc
  none_of (i ∷ is) (c ∷ cs) each joined = none i (concat is) c each.0 (sym joined)
  none_of items t each joined = each

-- nor do they stand in a literal
no_literal : (Item : List ℕ → ℕ → Type 0) (b : ℕ) (bs : List ℕ) → ((i x : List ℕ) (c : ℕ) → Item i c → i ++ x ≢ b ∷ bs) → (text : List ℕ) → ¬ IsLiteral Item (quoted (b ∷ bs)) text
no_literal Item b bs none text l =
    no_spelling Item b bs none text (subst (λ xs. Spells Item xs text) (append_cancel_right l.inside (b ∷ bs) (0x22 ∷ []) (cc (sym l.between))) l.spelled)

-- no item begins the escape of a lone surrogate
no_lone : (i x : List ℕ) (c : ℕ) → IsJsonItem i c → i ++ x ≢ codes "\\uD834"
unfolding short_escape
no_lone i x c (raw _ _ _ other) same = true≢false (rw same at (not_begun c 0x5c x (lit< tt) other))
no_lone i x c (short {b = b} s) same = let e : b ≡ 0x75 = cc in let none = rw e at s in cc
no_lone i x c (hex (digits _ _ _ _) range) same = let value : c ≡ 0xd834 = cc in elim range [ inl below ↦ absurd (omega arith) | inr above ↦ absurd (omega arith) ]
no_lone i x c (pair (digits _ _ _ _) (digits _ _ _ _) _ _) same = absurd (omega (arith, ap length same))

-- nor a control character
no_control : (i x : List ℕ) (c : ℕ) → IsJsonItem i c → i ++ x ≢ 0x1f ∷ []
no_control i x c (raw _ low _ _) same = true≢false (rw same at (not_begun c 0x1f x (lit< tt) (λ e. omega arith)))
no_control i x c (short _) same = cc
no_control i x c (hex (digits _ _ _ _) _) same = cc
no_control i x c (pair (digits _ _ _ _) (digits _ _ _ _) _ _) same = cc

-- nor an escape that JSON lacks
no_unknown : (i x : List ℕ) (c : ℕ) → IsJsonItem i c → i ++ x ≢ codes "\\a"
unfolding short_escape
no_unknown i x c (raw _ _ _ other) same = true≢false (rw same at (not_begun c 0x5c x (lit< tt) other))
no_unknown i x c (short {b = b} s) same = let e : b ≡ 0x61 = cc in let none = rw e at s in cc
no_unknown i x c (hex (digits _ _ _ _) _) same = cc
no_unknown i x c (pair (digits _ _ _ _) (digits _ _ _ _) _ _) same = cc

pub json_examples : JsonExamples
unfolding short_escape encode_utf8
json_examples = record {
  empty = literal IsJsonItem [] [] tt;
  letter = literal IsJsonItem (codes "a" ∷ []) (codes "a") (raw {c = 0x61} refl (lit≤ tt) (eqb-false _ _ refl) (eqb-false _ _ refl), tt);
  two_bytes = literal IsJsonItem ((0xc3 ∷ 0xa9 ∷ []) ∷ []) (0xe9 ∷ []) (raw {c = 0xe9} refl (lit≤ tt) (eqb-false _ _ refl) (eqb-false _ _ refl), tt);
  marks = literal IsJsonItem (codes "\\\"" ∷ codes "\\\\" ∷ []) (0x22 ∷ 0x5c ∷ []) (short refl, (short refl, tt));
  solidus = literal IsJsonItem (codes "\\/" ∷ []) (0x2f ∷ []) (short refl, tt);
  controls = literal IsJsonItem (codes "\\b" ∷ codes "\\t" ∷ codes "\\n" ∷ codes "\\f" ∷ codes "\\r" ∷ []) (0x08 ∷ 0x09 ∷ 0x0a ∷ 0x0c ∷ 0x0d ∷ [])
      (short refl, (short refl, (short refl, (short refl, (short refl, tt)))));
  digits = literal IsJsonItem (codes "\\u0123" ∷ codes "\\u4567" ∷ codes "\\u89ab" ∷ codes "\\ucdef" ∷ []) (0x0123 ∷ 0x4567 ∷ 0x89ab ∷ 0xcdef ∷ [])
      (hex (digits (lit< tt) (lit< tt) (lit< tt) (lit< tt)) (inl (lit< tt)), (hex (digits (lit< tt) (lit< tt) (lit< tt) (lit< tt)) (inl (lit< tt)), (hex (digits (lit< tt) (lit< tt) (lit< tt) (lit< tt)) (inl (lit< tt)), (hex (digits (lit< tt) (lit< tt) (lit< tt) (lit< tt)) (inl (lit< tt)), tt))));
  lower = literal IsJsonItem (codes "\\u001f" ∷ []) (0x1f ∷ []) (hex (digits (lit< tt) (lit< tt) (lit< tt) (lit< tt)) (inl (lit< tt)), tt);
  upper = literal IsJsonItem (codes "\\u001F" ∷ codes "\\u89AB" ∷ codes "\\uCDEF" ∷ []) (0x1f ∷ 0x89ab ∷ 0xcdef ∷ [])
      (hex (digits (lit< tt) (lit< tt) (lit< tt) (lit< tt)) (inl (lit< tt)), (hex (digits (lit< tt) (lit< tt) (lit< tt) (lit< tt)) (inl (lit< tt)), (hex (digits (lit< tt) (lit< tt) (lit< tt) (lit< tt)) (inl (lit< tt)), tt)));
  below = literal IsJsonItem (codes "\\uD7FF" ∷ []) (0xd7ff ∷ []) (hex (digits (lit< tt) (lit< tt) (lit< tt) (lit< tt)) (inl (lit< tt)), tt);
  above = literal IsJsonItem (codes "\\uE000" ∷ []) (0xe000 ∷ []) (hex (digits (lit< tt) (lit< tt) (lit< tt) (lit< tt)) (inr (lit≤ tt)), tt);
  clef = literal IsJsonItem (codes "\\uD834\\uDD1E" ∷ []) (0x1d11e ∷ [])
      (pair {first = codes "\\uD834"} {second = codes "\\uDD1E"} (digits (lit< tt) (lit< tt) (lit< tt) (lit< tt)) (digits (lit< tt) (lit< tt) (lit< tt) (lit< tt)) (lit≤ tt, lit≤ tt) (lit≤ tt, lit≤ tt), tt);
  ends = literal IsJsonItem (codes "\\uD800\\uDC00" ∷ codes "\\uDBFF\\uDFFF" ∷ []) (0x10000 ∷ 0x10ffff ∷ []) (
    pair {first = codes "\\uD800"} {second = codes "\\uDC00"} (digits (lit< tt) (lit< tt) (lit< tt) (lit< tt)) (digits (lit< tt) (lit< tt) (lit< tt) (lit< tt)) (lit≤ tt, lit≤ tt) (lit≤ tt, lit≤ tt),
    (pair {first = codes "\\uDBFF"} {second = codes "\\uDFFF"} (digits (lit< tt) (lit< tt) (lit< tt) (lit< tt)) (digits (lit< tt) (lit< tt) (lit< tt) (lit< tt)) (lit≤ tt, lit≤ tt) (lit≤ tt, lit≤ tt), tt),
  );
  lone = no_literal IsJsonItem _ _ no_lone;
  control = no_literal IsJsonItem _ _ no_control;
  unknown = no_literal IsJsonItem _ _ no_unknown;
}

-- no entity is a lone ampersand
no_ampersand : (i x : List ℕ) (c : ℕ) → IsHtmlItem i c → i ++ x ≢ codes "&"
unfolding entity_of
no_ampersand i x c (Html.raw _ other) same = true≢false (rw same at (not_begun c 0x26 x (lit< tt) other))
no_ampersand i x c (entity e) same = grind (arith, nat_tests)

pub html_examples : HtmlExamples
unfolding entity_of encode_utf8
html_examples = record {
  entities = record {
    items = codes "&quot;" ∷ codes "&amp;" ∷ codes "&#x27;" ∷ codes "&#x2f;" ∷ codes "&lt;" ∷ codes "&gt;" ∷ [];
    each = (entity refl, (entity refl, (entity refl, (entity refl, (entity refl, (entity refl, tt))))));
    joined = refl;
  };
  raw = record { items = codes "<" ∷ []; each = (Html.raw {c = 0x3c} refl (eqb-false _ _ refl), tt); joined = refl };
  once = record {
    items = codes "&amp;" ∷ codes "l" ∷ codes "t" ∷ codes ";" ∷ [];
    each = (entity refl, (Html.raw {c = 0x6c} refl (eqb-false _ _ refl), (Html.raw {c = 0x74} refl (eqb-false _ _ refl), (Html.raw {c = 0x3b} refl (eqb-false _ _ refl), tt))));
    joined = refl;
  };
  ampersand = no_spelling IsHtmlItem _ _ no_ampersand;
}

-- no item of a script literal begins a marked character
no_mark : (m b : ℕ) (bs : List ℕ) → is_script_marked m ≡ true → encode_utf8 m ≡ b ∷ bs → b ≢ 0x5c → (i x : List ℕ) (c : ℕ) → IsScriptItem i c → i ++ x ≢ b ∷ bs
no_mark m b bs marked is other i x c (raw _ _ _ _, free) same =
    let e : c ≡ m = (encode_same c m x [] (same ∙ sym is ∙ sym (append-nil (encode_utf8 m)))).0 in true≢false (sym marked ∙ sym (ap is_script_marked e) ∙ free)
no_mark m b bs marked is other i x c (short _, free) same = other (cc)
no_mark m b bs marked is other i x c (hex (digits _ _ _ _) _, free) same = other (cc)
no_mark m b bs marked is other i x c (pair (digits _ _ _ _) (digits _ _ _ _) _ _, free) same = other (cc)

pub script_examples : ScriptExamples
unfolding encode_utf8
script_examples = record {
  letter = literal IsScriptItem (codes "a" ∷ []) (codes "a") ((raw {c = 0x61} refl (lit≤ tt) (eqb-false _ _ refl) (eqb-false _ _ refl), refl), tt);
  escaped = literal IsScriptItem (codes "\\u003C" ∷ []) (codes "<") ((hex (digits (lit< tt) (lit< tt) (lit< tt) (lit< tt)) (inl (lit< tt)), tt), tt);
  less = no_literal IsScriptItem _ _ (no_mark 0x3c _ _ refl refl (eqb-false _ _ refl));
  greater = no_literal IsScriptItem _ _ (no_mark 0x3e _ _ refl refl (eqb-false _ _ refl));
  ampersand = no_literal IsScriptItem _ _ (no_mark 0x26 _ _ refl refl (eqb-false _ _ refl));
  line = no_literal IsScriptItem _ _ (no_mark 0x2028 _ _ refl refl (eqb-false _ _ refl));
  paragraph = no_literal IsScriptItem _ _ (no_mark 0x2029 _ _ refl refl (eqb-false _ _ refl));
}
