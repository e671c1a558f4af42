-- The laws as calls' clauses have them.
use Rattle.escape_simd.proofs.Words.{◌≡◌, ℕ, ◌+◌, ◌<◌, true, List, [], ◌∷◌, ◌++◌, length, IsUtf8, chars, encode_utf8, encode_utf8_all, append_assoc, refl, sym, ap, subst, ◌∙◌, arith, All-from_recursion, quote_count, all_scalars, IsScalar, AllByRecursion, and_parts, nat_tests, IsUtf8-append, IsUtf8-nil, IsUtf8-encode, encodes-chars, scalars-chars, Mode, json, html, script, replacement, inner, plain, quoted, quote_of, IsTextOf, JoinsTexts, IsOfOneText, HasOutputLength, flat_map-append, scalar, append-nil, IsUtf8-from_ascii, IsOnlyOutput}
use Rattle.std.proofs.lemmas.Str.Ascii.{IsAscii-from_all}
use Rattle.escape_simd.proofs.SpellingLemmas.{piece_cases}
use Rattle.escape_simd.proofs.ReplacementLemmas.{IsBytewise, inner-nil, inner-past, script_cases, hex_escape}
use Rattle.escape_simd.proofs.Texts.{length-inner}
use Rattle.escape_simd.proofs.HtmlLemmas.{IsOnlyHtml-plain}
use Rattle.escape_simd.proofs.JsonLemmas.{IsOnlyJson-plain, length-quoted}
use Rattle.escape_simd.proofs.ScriptLemmas.{IsOnlyScript-plain, only_script}

-- the output for the bytes of a text, in each mode
IsOnlyOutput-plain : (mode : Mode) (text : List ℕ) → all_scalars text ≡ true → IsOnlyOutput mode (plain mode (encode_utf8_all text)) text
IsOnlyOutput-plain json text scalars = IsOnlyJson-plain text scalars
IsOnlyOutput-plain html text scalars = IsOnlyHtml-plain text scalars
IsOnlyOutput-plain script text scalars = IsOnlyScript-plain text scalars

-- as the clause of a call has it: of its `&str` and its output
pub IsOnlyOutput-output : (mode : Mode) (bytes output : List ℕ) → output ≡ plain mode bytes → IsUtf8 bytes → IsOnlyOutput mode output (chars bytes)
IsOnlyOutput-output mode bytes output same utf8 =
    subst (λ o. IsOnlyOutput mode o (chars bytes)) (ap (plain mode) (encodes-chars bytes utf8) ∙ sym same) (IsOnlyOutput-plain mode (chars bytes) (scalars-chars bytes utf8))

-- the same of what stands between the quotation marks
pub IsOnlyOutput-between : (mode : Mode) (bytes inside : List ℕ) → inside ≡ inner mode bytes → IsUtf8 bytes → IsOnlyOutput mode (quote_of mode ++ (inside ++ quote_of mode)) (chars bytes)
IsOnlyOutput-between html bytes inside same utf8 = IsOnlyOutput-output html bytes (inside ++ []) (append-nil inside ∙ same) utf8
IsOnlyOutput-between mode bytes inside same utf8 = IsOnlyOutput-output mode bytes (quoted inside) (ap quoted same) utf8

-- the text of a `&str`, as its clauses name it
pub IsTextOf-chars : (bytes : List ℕ) → IsUtf8 bytes → IsTextOf bytes (chars bytes)
IsTextOf-chars bytes utf8 = record { scalars = scalars-chars bytes utf8; encoded = encodes-chars bytes utf8 }

-- The output is text

-- bytes below 128 are a text
ascii_text : (bytes : List ℕ) → AllByRecursion (λ b. b < 128) bytes → IsUtf8 bytes
ascii_text bytes h = IsUtf8-from_ascii bytes (IsAscii-from_all bytes (All-from_recursion (λ b. b < 128) bytes h))

-- what stands for a character is a text, where its bytes are taken one by one
IsUtf8-bytewise : (mode : Mode) → IsBytewise mode → (c : ℕ) → IsScalar c → IsUtf8 (inner mode (encode_utf8 c))
unfolding replacement
IsUtf8-bytewise mode bytewise c character =
    piece_cases mode bytewise c IsUtf8 (λ need. ascii_text (replacement mode c) (grind (arith, nat_tests))) (λ clean. IsUtf8-encode c character)

-- and in each mode
IsUtf8-replacement : (mode : Mode) (c : ℕ) → IsScalar c → IsUtf8 (inner mode (encode_utf8 c))
IsUtf8-replacement script c character = script_cases c IsUtf8 (λ marked. ascii_text (hex_escape c) (grind (arith, nat_tests))) (λ other. IsUtf8-bytewise json tt c character)
IsUtf8-replacement mode c character = IsUtf8-bytewise mode tt c character

-- what stands for the bytes of characters is a text
IsUtf8-characters : (mode : Mode) (text : List ℕ) → all_scalars text ≡ true → IsUtf8 (inner mode (encode_utf8_all text))
IsUtf8-characters mode [] h = rw (inner-nil mode) IsUtf8-nil
IsUtf8-characters mode (c ∷ cs) h =
    let parts = and_parts (scalar c) (all_scalars cs) h in
    rw (inner-past mode c (encode_utf8_all cs)) (IsUtf8-append (inner mode (encode_utf8 c)) _ (IsUtf8-replacement mode c parts.0) (IsUtf8-characters mode cs parts.1))

-- and so is what stands for the bytes of a text
pub IsUtf8-inner : (mode : Mode) (bytes : List ℕ) → IsUtf8 bytes → IsUtf8 (inner mode bytes)
IsUtf8-inner mode bytes utf8 = rw (encodes-chars bytes utf8) at (IsUtf8-characters mode (chars bytes) (scalars-chars bytes utf8))

-- a quotation mark is a text
IsUtf8-quote : IsUtf8 (0x22 ∷ [])
IsUtf8-quote = ascii_text (0x22 ∷ []) (omega arith, tt)

-- the output for the bytes of a text is a text
pub IsUtf8-output : (mode : Mode) (bytes output : List ℕ) → IsUtf8 bytes → output ≡ plain mode bytes → IsUtf8 output
IsUtf8-output html bytes output utf8 same = rw same (IsUtf8-inner html bytes utf8)
IsUtf8-output mode bytes output utf8 same =
    rw same (IsUtf8-append (0x22 ∷ []) (inner mode bytes ++ 0x22 ∷ []) IsUtf8-quote (IsUtf8-append (inner mode bytes) (0x22 ∷ []) (IsUtf8-inner mode bytes utf8) IsUtf8-quote))

-- an output is of one text
same_characters : (mode : Mode) (output t u : List ℕ) → all_scalars t ≡ true → output ≡ plain mode (encode_utf8_all t) → IsOnlyOutput mode output t → IsOnlyOutput mode output u → t ≡ u
same_characters json output t u scalars e p q = q.one_text t p.shortest.denotes
same_characters html output t u scalars e p q = q.one_text t p.reads
same_characters script output t u scalars e p q = q.one_text t (rw e (only_script t scalars).denotes)

-- How long the output is

-- with the quotation marks of a literal
pub length-plain : (mode : Mode) (bytes : List ℕ) → length (plain mode bytes) ≡ length (inner mode bytes) + quote_count mode
length-plain mode bytes = grind (arith, length-quoted)

-- Texts that are cut in two

-- A text can be cut after these bytes: wherever bytes are taken one by one, and otherwise between two characters.
abbrev pub CanBeCutAfter : Mode → List ℕ → Type 0
CanBeCutAfter script first = IsUtf8 first
CanBeCutAfter mode first = Unit {0}

-- what stands for the bytes of a text, and for bytes after them
inner-text : (mode : Mode) (text rest : List ℕ) → inner mode (encode_utf8_all text ++ rest) ≡ inner mode (encode_utf8_all text) ++ inner mode rest
inner-text mode [] rest = rw (inner-nil mode) refl
inner-text mode (c ∷ cs) rest = grind (arith, append_assoc, inner-past, inner-text mode cs rest)

-- what stands for two byte lists joined
pub inner-append : (mode : Mode) (bytes first second : List ℕ) → bytes ≡ first ++ second → CanBeCutAfter mode first → inner mode bytes ≡ inner mode first ++ inner mode second
inner-append script bytes first second cut text = rw cut (rw (encodes-chars first text) at (inner-text script (chars first) second))
inner-append mode bytes first second cut _ = ap (inner mode) cut ∙ flat_map-append (replacement mode) first second

-- the output for a text that is cut in two
pub JoinsTexts-output : (mode : Mode) (bytes output : List ℕ) → output ≡ plain mode bytes → JoinsTexts mode bytes output
JoinsTexts-output json bytes output same = λ first second cut. same ∙ ap quoted (inner-append json bytes first second cut tt)
JoinsTexts-output html bytes output same = λ first second cut. same ∙ inner-append html bytes first second cut tt
JoinsTexts-output script bytes output same = λ first second text _ cut. same ∙ ap quoted (inner-append script bytes first second cut text)

-- as the clauses of a call have it: of the bytes of its `&str` and of its output
module _ (mode : Mode) (bytes output : List ℕ) (same : output ≡ plain mode bytes) where
  pub HasOutputLength-output : HasOutputLength mode (length bytes) output
  HasOutputLength-output = omega (arith, length-inner mode bytes, ap length same ∙ length-plain mode bytes)

  pub IsOfOneText-output : IsUtf8 bytes → IsOfOneText mode bytes output
  IsOfOneText-output utf8 other text e =
      let spelled = encodes-chars other text in
      let same_text = same_characters mode output (chars other) (chars bytes) (scalars-chars other text) (sym e ∙ ap (plain mode) (sym spelled))
      (IsOnlyOutput-output mode other output (sym e) text) (IsOnlyOutput-output mode bytes output same utf8) in
      sym spelled ∙ ap encode_utf8_all same_text ∙ encodes-chars bytes utf8
