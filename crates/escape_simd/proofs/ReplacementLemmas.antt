-- What stands for a byte, and for a character: its bytes' replacements, or the escape of a separator.
use Rattle.escape_simd.proofs.Words.{◌≡◌, ◌≢◌, ℕ, ◌/◌, ◌%◌, ◌<◌, ◌≤◌, ◌⊎◌, true, false, List, [], ◌∷◌, ◌++◌, codes, length, get_or, drop, flat_map, encode_utf8_all, refl, append-nil, arith, inl, inr, encode_utf8, digit_char, AllByRecursion, encode_ascii, encode_same, cases_lt, cases_Bool, nat_tests, flat_map-append, Mode, json, script, replacement, needs_escape, begins_separator, source_len, script_inner_after, inner, is_script_marked}
use Rattle.std.specs.Int.{IsInRange}

-- a byte that needs no escape stands for itself
pub replacement-clean : (mode : Mode) (b : ℕ) → needs_escape mode b ≡ false → replacement mode b ≡ b ∷ []
unfolding replacement
replacement-clean mode b h = grind (arith, nat_tests)

-- and so does a byte from 128 on
pub replacement-high : (mode : Mode) (b : ℕ) → 128 ≤ b → replacement mode b ≡ b ∷ []
unfolding replacement
replacement-high mode b h = grind (arith, nat_tests)

-- a byte is written by one to six bytes
pub length-replacement : (mode : Mode) (b : ℕ) → (1 ≤ length (replacement mode b)) × (length (replacement mode b) ≤ 6)
unfolding replacement
length-replacement mode b = grind (arith, nat_tests)

-- Step by step

-- nothing stands for no bytes
pub inner-nil : (mode : Mode) → inner mode [] ≡ []
unfolding script_inner_after
inner-nil mode = grind arith

-- what stands for a byte that begins no separator, and for those after it
pub inner-one : (mode : Mode) (b : ℕ) (bs : List ℕ) → source_len mode (b ∷ bs) ≡ 1 → inner mode (b ∷ bs) ≡ replacement mode b ++ inner mode bs
unfolding script_inner_after
inner-one mode b bs h = grind (arith, nat_tests)

-- a separator begins with e2
pub source_len-one : (mode : Mode) (b : ℕ) (bs : List ℕ) → b ≢ 0xe2 → source_len mode (b ∷ bs) ≡ 1
unfolding begins_separator
source_len-one mode b bs other = grind (arith, nat_tests)

-- a byte that needs no escape, before others
pub inner-clean_byte : (mode : Mode) (b : ℕ) (bs : List ℕ) → needs_escape mode b ≡ false → inner mode (b ∷ bs) ≡ b ∷ inner mode bs
inner-clean_byte mode b bs clean = grind (arith, nat_tests, inner-one, source_len-one, replacement-clean)

-- Characters

-- the bytes of a character after its first
abbrev AreContinued : List ℕ → Type 0
AreContinued bytes = AllByRecursion (λ b. IsInRange 128 191 b) bytes

-- a byte from 128 on, and the bytes of a character after its first
abbrev IsHighForm : List ℕ → Type 0
IsHighForm bytes = (bytes ≡ get_or bytes 0 0 ∷ drop 1 bytes) × (128 ≤ get_or bytes 0 0) × AreContinued (drop 1 bytes)

-- such are the bytes of a character from U+0080 on
encode_utf8-high : (c : ℕ) → 128 ≤ c → IsHighForm (encode_utf8 c)
unfolding encode_utf8
encode_utf8-high c h = grind (arith, nat_tests)

-- what stands for the character, whatever comes after it
abbrev pub IsWrittenAs : Mode → ℕ → List ℕ → Type 0
IsWrittenAs mode c bytes = (rest : List ℕ) → inner mode (encode_utf8 c ++ rest) ≡ bytes ++ inner mode rest

-- bytes after the first of a character stand for themselves
inner-continued : (mode : Mode) (bytes rest : List ℕ) → AreContinued bytes → inner mode (bytes ++ rest) ≡ bytes ++ inner mode rest
inner-continued mode [] rest h = refl
inner-continued mode (b ∷ bs) rest h = grind (arith, inner-one, source_len-one, replacement-high, inner-continued mode bs rest h.1)

module _ (mode : Mode) (c : ℕ) where
  -- a character below U+0080 is a byte
  pub written-low : c < 128 → IsWrittenAs mode c (replacement mode c)
  written-low low rest = grind (arith, encode_ascii c low, inner-one mode c rest (source_len-one mode c rest (omega arith)))

  -- one from there on stands for itself, unless it is a separator
  pub written-high : 128 ≤ c → ((rest : List ℕ) → source_len mode (encode_utf8 c ++ rest) ≡ 1) → IsWrittenAs mode c (encode_utf8 c)
  written-high high alone rest =
      let bytes : List ℕ = encode_utf8 c in let form = encode_utf8-high c high in
      grind (arith, form, inner-one mode (get_or bytes 0 0) (drop 1 bytes ++ rest) (rw form.0 at (alone rest)), replacement-high, inner-continued mode (drop 1 bytes) rest form.2)

  -- what stands for the character alone
  pub inner-character : (bytes : List ℕ) → IsWrittenAs mode c bytes → inner mode (encode_utf8 c) ≡ bytes
  inner-character bytes written = grind (arith, append-nil (encode_utf8 c), written [], inner-nil mode, append-nil bytes)

-- Modes that take bytes one by one

-- what stands for a byte is told by the byte alone
abbrev pub IsBytewise : Mode → Type 0
IsBytewise script = ⊥
IsBytewise mode = Unit {0}

-- only ASCII needs an escape
pub needs_escape_low : (mode : Mode) → IsBytewise mode → (c : ℕ) → needs_escape mode c ≡ true → c < 128
needs_escape_low mode h c need = grind (arith, nat_tests)

module _ (mode : Mode) (bytewise : IsBytewise mode) (c : ℕ) where
  -- a character that needs no escape stands for itself
  pub inner_clean : needs_escape mode c ≡ false → inner mode (encode_utf8 c) ≡ encode_utf8 c
  inner_clean clean = elim (cases_lt c 128) [
    | inl low ↦ grind (arith, inner-character, written-low, replacement-clean, encode_ascii)
    | inr high ↦ inner-character mode c (encode_utf8 c) (written-high mode c high (λ rest. grind arith))
  ]

  -- a character that needs one is a byte, and has that byte's replacement
  pub inner_needed : needs_escape mode c ≡ true → inner mode (encode_utf8 c) ≡ replacement mode c
  inner_needed need = inner-character mode c (replacement mode c) (written-low mode c (needs_escape_low mode bytewise c need))

-- Script

-- `\u` and four lower-case hex digits (RFC 8259, section 7)
abbrev pub hex_escape : ℕ → List ℕ
hex_escape c = codes "\\u" ++ digit_char (c / 0x1000) ∷ digit_char (c / 0x100 % 16) ∷ digit_char (c / 0x10 % 16) ∷ digit_char (c % 16) ∷ []

-- bytes that begin with a separator are the form of its character, and others
begins_separator-form : (bytes : List ℕ) → begins_separator bytes ≡ true → (bytes ≡ encode_utf8 0x2028 ++ drop 3 bytes) ⊎ (bytes ≡ encode_utf8 0x2029 ++ drop 3 bytes)
unfolding begins_separator encode_utf8
begins_separator-form (a ∷ b ∷ c ∷ bs) h = grind (arith, nat_tests)
begins_separator-form xs h = absurd (grind (arith, nat_tests))

-- the character of an unmarked form is no separator
source_len-unmarked : (c : ℕ) → is_script_marked c ≡ false → (rest : List ℕ) → source_len script (encode_utf8 c ++ rest) ≡ 1
source_len-unmarked c other rest = grind (arith, nat_tests, begins_separator-form, encode_same)

-- what stands for a marked character
written-marked : (c : ℕ) → is_script_marked c ≡ true → IsWrittenAs script c (hex_escape c)
unfolding script_inner_after begins_separator replacement encode_utf8
written-marked c marked = grind (arith, nat_tests)

-- a byte that isn't marked stands for what it does in JSON
pub replacement-unmarked : (b : ℕ) → is_script_marked b ≡ false → replacement script b ≡ replacement json b
unfolding replacement
replacement-unmarked b other = grind (arith, nat_tests)

-- any other character is written as in JSON
written-other : (c : ℕ) → is_script_marked c ≡ false → IsWrittenAs script c (inner json (encode_utf8 c))
written-other c other = elim (cases_lt c 128) [
  | inl low ↦ rw (inner-character json c (replacement json c) (written-low json c low), ← replacement-unmarked c other) (written-low script c low)
  | inr high ↦ rw (inner-character json c (encode_utf8 c) (written-high json c high (λ rest. refl))) (written-high script c high (source_len-unmarked c other))
]

-- what stands for a character is its hex escape where it is marked, and otherwise what JSON writes
pub script_cases : (c : ℕ) (P : List ℕ → Type 0) → (is_script_marked c ≡ true → P (hex_escape c)) → (is_script_marked c ≡ false → P (inner json (encode_utf8 c))) → P (inner script (encode_utf8 c))
script_cases c P marked other = elim (cases_Bool (is_script_marked c)) [
  | inl is ↦ rw (inner-character script c (hex_escape c) (written-marked c is)) (marked is)
  | inr isnt ↦ rw (inner-character script c (inner json (encode_utf8 c)) (written-other c isnt)) (other isnt)
]

-- Texts

-- what stands for a character before others
pub inner-past : (mode : Mode) (c : ℕ) → IsWrittenAs mode c (inner mode (encode_utf8 c))
inner-past script c = script_cases c (IsWrittenAs script c) (written-marked c) (written-other c)
inner-past mode c = λ rest. flat_map-append (replacement mode) (encode_utf8 c) rest

-- what stands for the bytes of a text, character by character
pub inner-pieces : (mode : Mode) (text : List ℕ) → inner mode (encode_utf8_all text) ≡ flat_map (λ c. inner mode (encode_utf8 c)) text
inner-pieces mode [] = inner-nil mode
inner-pieces mode (c ∷ cs) = rw (← inner-pieces mode cs) (inner-past mode c (encode_utf8_all cs))
