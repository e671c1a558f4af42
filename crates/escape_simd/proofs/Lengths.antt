-- How long what stands for parts of a text is, and for the whole.
use Rattle.escape_simd.proofs.Words.{◌≡◌, ◌≢◌, ℕ, ◌+◌, ◌-◌, ◌*◌, ◌<◌, ◌≤◌, Bool, true, false, List, [], ◌∷◌, length, drop, get_or, ap, ◌∙◌, arith, length-append, length-drop, inl, inr, cases_lt, count_by, nat_tests, first_set, IsMaskOf, MaskOf, is_clear, lanes_of_mask, mask_from, take, sym, entry_count, Mode, script, needs_escape, replacement, inner, begins_separator, source_len, first_replacement, plain, quote_count, rest_length, IsFlaggedAt, IsFront, IsPartLength}
use Rattle.escape_simd.proofs.Escapes.{entry-counts, first-alone, source_len-alone}
use Rattle.escape_simd.proofs.Lanes.{CleanFrom, HoldsFlags, cleared-later, first-set, first_set-here, held-first, held-none, mask-holds}
use Rattle.escape_simd.proofs.OutputLemmas.{length-plain}
use Rattle.escape_simd.proofs.Parts.{itself, none-counted}
use Rattle.escape_simd.proofs.ReplacementLemmas.{inner-nil, length-replacement}
use Rattle.escape_simd.proofs.RestSteps.{clean_rest, passed-clean_rest, rest-between, rest-bounds, rest-is}
use Rattle.escape_simd.proofs.Texts.{inner-here, inner-step, length-first, length-inner, length-separator, one≤source_len, source_len≤length}

-- One byte

module _ (mode : Mode) (src : List ℕ) (at : ℕ) (inside : at < length src) where
  -- the rest of a text, and its first byte left out
  rest-added : rest_length mode src at + source_len mode (drop at src) ≡ length (first_replacement mode (drop at src)) + (rest_length mode src (at + 1) + 1)
  rest-added =
      grind (arith, inner-here mode src at inside, passed-clean_rest mode src at inside, rest-is, length-append {A = ℕ})

  -- a byte's entry counts what stands for it
  pub added-alone : needs_escape mode (get_or src at 0) ≡ true → (mode ≡ script → begins_separator (drop at src) ≡ false) → (count : ℕ) → count ≡ entry_count mode (get_or src at 0) → (1 ≤ count) × IsPartLength mode src at (at + 1) count
  added-alone needed none count is =
      omega (arith, rest-added, source_len-alone mode src at none, ap length (first-alone mode src at none), entry-counts mode (get_or src at 0) needed, length-replacement mode (get_or src at 0), is)

  -- six bytes stand for a separator, and two for the rest of it alone
  pub added-separator : mode ≡ script → begins_separator (drop at src) ≡ true → IsPartLength mode src at (at + 1) 4
  added-separator is begins = grind (arith, rest-added, length-separator)

-- six bytes at most stand for each byte of a part
pub part-few : (mode : Mode) (src : List ℕ) (at next len : ℕ) → at ≤ next → next ≤ length src → IsPartLength mode src at next len → len ≤ 6 * (next - at)
part-few mode src at next len forward inside part = omega (arith, rest-between mode src at next forward inside, part)

-- and more than itself, unless as many bytes as it has stand for it
pub part-longer : (mode : Mode) (src : List ℕ) (at count len : ℕ) → at + count ≤ length src → IsPartLength mode src at (at + count) len → len ≢ count → length src - at < rest_length mode src at
part-longer mode src at count len inside part other = omega (arith, rest-between mode src at (at + count) (omega arith) inside, rest-bounds mode src (at + count), part, other)

-- The flagged bytes of a part

-- Those before the first that the mask tells of were counted.
pub record CountedSoFar (mode : Mode) (src : List ℕ) (at valid len : ℕ) (mask : MaskOf) : Type 0 where
  pub bytes : mask.bytes ≡ take valid (drop at src)
  pub before : mask.from ≤ valid
  pub counted : len + rest_length mode src (at + mask.from) ≡ rest_length mode src at + (valid - mask.from)

module _ (mode : Mode) (src : List ℕ) (at valid : ℕ) (inside : at + valid ≤ length src) where
  -- none yet
  pub counted-begin : (mask : MaskOf) → IsMaskOf mask (take valid (drop at src)) → CountedSoFar mode src at valid valid mask
  counted-begin mask is =
      let here : at + mask.from ≡ at = omega (arith, is.from) in
      record { bytes = is.bytes; before = omega (arith, is.from); counted = omega (arith, is.from, ap (rest_length mode src) here) }

  module _ (len : ℕ) (mask : MaskOf) (so_far : CountedSoFar mode src at valid len mask) where
    -- its lanes
    abbrev bits : List Bool
    bits = lanes_of_mask mode mask

    held : HoldsFlags mode src at valid (at + mask.from) bits
    held = mask-holds mode src at valid (at + mask.from) mask so_far.bytes inside (omega arith)

    -- six bytes at most stand for each
    pub counted-few : len ≤ 6 * valid
    counted-few =
        omega (arith, rest-between mode src at (at + valid) (omega arith) inside, rest-between mode src (at + mask.from) (at + valid) (omega (arith, so_far.before)) inside, so_far.counted, so_far.before)

    -- all of them
    pub counted-end : is_clear mode mask ≡ true → IsPartLength mode src at (at + valid) len
    counted-end none =
        let clean = held-none mode src at valid (at + mask.from) bits held (omega arith) none in
        omega (arith, clean_rest mode src (at + mask.from) (at + valid) (omega (arith, so_far.before)) clean inside, so_far.counted, so_far.before)

    module _ (some : is_clear mode mask ≡ false) (f : ℕ) (is : f ≡ first_set bits) where
      -- the next one is a flagged byte of the part
      pub counted-first : IsFlaggedAt mode src (at + f) × (f < valid) × (mask.from ≤ f)
      counted-first =
          let s = first-set mode src at valid (at + mask.from) bits held some in
          ((omega (arith, s, is, inside), rw (sym is) at s.1), omega (arith, s, is), omega (arith, is, cleared-later mask.from _ (first_set bits) (first_set-here bits some)))

      -- one more
      pub counted-next : (more : ℕ) (rest : MaskOf) → IsPartLength mode src (at + f) (at + f + 1) (more + 1) → rest ≡ mask_from mask.bytes (first_set bits + 1) mask.stored → CountedSoFar mode src at valid (len + more) rest
      counted-next more rest one cut =
          let few = counted-first in let from : rest.from ≡ f + 1 = omega (arith, ap (λ m. m.from) cut, is) in
          let clean : CleanFrom mode src (at + mask.from) (at + f) = λ p after before. held-first mode src at valid (at + mask.from) bits held some (omega arith) p after (omega (arith, before, is)) in
          let kept = clean_rest mode src (at + mask.from) (at + f) (omega (arith, few)) clean (omega (arith, few, inside)) in
          let there : at + rest.from ≡ at + f + 1 = omega (arith, from) in
          record {
            bytes = ap (λ m. m.bytes) cut ∙ so_far.bytes;
            before = omega (arith, few, from);
            counted = omega (arith, kept, one, so_far.counted, few, from, ap (rest_length mode src) there);
          }

-- The whole text

-- what stands for it begins at its first byte
pub rest-all : (mode : Mode) (src : List ℕ) → rest_length mode src 0 ≡ length (inner mode src)
rest-all mode src = rest-is mode src 0

-- with the quotation marks it is the output
pub plain-long : (mode : Mode) (value src : List ℕ) → src ≡ value → length (plain mode value) ≡ quote_count mode + rest_length mode src 0
plain-long mode value src is = omega (arith, length-plain mode value, rest-all mode value, ap (λ xs. rest_length mode xs 0) is)

-- and nothing stands for what is behind it
pub rest-past : (mode : Mode) (src : List ℕ) (at : ℕ) → length src ≤ at → rest_length mode src at ≡ 0
rest-past mode src at past = omega (arith, rest-bounds mode src at, past)

-- what stands for a byte alone is one byte only where it is the byte
replacement-same : (mode : Mode) (b : ℕ) → length (replacement mode b) ≡ 1 → replacement mode b ≡ b ∷ []
unfolding replacement
replacement-same mode b one = grind (arith, nat_tests)

-- the first of what stands for bytes is no longer than what it stands for only where it is one byte, and that byte
first-same : (mode : Mode) (b : ℕ) (bs : List ℕ) → length (first_replacement mode (b ∷ bs)) ≡ source_len mode (b ∷ bs) → (source_len mode (b ∷ bs) ≡ 1) × (first_replacement mode (b ∷ bs) ≡ b ∷ [])
first-same mode b bs same = grind (arith, nat_tests, length-separator, replacement-same)

-- where what stands for bytes is no longer than they are, it is they
pub same-length : (mode : Mode) (bytes : List ℕ) → length (inner mode bytes) ≡ length bytes → inner mode bytes ≡ bytes
same-length mode [] long = inner-nil mode
same-length mode (b ∷ bs) long =
    let n : ℕ = source_len mode (b ∷ bs) - 1 in let step = inner-step b bs mode in
    let same : length (first_replacement mode (b ∷ bs)) ≡ source_len mode (b ∷ bs) =
    omega (arith, long, ap length step, length-append (first_replacement mode (b ∷ bs)) (inner mode (drop n bs)), source_len≤length mode (b ∷ bs), one≤source_len mode (b ∷ bs), length-first mode (b ∷ bs), length-inner mode (drop n bs), length-drop n bs) in
    let alone = first-same mode b bs same in
    let next = rw (alone.1, alone.0) at step in
    next ∙ ap (λ xs. b ∷ xs) (same-length mode bs (omega (arith, long, ap length next)))

-- where a text's bytes from a place on become longer, and those before it are clean, it becomes longer
pub part-grown : (mode : Mode) (value src : List ℕ) (at end : ℕ) → src ≡ value → IsFront mode src at end → at + rest_length mode src at ≡ rest_length mode src 0 → length src - end < rest_length mode src end → length value < length (inner mode value)
part-grown mode value src at end is front so_far grown =
    let clean = clean_rest mode src at end front.forward front.clean front.inside in
    omega (arith, clean, so_far, grown, front.forward, front.inside, rest-all mode src, ap (λ xs. length (inner mode xs)) is, ap length is)

-- where it is longer, some byte needs an escape
pub grown-flagged : (mode : Mode) (text : List ℕ) → length text < length (inner mode text) → 0 < count_by (needs_escape mode) text
grown-flagged mode text longer = elim (cases_lt 0 (count_by (needs_escape mode) text)) [
  | inl some ↦ some
  | inr none ↦ absurd (omega (arith, longer, ap length (itself mode text (λ k after before. none-counted (needs_escape mode) text (omega (arith, none)) k before))))
]
