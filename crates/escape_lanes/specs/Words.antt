-- Sixteen lanes in two words of 64 bits.
use Rattle.std.specs.Prelude.{◌≡◌, ℕ, ◌-◌, ◌/◌, ◌<◌, List, ◌++◌, length, refl}
use Rattle.std.proofs.Common.{zero, suc, arith, ap, ◌∙◌, get_or, length-append, inl, inr}
use Rattle.std.proofs.Math.ListN.{get_or-append}
use Rattle.std.proofs.Math.Seq.{get_or-append_right}
use Rattle.std.proofs.lemmas.Bool.{cases_lt}
use Rattle.std.specs.Simd.Lanes.{digits_l}
use Rattle.escape_lanes.specs.Lanes.{AreBytes}

-- the eight lanes of a word, a byte each, the first one lowest
unfoldable pub lanes_of_word : ℕ → List ℕ
lanes_of_word x = digits_l 256 8 x

-- the lanes of two words, one after the other
abbrev pub lanes_of_words : ℕ → ℕ → List ℕ
lanes_of_words low high = lanes_of_word low ++ lanes_of_word high

-- as many digits as are taken
pub length-digits : (p k x : ℕ) → length (digits_l p k x) ≡ k
length-digits p zero x = refl
length-digits p (suc k) x = ap suc (length-digits p k (x / p))

-- each is below 256
digit-lt : (k x j : ℕ) → get_or (digits_l 256 k x) j 0 < 256
digit-lt zero x j = omega arith
digit-lt (suc k) x zero = omega arith
digit-lt (suc k) x (suc j) = digit-lt k (x / 256) j

-- the lanes of a word are bytes
pub word-bytes : (x : ℕ) → AreBytes 8 (lanes_of_word x)
unfolding lanes_of_word
word-bytes x = record {
  full = length-digits 256 8 x;
  small = λ k h. digit-lt 8 x k;
}

-- and so are those of two words
pub words-bytes : (low high : ℕ) → AreBytes 16 (lanes_of_words low high)
words-bytes low high =
    let l = word-bytes low in
    let h = word-bytes high in
    record {
      full = length-append (lanes_of_word low) (lanes_of_word high) ∙ omega (arith, l.full, h.full);
      small = λ k within. elim (cases_lt k 8) [
        | inl left ↦ rw (get_or-append (lanes_of_word low) (lanes_of_word high) 0 k (omega (arith, l.full))) (l.small k left)
        | inr right ↦ rw (get_or-append_right (lanes_of_word low) (lanes_of_word high) k 0 (omega (arith, l.full)), l.full) (h.small (k - 8) (omega arith))
      ];
    }
