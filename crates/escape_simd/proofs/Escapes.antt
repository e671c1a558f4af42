-- What one escape writes, and how far a run of escapes goes.
use Rattle.escape_simd.proofs.Words.{◌≡◌, ◌≢◌, ℕ, ◌+◌, ◌-◌, ◌<◌, ◌≤◌, true, false, ◌&&◌, ◌||◌, ◌==◌, List, length, length-append, take, drop, replicate, get_or, refl, ap, arith, nat_tests, take-append_seam, get_or-drop, get_or_past, length-replicate, entry_count, entry_bytes, Mode, script, needs_escape, replacement, begins_separator, source_len, first_replacement, IsByteWise, run_reach}
use Rattle.escape_simd.proofs.ReplacementLemmas.{length-replacement}
use Rattle.escape_simd.proofs.Texts.{source_len-between}

-- a separator, told of the text
pub begins-at : (src : List ℕ) (at : ℕ) → begins_separator (drop at src) ≡ ((get_or src at 0 == 0xe2) && (get_or src (at + 1) 0 == 0x80) && ((get_or src (at + 2) 0 == 0xa8) || (get_or src (at + 2) 0 == 0xa9)))
unfolding begins_separator
begins-at src at = grind (arith, nat_tests, get_or-drop)

-- it has three bytes
pub third-inside : (src : List ℕ) (at : ℕ) → begins_separator (drop at src) ≡ true → at + 2 < length src
third-inside src at begins = grind (arith, nat_tests, begins-at, get_or_past)

-- none begins with another byte than e2
pub other-byte : (src : List ℕ) (at : ℕ) → (get_or src at 0 ≡ 226 → ⊥) → begins_separator (drop at src) ≡ false
other-byte src at other = grind (arith, nat_tests, begins-at)

-- its third byte, told of the text
pub third-at : (src : List ℕ) (at : ℕ) → get_or (drop at src) 2 0 ≡ get_or src (at + 2) 0
third-at src at = get_or-drop at src 2 0

-- the byte there, told of the rest
pub byte-at : (src : List ℕ) (at : ℕ) → get_or (drop at src) 0 0 ≡ get_or src at 0
byte-at src at = let e : at + 0 ≡ at = omega arith in rw e at (get_or-drop at src 0 0)

-- where no separator begins, one byte's entry is written: it is passed alone
pub source_len-alone : (mode : Mode) (src : List ℕ) (at : ℕ) → (mode ≡ script → begins_separator (drop at src) ≡ false) → source_len mode (drop at src) ≡ 1
source_len-alone script src at none = rw (none refl) refl
source_len-alone mode src at none = refl

-- and its replacement is the first
pub first-alone : (mode : Mode) (src : List ℕ) (at : ℕ) → (mode ≡ script → begins_separator (drop at src) ≡ false) → first_replacement mode (drop at src) ≡ replacement mode (get_or src at 0)
first-alone script src at none = rw (none refl) (ap (replacement script) (byte-at src at))
first-alone mode src at none = ap (replacement mode) (byte-at src at)

-- an escape has two bytes or more, in a mode that looks no further
pub two≤escape : (mode : Mode) (b : ℕ) → run_reach mode ≡ 6 → needs_escape mode b ≡ true → 2 ≤ length (replacement mode b)
unfolding replacement
two≤escape script b none needed = absurd (omega (arith, none))
two≤escape mode b none needed = grind (arith, nat_tests)

-- the entry of a byte that needs an escape
module _ (mode : Mode) (b : ℕ) (needed : needs_escape mode b ≡ true) where
  -- counts what stands for it
  pub entry-counts : entry_count mode b ≡ length (replacement mode b)
  entry-counts = rw needed refl

  -- begins with that
  pub entry-front : take (entry_count mode b) (entry_bytes mode b) ≡ replacement mode b
  entry-front = rw needed (take-append_seam (replacement mode b) (replicate (8 - length (replacement mode b)) 0))

  -- and has eight bytes
  pub entry-long : length (entry_bytes mode b) ≡ 8
  entry-long = grind (arith, nat_tests, length-replacement, length-append {A = ℕ}, length-replicate)

-- and so do all that are not the third one
pub bytewise-but-script : {mode : Mode} → mode ≢ script → IsByteWise mode
bytewise-but-script {mode = script} other = absurd (other refl)
bytewise-but-script other = λ bytes. grind arith

-- an entry reaches few bytes further
pub reach-few : (mode : Mode) → run_reach mode ≤ 7
reach-few script = omega arith
reach-few mode = omega arith

-- the bytes that are passed with a flagged one are clean
pub passed-after : (mode : Mode) (src : List ℕ) (f next q : ℕ) → next ≡ f + source_len mode (drop f src) → f < q → q < next → needs_escape mode (get_or src q 0) ≡ false
passed-after mode src f next q place after before =
    let e : f + (q - f) ≡ q = omega arith in
    rw (get_or-drop f src (q - f) 0, e) at (source_len-between mode (drop f src) (q - f) (omega arith) (omega arith))
