-- Eight bytes put apart are what stands for a text's bytes, and how many blocks have a flag.
use Rattle.escape_simd.proofs.Words.{◌≡◌, ◌≢◌, ℕ, zero, suc, ◌+◌, ◌-◌, ◌*◌, ◌<◌, ◌≤◌, Bool, true, false, cond, List, [], ◌∷◌, ◌++◌, length, take, drop, map, get_or, refl, sym, ap, ◌∙◌, inl, inr, arith, cases_lt, drop-drop, get_or-drop, get_or-take, get_or_default, get_or_past, nat_tests, Mode, needs_escape, replacement, shortened, flag_count, flagged_blocks, put_apart, inner, escaped_count, count_by-le-length, length-drop, length-take-le, get_or-le-sum_by, sum_by-cons, sum_by-le, sum_by-take-drop}
use Rattle.escape_simd.proofs.ReplacementLemmas.{inner-one, inner-clean_byte}
use Rattle.escape_simd.proofs.Shortened.{KeepsClean, source_len-short, short-escape}
use Rattle.escape_simd.proofs.Texts.{escaped-here, escaped_clean-here}

-- Counts of flags

-- none where none is set
pub count-none : (flags : List Bool) → ((i : ℕ) → get_or flags i false ≢ true) → flag_count flags ≡ 0
count-none flags none = omega (arith, sum_by-le (λ b. cond b 1 0) 0 flags (λ k d inside. grind (arith, nat_tests, none k, get_or_default flags k false d inside)))

-- the blocks that have one, in two parts
pub blocks-onward : (n m : ℕ) (flags : List Bool) → flagged_blocks (n + m) flags ≡ flagged_blocks n flags + flagged_blocks m (drop (8 * n) flags)
unfolding flagged_blocks
blocks-onward zero m flags = let e : 0 + m ≡ m = omega arith in rw e (omega arith)
blocks-onward (suc n) m flags =
    let e : suc n + m ≡ suc (n + m) = omega arith in
    let wide : 8 + 8 * n ≡ 8 * suc n = omega arith in
    rw e (omega (arith, rw (drop-drop (8 * n) 8 flags, wide) at (blocks-onward n m (drop 8 flags))))

-- one block
pub blocks-one : (flags : List Bool) → flagged_blocks 1 flags + (1 - flag_count (take 8 flags)) ≡ 1
unfolding flagged_blocks
blocks-one flags = grind (arith, nat_tests)

-- each block has eight lanes at most
pub flags-most : (n : ℕ) (flags : List Bool) → length flags ≤ 8 * n → flag_count flags ≤ 8 * flagged_blocks n flags
unfolding flagged_blocks
flags-most zero flags few = omega (arith, count_by-le-length (λ b. b) flags, few)
flags-most (suc n) flags few =
    let rest = flags-most n (drop 8 flags) (omega (arith, length-drop 8 flags, few)) in
    let front = count_by-le-length (λ b. b) (take 8 flags) in
    grind (arith, nat_tests, sum_by-take-drop (λ b. cond b 1 0) flags 8, rest, front, length-take-le 8 flags)

-- none where there is no flag
pub blocks-none : (n : ℕ) (flags : List Bool) → flag_count flags ≡ 0 → flagged_blocks n flags ≡ 0
unfolding flagged_blocks
blocks-none zero flags none = refl
blocks-none (suc n) flags none = grind (arith, nat_tests, sum_by-take-drop (λ b. cond b 1 0) flags 8, blocks-none n (drop 8 flags))

-- one at least where a lane is
pub blocks-some : (n k : ℕ) (flags : List Bool) → k < 8 * n → get_or flags k false ≡ true → 1 ≤ flagged_blocks n flags
unfolding flagged_blocks
blocks-some zero k flags few set = absurd (omega arith)
blocks-some (suc n) k flags few set = elim (cases_lt k 8) [
  | inl here ↦ grind (arith, nat_tests, get_or_past, get_or-take 8 flags k false here ∙ set, get_or-le-sum_by (λ b. cond b 1 0) (take 8 flags) k false)
  | inr past ↦
      let i : 8 + (k - 8) ≡ k = omega (arith, past) in
      omega (arith, blocks-some n (k - 8) (drop 8 flags) (omega (arith, few, past)) (get_or-drop 8 flags (k - 8) false ∙ rw i set))
]

-- how many bytes they become
pub length-put_apart : (flags : List Bool) (bytes : List ℕ) → length bytes ≡ length flags → length (put_apart flags bytes) ≡ length flags + flag_count flags
unfolding put_apart
length-put_apart [] bytes h = omega arith
length-put_apart (b ∷ flags) [] h = absurd (omega arith)
length-put_apart (b ∷ flags) (x ∷ bytes) h = grind (arith, nat_tests, sum_by-cons (λ b. cond b 1 0) b flags, length-put_apart flags bytes (omega arith))

-- A text's bytes

-- the flags of the first k bytes of a text, each of which has a short escape, and of more bytes that are not flagged
pub record AreMarked (mode : Mode) (flags : List Bool) (k : ℕ) (xs : List ℕ) : Type 0 where
  pub few : k ≤ length flags
  pub inside : length flags ≤ length xs
  pub bytes : (i : ℕ) → get_or xs i 0 < 256
  pub set : (i : ℕ) → get_or flags i false ≡ true → (i < k) × (needs_escape mode (get_or xs i 0) ≡ true)
  pub short : (i : ℕ) → get_or flags i false ≡ true → length (replacement mode (get_or xs i 0)) ≡ 2
  pub unset : (i : ℕ) → i < k → get_or flags i false ≡ false → needs_escape mode (get_or xs i 0) ≡ false

-- the same one byte on
marked-next : {mode : Mode} {b : Bool} {flags : List Bool} {k x : ℕ} {xs : List ℕ} → AreMarked mode (b ∷ flags) (suc k) (x ∷ xs) → AreMarked mode flags k xs
marked-next m = record {
  few = omega (arith, m.few);
  inside = omega (arith, m.inside);
  bytes = λ i. m.bytes (suc i);
  set = λ i h. let s = m.set (suc i) h in (omega (arith, s), s.1);
  short = λ i h. m.short (suc i) h;
  unset = λ i h c. m.unset (suc i) (omega arith) c;
}

-- the bytes put apart are what stands for them, whatever comes after, and these are as many escapes as flags
pub marked-apart : (mode : Mode) → KeepsClean mode → (flags : List Bool) (k : ℕ) (xs fill : List ℕ) → AreMarked mode flags k xs
    → (take (k + flag_count flags) (put_apart flags (map shortened (take (length flags) xs)) ++ fill) ++ inner mode (drop k xs) ≡ inner mode xs)
    × (escaped_count mode xs ≡ escaped_count mode (drop k xs) + flag_count flags)
unfolding put_apart
marked-apart mode clean flags zero xs fill m =
    let none : flag_count flags ≡ 0 = count-none flags (λ i h. absurd (let s = m.set i h in omega (arith, s))) in
    let n : 0 + flag_count flags ≡ 0 = omega (arith, none) in
    (rw n refl, omega (arith, none))
marked-apart mode clean (true ∷ flags) (suc k) (x ∷ xs) fill m =
    let needed = (m.set 0 refl).1 in
    let short = m.short 0 refl in
    let rest = marked-apart mode clean flags k xs fill (marked-next m) in
    let n : suc k + flag_count (true ∷ flags) ≡ suc (suc (k + flag_count flags)) = omega (arith, sum_by-cons (λ b. cond b 1 0) true flags) in
    let one = source_len-short mode x xs short in
    let here = inner-one mode x xs one ∙ ap (λ ys. ys ++ inner mode xs) (short-escape mode x (m.bytes 0) needed short) in
    let count = rw one at (escaped-here mode (x ∷ xs) 0 (omega arith) needed) in
    (rw n (ap (λ ys. 0x5c ∷ shortened x ∷ ys) rest.0 ∙ sym here), omega (arith, rest.1, count, sum_by-cons (λ b. cond b 1 0) true flags))
marked-apart mode clean (false ∷ flags) (suc k) (x ∷ xs) fill m =
    let none = m.unset 0 (omega arith) refl in
    let rest = marked-apart mode clean flags k xs fill (marked-next m) in
    let n : suc k + flag_count (false ∷ flags) ≡ suc (k + flag_count flags) = omega (arith, sum_by-cons (λ b. cond b 1 0) false flags) in
    let here = ap (λ y. y ∷ inner mode xs) (clean x none) ∙ sym (inner-clean_byte mode x xs none) in
    (rw n (ap (λ ys. shortened x ∷ ys) rest.0 ∙ here), omega (arith, rest.1, escaped_clean-here mode (x ∷ xs) 0 (omega arith) none, sum_by-cons (λ b. cond b 1 0) false flags))
marked-apart mode clean flags k xs fill m = absurd (omega (arith, m.few, m.inside))
