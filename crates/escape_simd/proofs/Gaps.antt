-- What is stored after each run of a mask is paid by the runs of the text.
use Rattle.escape_simd.proofs.Words.{◌≡◌, ℕ, zero, suc, ◌+◌, ◌<◌, ◌≤◌, Bool, false, List, [], ◌∷◌, length, take, drop, get_or, arith, if◌then◌else◌, nat_tests, gaps, Mode, needs_escape, source_len, run_count_after, run_count}
use Rattle.escape_simd.proofs.Texts.{runs_after-≤, runs-here}

module _ (mode : Mode) (src : List ℕ) where
  -- the gaps of flags that tell which bytes need an escape, where these are passed alone and the byte before them is marked or isn't
  gaps-paid_after : (n at : ℕ) (before : Bool) (bits : List Bool) → at + n ≤ length src → n ≤ length bits → ((k : ℕ) → k < n → get_or bits k false ≡ needs_escape mode (get_or src (at + k) 0))
      → ((p : ℕ) → at ≤ p → p < at + n → source_len mode (drop p src) ≡ 1)
      → gaps before (take n bits) + run_count mode (drop (at + n) src) ≤ run_count_after mode before (drop at src) + (if before then 1 else 0)
  unfolding gaps
  gaps-paid_after zero at before bits inside long told alone = grind (arith, nat_tests, runs_after-≤)
  gaps-paid_after (suc n) at before [] inside long told alone = absurd (omega arith)
  gaps-paid_after (suc n) at before (b ∷ bits) inside long told alone =
      let here : at + 0 ≡ at = omega arith in
      let is = rw here at (told 0 (omega arith)) in
      let step = runs-here mode src at (omega arith) (alone at (omega arith) (omega arith)) before in
      let next = λ (k : ℕ) (h : k < n). let e : at + suc k ≡ at + 1 + k = omega arith in rw e at (told (suc k) (omega arith)) in
      let more = gaps-paid_after n (at + 1) b bits (omega arith) (omega arith) next (λ p after under. alone p (omega arith) (omega arith)) in
      let e : at + 1 + n ≡ at + suc n = omega arith in
      grind (arith, nat_tests, is, step, rw e at more)

  -- the gaps of a mask that tells which bytes need an escape, where they are passed alone
  pub gaps-paid_mask : (bits : List Bool) (at n : ℕ) → at + n ≤ length src → n ≤ length bits → ((k : ℕ) → k < n → get_or bits k false ≡ needs_escape mode (get_or src (at + k) 0))
      → ((p : ℕ) → at ≤ p → p < at + n → source_len mode (drop p src) ≡ 1)
      → gaps false (take n bits) + run_count mode (drop (at + n) src) ≤ run_count mode (drop at src)
  gaps-paid_mask bits at n inside long told alone = omega (arith, gaps-paid_after n at false bits inside long told alone)
