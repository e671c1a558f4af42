-- Texts of 4 to 15 bytes, put together from four words of four bytes that overlap.
use Rattle.std.proofs.Common.{◌≡◌, ℕ, ◌-◌, ◌<◌, ◌≤◌, List, [], ◌∷◌, ◌++◌, min, length, take, drop, replicate, get_or, refl, arith}
use borrow.Rule.Simd.Moves.{swz_l}
use mir.Syntax.{w8}
use Rattle.escape_lanes.specs.declared.simd.last.TheConstants.{GATHERED}

-- the four words
abbrev pub words : List ℕ → List ℕ
words xs = (take 4 xs ++ take 4 (drop (min (length xs - 4) 4) xs)) ++ (take 4 (drop (min (length xs - 4) 8) xs) ++ take 4 (drop (length xs - 4) xs))

-- each text is put together from them, by computation for each length
pub gathered : (xs : List ℕ) → 4 ≤ length xs → length xs < 16 → swz_l w8 16 (words xs) 0 (get_or GATHERED (length xs) []) ≡ xs ++ replicate (16 - length xs) 0
gathered [] several few = absurd (omega arith)
gathered (a ∷ []) several few = absurd (omega arith)
gathered (a ∷ b ∷ []) several few = absurd (omega arith)
gathered (a ∷ b ∷ c ∷ []) several few = absurd (omega arith)
gathered (a ∷ b ∷ c ∷ d ∷ []) several few = refl
gathered (a ∷ b ∷ c ∷ d ∷ e ∷ []) several few = refl
gathered (a ∷ b ∷ c ∷ d ∷ e ∷ f ∷ []) several few = refl
gathered (a ∷ b ∷ c ∷ d ∷ e ∷ f ∷ g ∷ []) several few = refl
gathered (a ∷ b ∷ c ∷ d ∷ e ∷ f ∷ g ∷ h ∷ []) several few = refl
gathered (a ∷ b ∷ c ∷ d ∷ e ∷ f ∷ g ∷ h ∷ i ∷ []) several few = refl
gathered (a ∷ b ∷ c ∷ d ∷ e ∷ f ∷ g ∷ h ∷ i ∷ j ∷ []) several few = refl
gathered (a ∷ b ∷ c ∷ d ∷ e ∷ f ∷ g ∷ h ∷ i ∷ j ∷ k ∷ []) several few = refl
gathered (a ∷ b ∷ c ∷ d ∷ e ∷ f ∷ g ∷ h ∷ i ∷ j ∷ k ∷ l ∷ []) several few = refl
gathered (a ∷ b ∷ c ∷ d ∷ e ∷ f ∷ g ∷ h ∷ i ∷ j ∷ k ∷ l ∷ m ∷ []) several few = refl
gathered (a ∷ b ∷ c ∷ d ∷ e ∷ f ∷ g ∷ h ∷ i ∷ j ∷ k ∷ l ∷ m ∷ n ∷ []) several few = refl
gathered (a ∷ b ∷ c ∷ d ∷ e ∷ f ∷ g ∷ h ∷ i ∷ j ∷ k ∷ l ∷ m ∷ n ∷ o ∷ []) several few = refl
gathered (a ∷ b ∷ c ∷ d ∷ e ∷ f ∷ g ∷ h ∷ i ∷ j ∷ k ∷ l ∷ m ∷ n ∷ o ∷ p ∷ xs) several few = absurd (omega arith)
