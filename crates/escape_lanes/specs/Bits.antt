-- Masks as lists of truth values, one for each lane, the first lane first.
use Rattle.std.specs.Prelude.{◌≡◌, ℕ, ◌+◌, ◌-◌, ◌&&◌, if◌then◌else◌, ◌/◌, ◌%◌, ◌^◌, Bool, true, false, List, [], ◌∷◌, ◌++◌, length, take, drop, replicate, nat_eq, refl}
use Rattle.std.proofs.Common.{zero, suc, ap, not}

-- the place of the first set lane, and the number of lanes where none is set
unfoldable pub first_set : List Bool → ℕ
first_set [] = 0
first_set (true ∷ bs) = 0
first_set (false ∷ bs) = suc (first_set bs)

-- whether no lane is set
unfoldable pub none_set : List Bool → Bool
none_set [] = true
none_set (true ∷ bs) = false
none_set (false ∷ bs) = none_set bs

-- the last n lanes cleared
abbrev pub clear_last : ℕ → List Bool → List Bool
clear_last n bs = take (length bs - n) bs ++ replicate n false

-- the first n lanes cleared
abbrev pub clear_first : ℕ → List Bool → List Bool
clear_first n bs = replicate n false ++ drop n bs

-- how many lanes are clear and follow one that is set, where the lane before the first is set or isn't
unfoldable pub gaps : Bool → List Bool → ℕ
gaps before [] = 0
gaps before (b ∷ bs) = (if before && not b then 1 else 0) + gaps b bs

-- the lowest k bits of n, lowest first
unfoldable pub bits_of : ℕ → ℕ → List Bool
bits_of zero n = []
bits_of (suc k) n = nat_eq (n % 2) 1 ∷ bits_of k (n / 2)

-- k bits are k truth values
pub length-bits_of : (k n : ℕ) → length (bits_of k n) ≡ k
unfolding bits_of
length-bits_of zero n = refl
length-bits_of (suc k) n = ap suc (length-bits_of k (n / 2))

-- the lowest k groups of w bits, lowest first: one is set where its bits aren't all zero
unfoldable pub groups_of : ℕ → ℕ → ℕ → List Bool
groups_of w zero n = []
groups_of w (suc k) n = not (nat_eq (n % 2 ^ w) 0) ∷ groups_of w k (n / 2 ^ w)

-- the lowest k groups of four bits
abbrev pub nibbles_of : ℕ → ℕ → List Bool
nibbles_of = groups_of 4
