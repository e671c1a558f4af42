-- How eight bytes are put apart, so that a reverse solidus goes before each that is flagged.
use Rattle.std.specs.Prelude.{◌≡◌, ℕ, ◌+◌, ◌-◌, Bool, List, [], ◌∷◌, ◌++◌, length, take, drop, nat_eq, replicate, count_by, if◌then◌else◌}
use Rattle.std.proofs.Common.{zero, suc}
use Rattle.escape_lanes.specs.Written.{Writes}
use Rattle.escape_lanes.specs.declared.simd.target.Target.{Target}

-- the places of bytes from the i-th on, with place 8 before each that is flagged
unfoldable pub spread_from : ℕ → List Bool → List ℕ
spread_from i [] = []
spread_from i (flagged ∷ rest) = (if flagged then 8 ∷ i ∷ [] else i ∷ []) ++ spread_from (suc i) rest

-- sixteen places: those of eight bytes, and then place 8
abbrev pub spread : List Bool → List ℕ
spread flags = spread_from 0 flags ++ replicate (16 - length (spread_from 0 flags)) 8

-- the bytes, with a reverse solidus before each that is flagged
unfoldable pub put_apart : List Bool → List ℕ → List ℕ
put_apart [] bytes = []
put_apart (flagged ∷ flags) [] = []
put_apart (flagged ∷ flags) (b ∷ bytes) = (if flagged then 0x5c ∷ b ∷ [] else b ∷ []) ++ put_apart flags bytes

-- how many lanes are flagged
abbrev pub flag_count : List Bool → ℕ
flag_count flags = count_by (λ flagged. flagged) flags

-- how many of the first n blocks of eight lanes have one that is flagged
unfoldable pub flagged_blocks : ℕ → List Bool → ℕ
flagged_blocks zero flags = 0
flagged_blocks (suc n) flags = (if nat_eq (flag_count (take 8 flags)) 0 then 0 else 1) + flagged_blocks n (drop 8 flags)

-- Eight bytes were written at `to`, a reverse solidus before each that is flagged. They end at `end`, and reverse solidi
-- fill the block. It counts as a vector where none is flagged.
pub record IsBlock {N : ℕ} (flags : List Bool) (bytes : List ℕ) (old new : Target N) (to end : ℕ) : Type 0 where
  pub written : Writes (if nat_eq (flag_count flags) 0 then 1 else 0) (flag_count flags) 0 old new to (put_apart flags bytes ++ replicate (8 - flag_count flags) 0x5c)
  pub after : end ≡ to + 8 + flag_count flags
