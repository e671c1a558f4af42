-- What a mask tells of bytes.
use Rattle.std.specs.Prelude.{◌≡◌, ℕ, ◌-◌, Bool, false, List, ◌++◌, length, map, drop, replicate}
use Rattle.escape_lanes.specs.Bits.{none_set, clear_first}
use Rattle.escape_lanes.specs.Mode.{Mode}
use Rattle.escape_lanes.specs.Replacement.{needs_escape}

-- A mask of bytes, lane by lane, which tells of those from one of them on. So many vectors were stored by it: none or one.
pub record MaskOf : Type 0 where
  pub bytes : List ℕ
  pub from : ℕ
  pub stored : ℕ

-- that tells of the bytes from one on
abbrev pub mask_from : List ℕ → ℕ → ℕ → MaskOf
mask_from bytes from stored = record { bytes = bytes; from = from; stored = stored }

-- that tells of all of them, and by which no vector was stored
abbrev pub whole_mask : List ℕ → MaskOf
whole_mask bytes = mask_from bytes 0 0

-- the same mask, after a vector was stored by it
abbrev pub used_up : MaskOf → MaskOf
used_up mask = mask_from mask.bytes mask.from 1

-- the bytes that it tells of
abbrev pub told_by : MaskOf → List ℕ
told_by mask = drop mask.from mask.bytes

-- its 64 lanes: of each byte that it tells of whether it needs an escape, and no other is set
abbrev pub lanes_of_mask : Mode → MaskOf → List Bool
lanes_of_mask mode mask = clear_first mask.from (map (needs_escape mode) mask.bytes ++ replicate (64 - length mask.bytes) false)

-- no byte that it tells of needs an escape
abbrev pub is_clear : Mode → MaskOf → Bool
is_clear mode mask = none_set (lanes_of_mask mode mask)

-- The mask is of these bytes and tells of all of them, whether a vector was stored by it or not.
pub record IsMaskOf (mask : MaskOf) (told : List ℕ) : Type 0 where
  pub bytes : mask.bytes ≡ told
  pub from : mask.from ≡ 0
