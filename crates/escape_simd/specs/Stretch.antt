-- What a stretch of a text did to a target, and what it cost.
use Rattle.std.specs.Prelude.{min, ◌≡◌, ℕ, ◌+◌, ◌-◌, ◌*◌, ◌<◌, ◌≤◌, Bool, true, false, List, ◌++◌, length, take, drop, slice_index, slice_index_or, if◌then◌else◌, ◌⊎◌}
use Rattle.std.specs.List.{prefix_len}
use Rattle.escape_lanes.specs.Bits.{first_set}
use Rattle.escape_lanes.specs.Masks.{MaskOf, is_clear, lanes_of_mask, whole_mask}
use Rattle.escape_lanes.specs.Mode.{Mode, json, html, script}
use Rattle.escape_lanes.specs.Replacement.{needs_escape}
use Rattle.escape_lanes.specs.Written.{bytes_of, stored_of, escaped_of, quotes_of, IsSameSlice}
use Rattle.escape_lanes.specs.declared.simd.target.Target.{Target}
use Rattle.escape_simd.specs.Output.{inner, source_len}
use Rattle.escape_simd.specs.Runs.{escaped_count, run_count, run_count_after}

-- where the bytes that need an escape from a place on end
abbrev pub run_end : Mode → List ℕ → ℕ → ℕ
run_end mode src at = at + prefix_len (needs_escape mode) (drop at src)

-- how many bytes the rest of a text becomes, from a place on
unfoldable pub rest_length : Mode → List ℕ → ℕ → ℕ
rest_length mode src at = length (inner mode (drop at src))

-- There is room in `size` bytes, from `to` on, for what a text's bytes from `at` up to `stop` become, and for `slack` bytes more.
-- What was escaped has become part of the left side: so this stays the same fact at each place that a stretch comes to.
pub record HasRoom (mode : Mode) (slack : ℕ) (src : List ℕ) (at stop to size : ℕ) : Type 0 where
  pub fits : to + rest_length mode src at + slack ≤ size + rest_length mode src stop

-- The bytes of a text were escaped into a target, from a place of both up to another: each is a place of the text and one of the
-- target. No write reached further than `slack` bytes past the end.
pub record Stretch {N : ℕ} (mode : Mode) (slack : ℕ) (src : List ℕ) (old new : Target N) (start end : ℕ × ℕ) : Type 0 where
  pub same_slice : IsSameSlice old new
  pub forward : start.0 ≤ end.0
  pub inside : end.0 ≤ length src
  -- what the whole ends at stays the same
  pub limit : end.1 + rest_length mode src end.0 ≡ start.1 + rest_length mode src start.0
  -- what is written and what is yet to be written stay one text
  pub bytes : take end.1 (bytes_of new) ++ inner mode (drop end.0 src) ≡ take start.1 (bytes_of old) ++ inner mode (drop start.0 src)
  pub kept : drop (end.1 + slack) (bytes_of new) ≡ drop (end.1 + slack) (bytes_of old)
  pub escaped : escaped_of new + escaped_count mode (drop end.0 src) ≡ escaped_of old + escaped_count mode (drop start.0 src)
  pub quotes : quotes_of new ≡ quotes_of old

-- what stands for a byte is told by that byte alone
abbrev pub IsByteWise : Mode → Type 0
IsByteWise mode = (bytes : List ℕ) → source_len mode bytes ≡ 1

-- how far past a replacement its entry of eight bytes may reach: the shortest has two bytes, in script one, that of e2
abbrev pub run_reach : Mode → ℕ
run_reach json = 6
run_reach html = 6
run_reach script = 7

-- how far past what a vector becomes its stores may reach: a vector, and where it is one of a text's last ones, no more than 32 bytes
abbrev pub reach : Bool → ℕ → ℕ
reach last n = if last then min n 32 else n

-- The bytes of a text were passed up to a place not before the border, and at most by the rest of a separator past it:
-- none of those needs an escape.
pub record Reached (mode : Mode) (src : List ℕ) (border next : ℕ) : Type 0 where
  pub whole : border ≤ next
  pub near : next ≤ border + 2
  pub exact : IsByteWise mode → next ≡ border
  pub clean : (p : ℕ) → border ≤ p → p < next → needs_escape mode (slice_index src p) ≡ false

-- How far a text has come: to which target, up to which place of the text and of the target, and after so many classifications
pub record State (N : ℕ) : Type 0 where
  pub target : Target N
  pub at : ℕ
  pub to : ℕ
  pub ticks : ℕ

abbrev pub state : {N : ℕ} → Target N → ℕ → ℕ → ℕ → State N
state target at to ticks = record { target = target; at = at; to = to; ticks = ticks }

-- What it may cost to come from one state to another. At most one vector is stored for each run of the text between, and `vectors`
-- more. Each vector that is stored was classified, and no more are classified than may be stored. `asked` of them were classified
-- before the old state.
pub record Cost {N : ℕ} (mode : Mode) (vectors asked : ℕ) (src : List ℕ) (old new : State N) : Type 0 where
  pub stored : stored_of new.target + run_count mode (drop new.at src) ≤ stored_of old.target + run_count mode (drop old.at src) + vectors
  pub covered : old.ticks + stored_of new.target ≤ new.ticks + stored_of old.target + asked
  pub classified : new.ticks + run_count mode (drop new.at src) + asked ≤ old.ticks + run_count mode (drop old.at src) + vectors

-- Text was escaped from one state to another, at this cost: all bytes before `border`, and what of a separator goes past it.
pub record Advanced {N : ℕ} (mode : Mode) (slack border vectors asked : ℕ) (src : List ℕ) (old new : State N) : Type 0 where
  pub stretch : Stretch mode slack src old.target new.target (old.at, old.to) (new.at, new.to)
  pub reached : Reached mode src border new.at
  pub cost : Cost mode vectors asked src old new

-- a byte of the text that needs an escape
abbrev pub IsFlaggedAt : Mode → List ℕ → ℕ → Type 0
IsFlaggedAt mode src at = (at < length src) × (needs_escape mode (slice_index src at) ≡ true)

-- there is room for an entry at each place that needs an escape, from `at` on and before `stop`: as in a kernel, or as
-- `escape_unchecked` asks for it
abbrev pub HasRunRoom : Mode → List ℕ → ℕ → ℕ → ℕ → ℕ → Type 0
HasRunRoom mode src at stop to size = HasRoom mode 8 src at stop to size ⊎ (to + 6 * (stop - at) + 2 ≤ size)

-- The bytes of a text from `at` up to `next` were escaped, none but such as belong to one run.
pub record EscapedRun {N : ℕ} (mode : Mode) (src : List ℕ) (old new : Target N) (at next to end : ℕ) : Type 0 where
  pub stretch : Stretch mode (run_reach mode) src old new (at, to) (next, end)
  pub stored : stored_of new ≡ stored_of old
  pub run : run_count_after mode true (drop next src) + 1 ≡ run_count mode (drop at src)
  pub alone : IsByteWise mode → (run_end mode src next ≡ run_end mode src at) × (escaped_of new ≡ escaped_of old + (next - at))

-- A run goes on at `at`, the first byte that a mask flags of a text's first `valid` bytes. A vector was stored by the mask.
pub record IsRunAt (mode : Mode) (src : List ℕ) (valid at : ℕ) (mask : MaskOf) : Type 0 where
  pub bytes : mask.bytes ≡ take valid src
  pub some : is_clear mode mask ≡ false
  pub first : at ≡ first_set (lanes_of_mask mode mask)
  pub flagged : IsFlaggedAt mode src at
  pub before : at < valid
  pub inside : valid ≤ length src
  pub used : mask.stored ≡ 1

-- A run has ended at `next`: the mask tells of the bytes from there on, and flags none before, nor the one there. A vector was
-- stored by it.
pub record IsRunEnd (mode : Mode) (src : List ℕ) (valid next : ℕ) (mask : MaskOf) : Type 0 where
  pub inside : next ≤ length src
  pub bytes : mask.bytes ≡ take valid src
  pub from : mask.from ≤ next
  pub cleared : (k : ℕ) → slice_index_or (lanes_of_mask mode mask) k false ≡ true → next ≤ k
  pub over : valid ≤ next → Reached mode src valid next
  pub stops : is_clear mode mask ≡ false → (next < valid) × (needs_escape mode (slice_index src next) ≡ false)
  pub used : mask.stored ≡ 1

-- The text has the bytes from `at` up to `border`, at most a vector of N, and a vector can be loaded from each place from `at` to
-- `border`. They have room.
pub record IsVectorAt (mode : Mode) (N slack : ℕ) (src : List ℕ) (at border to size : ℕ) : Type 0 where
  pub few : border ≤ at + N
  pub inside : border + N ≤ length src
  pub room : HasRoom mode slack src at border to size

-- A vector was stored at `to` that begins with the first `left` of these bytes. Nothing changed further than `slack` bytes past
-- them.
pub record IsStored {N : ℕ} (slack : ℕ) (bytes : List ℕ) (old new : Target N) (left to : ℕ) : Type 0 where
  pub same_slice : IsSameSlice old new
  pub written : take to (bytes_of new) ≡ take to (bytes_of old)
  pub ahead : take left (drop to (bytes_of new)) ≡ take left bytes
  pub kept : drop (to + left + slack) (bytes_of new) ≡ drop (to + left + slack) (bytes_of old)
  pub stored : stored_of new ≡ stored_of old + 1
  pub escaped : escaped_of new ≡ escaped_of old
  pub quotes : quotes_of new ≡ quotes_of old

-- The masks of a text shorter than two vectors: of its last vector, or of all of it, and where it fills one, of its first one.
pub record AreTailMasks (N : ℕ) (text : List ℕ) (first last : MaskOf) : Type 0 where
  pub few : length text < 2 * N
  pub front : N ≤ length text → first ≡ whole_mask (take N text)
  pub back : last ≡ whole_mask (drop (length text - N) text)
