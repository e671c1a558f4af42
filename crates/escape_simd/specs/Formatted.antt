-- What a kernel leaves behind.
use Rattle.std.specs.Prelude.{◌≡◌, ℕ, ◌+◌, ◌*◌, ◌/◌, ◌≤◌, List, ◌++◌, length, take, drop}
use Rattle.escape_lanes.specs.Mode.{Mode}
use Rattle.escape_lanes.specs.Written.{bytes_of, stored_of, escaped_of, quotes_of, IsSameSlice}
use Rattle.escape_lanes.specs.declared.simd.target.Target.{Target}
use Rattle.escape_simd.specs.Output.{plain, inner, quote_count, bound}
use Rattle.escape_simd.specs.Runs.{escaped_count, run_count}

-- The plain escaping of the text stands at the front of the bytes.
pub record IsWritten (lanes : ℕ) (mode : Mode) (text old new : List ℕ) (count : ℕ) : Type 0 where
  pub exact : take count new ≡ plain mode text
  pub ends : count ≡ length (plain mode text)
  -- each byte of the text takes one to six bytes, besides the quotes
  pub least : length text + quote_count mode ≤ count
  pub most : count ≤ 6 * length text + quote_count mode
  -- bytes left alone
  pub kept_bound : drop (bound mode (length text)) new ≡ drop (bound mode (length text)) old
  pub kept_past : drop (count + lanes) new ≡ drop (count + lanes) old

-- An output stands in the bytes from `to` up to `end`. The bytes before it are left alone, and those `slack` past it.
pub record IsWrittenAt (slack : ℕ) (output old new : List ℕ) (to end : ℕ) : Type 0 where
  pub ends : end ≡ to + length output
  pub written : take end new ≡ take to old ++ output
  pub kept : drop (end + slack) new ≡ drop (end + slack) old

-- one quotation mark was written or none, to a target
pub record IsQuoted {N : ℕ} (mark : List ℕ) (old new : Target N) (to end : ℕ) : Type 0 where
  pub same_slice : IsSameSlice old new
  pub quoted : IsWrittenAt 0 mark (bytes_of old) (bytes_of new) to end
  pub stored : stored_of new ≡ stored_of old
  pub escaped : escaped_of new ≡ escaped_of old
  pub quotes : quotes_of new ≡ quotes_of old + length mark

-- The output of the text stands at the front of a target. At most one vector was stored, and one classified, for each run of
-- escapes, and `length text / N + 1` more.
pub record IsFormatted {N : ℕ} (mode : Mode) (text : List ℕ) (old new : Target N) (count ticks_old ticks_new : ℕ) : Type 0 where
  pub same_slice : IsSameSlice old new
  pub written : IsWritten N mode text (bytes_of old) (bytes_of new) count
  pub escaped : escaped_of new ≡ escaped_of old + escaped_count mode text
  pub quotes : quotes_of new ≡ quotes_of old + quote_count mode
  pub stored : stored_of new ≤ stored_of old + (run_count mode text + length text / N + 1)
  -- each vector stored was classified
  pub each_stored : ticks_old + stored_of new ≤ ticks_new + stored_of old
  pub classified : ticks_new ≤ ticks_old + (run_count mode text + length text / N + 1)

-- What stands for the text, with no quotation marks, stands at the front of the bytes.
pub record IsInnerWritten (lanes : ℕ) (mode : Mode) (text old new : List ℕ) (count : ℕ) : Type 0 where
  pub exact : take count new ≡ inner mode text
  pub ends : count ≡ length (inner mode text)
  -- each byte of the text takes one to six bytes
  pub least : length text ≤ count
  pub most : count ≤ 6 * length text
  -- bytes left alone
  pub kept_bound : drop (6 * length text + 32) new ≡ drop (6 * length text + 32) old
  pub kept_past : drop (count + lanes) new ≡ drop (count + lanes) old
