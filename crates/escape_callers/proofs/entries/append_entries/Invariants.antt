-- the entries so far are appended
use Rattle.std.proofs.Common.{◌≡◌, ◌++◌, flat_map, take}
use Rattle.escape_callers.specs.Written.{line_of}
use Rattle.escape_callers.proofs.entries.append_entries.Given as goal

abbrev pub invariant-loop-entry : goal.invariant-loop-entry
invariant-loop-entry g l = l.log.items ≡ l.initial.log.items ++ flat_map line_of (take l.entry-index l.entries)
