use Rattle.std.proofs.Common.{◌≡◌, ℕ, ◌+◌, ◌-◌, ◌*◌, ◌<◌, ◌≤◌, [], length, take, drop, map, slice_index_or}
use Rattle.escape_lanes.specs.Short.{shortened}
use Rattle.escape_lanes.proofs.simd.short.shorten_vector.Given as goal

-- the first pieces are there
abbrev pub invariant-pieces : goal.invariant-pieces
invariant-pieces g l = record {
  four : length l.pieces ≡ 4;
  fits : l.next ≤ 4;
  done : (k : ℕ) → k < l.next → slice_index_or l.pieces k [] ≡ map shortened (take 16 (drop (l.at + 16 * k) l.text));
}

abbrev pub decreases-pieces : goal.decreases-pieces
decreases-pieces g l = 4 - l.next
