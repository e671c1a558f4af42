use Rattle.std.proofs.Common.{◌≡◌, ◌*◌, ◌/◌, ◌≤◌, ◌-◌, ◌&&◌, length, map, take, nat_eq}
use Rattle.std.specs.Simd.Lanes.{zip2}
use Rattle.escape_lanes.specs.Bits.{bits_of, none_set}
use Rattle.escape_lanes.specs.Mode.{mode_numbered}
use Rattle.escape_lanes.specs.Short.{is_long}
use Rattle.escape_lanes.proofs.simd.short.has_long.Given as goal

abbrev pub invariant-pieces : goal.invariant-pieces
invariant-pieces g l = record {
  told : nat_eq l.long 0 ≡ none_set (zip2 ◌&&◌ (map (is_long (mode_numbered g.row.MODE)) (take l.next l.text)) (bits_of 64 l.flags));
  sixteens : l.next ≡ 16 * (l.next / 16);
  fits : l.next ≤ length l.text;
}

abbrev pub decreases-pieces : goal.decreases-pieces
decreases-pieces g l = length l.text - l.next
