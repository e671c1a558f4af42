use Rattle.std.proofs.Common.{◌≡◌, ◌-◌, length, take}
use Rattle.std.specs.Str.{IsCharBoundary}
use Rattle.std.specs.Io.KnownBytes.{Appends}
use Rattle.escape_simd.specs.Output.{inner}
use Rattle.escape_simd.specs.Modes.{escaping}
use Rattle.escape_stream.proofs.escaped.write_pieces.Given as goal

-- What stands for the pieces so far was written.
abbrev pub invariant-pieces : goal.invariant-pieces
invariant-pieces g l = record {
  cut : IsCharBoundary l.text l.at;
  same_room : length l.room ≡ length l.initial.room;
  appended : Appends (g.W.Write.contents l.initial.output) (g.W.Write.contents l.output) (inner (escaping l.mode) (take l.at l.text));
}

abbrev pub decreases-pieces : goal.decreases-pieces
decreases-pieces g l = length l.text - l.at
