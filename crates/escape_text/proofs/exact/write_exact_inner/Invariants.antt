-- What was written, and what stands for the rest, are what stands for the text.
use Rattle.std.proofs.Common.{◌≡◌, ◌≤◌, ◌++◌, length, take}
use denote.Text.{Utf8}
use denote.Shadow.{shadow}
use Rattle.escape_simd.specs.Modes.{mode_numbered}
use Rattle.escape_simd.specs.Output.{inner}
use Rattle.escape_text.proofs.exact.write_exact_inner.Given as goal

abbrev pub invariant-pieces : goal.invariant-pieces
invariant-pieces g l = record {
  utf8 : shadow (Utf8 l.rest);
  text : take l.at l.dst ++ inner (mode_numbered g.row.MODE) l.rest ≡ inner (mode_numbered g.row.MODE) l.value;
  within : l.at ≤ length l.dst;
}

abbrev pub decreases-pieces : goal.decreases-pieces
decreases-pieces g l = length l.rest
