-- What stands for the pieces that were passed was written, and with what stands for the rest that is all.
use Rattle.std.proofs.Common.{length}
use denote.Text.{Utf8}
use denote.Shadow.{shadow}
use Rattle.escape_simd.specs.Modes.{mode_numbered}
use Rattle.escape_text.proofs.SinkLemmas.{WritesSoFar}
use Rattle.escape_text.proofs.piecewise.send_pieces.Given as goal

abbrev pub invariant-pieces : goal.invariant-pieces
invariant-pieces g l = record {
  utf8 : shadow (Utf8 l.rest);
  so_far : WritesSoFar g.S.Sink.sends (mode_numbered g.row.MODE) l.initial.dst l.dst l.front l.rest;
}

abbrev pub decreases-pieces : goal.decreases-pieces
decreases-pieces g l = length l.rest
