-- the pieces so far are appended: each is a text, and none was too large
use Rattle.std.proofs.Common.{◌≡◌, ◌≤◌, ◌++◌, All, take, IsUtf8}
use Rattle.std.specs.List.{join_by}
use Rattle.escape_text.proofs.list.append_joined.Given as goal

abbrev pub invariant-pieces : goal.invariant-pieces
invariant-pieces g l = record {
  bytes : l.dst.items ≡ l.fn.dst.items ++ join_by g.P.Piece.bytes l.between (take l.written l.pieces);
  texts : All (λ piece. IsUtf8 (g.P.Piece.bytes piece)) (take l.written l.pieces);
  fits : All (λ piece. g.P.Piece.size piece ≤ 0xffff_ffff_ffff_ffff) (take l.written l.pieces);
}
