use Rattle.std.proofs.Common.{◌≤◌, All, IsUtf8, subst, take_all}
use Rattle.std.proofs.lemmas.List.Elements.{All-more}
use Rattle.escape_text.proofs.Many.{joined_more}
use Rattle.escape_text.proofs.list.append_joined.Goals as goal

pub pieces-preserved : goal.pieces-preserved
pieces-preserved g c =
    let pieces = c.args.pieces.now in
    let is = c.index-pieces-written.is in
    let inside = c.pieces-test.true in
    record {
      bytes = joined_more g.P.Piece.bytes c.args.between.now pieces _ _ _ _ _ _ inside is c.before-in-pieces.ensures c.pieces.invariant.bytes c.in_default.ensures.exact;
      texts = All-more (λ piece. IsUtf8 (g.P.Piece.bytes piece)) pieces _ _ inside c.pieces.invariant.texts (subst (λ piece. IsUtf8 (g.P.Piece.bytes piece)) is c.in_default.ensures.text);
      fits = All-more (λ piece. g.P.Piece.size piece ≤ 0xffff_ffff_ffff_ffff) pieces _ _ inside c.pieces.invariant.fits (subst (λ piece. g.P.Piece.size piece ≤ 0xffff_ffff_ffff_ffff) is c.in_default.ensures.fits);
    }

pub returns-clause-texts : goal.returns-clause-texts
returns-clause-texts g c =
    subst (All (λ piece. IsUtf8 (g.P.Piece.bytes piece))) (take_all _ c.args.pieces.now c.pieces-test.false) c.pieces.invariant.texts
