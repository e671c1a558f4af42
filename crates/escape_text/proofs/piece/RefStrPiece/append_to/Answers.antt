use Rattle.escape_simd.specs.Modes.{mode_numbered}
use Rattle.escape_simd.proofs.PlainLaws.{plain_is_utf8}
use Rattle.escape_text.proofs.piece.RefStrPiece.append_to.Goals as goal

pub returns-clause-text : goal.returns-clause-text
returns-clause-text g c = plain_is_utf8 (mode_numbered g.row.MODE) c.args.self.now.now c.type_inv.self
