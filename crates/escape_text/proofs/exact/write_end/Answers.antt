use Rattle.std.proofs.Common.{arith}
use Rattle.escape_simd.specs.Modes.{mode_numbered}
use Rattle.escape_simd.proofs.Texts.{length-inner}
use Rattle.escape_text.proofs.exact.write_end.Goals as goal

pub escape_inner-end-requires : goal.escape_inner-end-requires
escape_inner-end-requires g c =
    omega (arith, length-inner (mode_numbered g.row.MODE) c.args.rest.now, c.requires.ends, c.requires.few)
