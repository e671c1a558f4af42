use Rattle.std.proofs.Common.{◌≡◌, ◌%◌, arith}
use Rattle.escape_lanes.proofs.ShortLemmas.{last-half}
use Rattle.escape_lanes.proofs.simd.short.half.Goals as goal

pub returns-clause-block : goal.returns-clause-block
returns-clause-block c =
    let e : c.args.block % 2 ≡ 1 = omega (arith, c.if-block-eq0.false) in
    rw e (last-half c.args.piece c.requires)
