use Rattle.std.proofs.Common.{◌+◌, ◌≤◌, length, refl, arith}
use Rattle.escape_lanes.specs.Bits.{none_set}
use Rattle.escape_lanes.specs.Mode.{mode_numbered}
use Rattle.escape_lanes.specs.Short.{is_long}
use Rattle.escape_lanes.proofs.ShortLemmas.{piece-more}
use Rattle.escape_lanes.proofs.simd.short.has_long.Goals as goal

pub pieces-init : goal.pieces-init
unfolding none_set
pieces-init g c = record { told = refl; sixteens = omega arith; fits = omega arith }

pub pieces-preserved : goal.pieces-preserved
pieces-preserved g c =
    let i = c.pieces.invariant in
    let fits : c.pieces.next + 16 ≤ length c.args.text.now = omega (arith, c.requires.sixteens, i.sixteens, c.pieces-test.true) in
    record {
      told = piece-more (is_long (mode_numbered g.row.MODE)) c.args.text.now c.args.flags c.pieces.next c.pieces.long c.long_lanes.result c.shift_lanes.result
          fits (omega (arith, fits, c.requires.few)) c.long_lanes.type_inv i.told c.long_lanes.ensures c.shift_lanes.ensures;
      sixteens = omega (arith, i.sixteens);
      fits = fits;
    }
