use Rattle.std.proofs.Common.{refl, arith}
use Rattle.escape_lanes.proofs.NibbleLemmas.{places_ok, looked_up, once, twice}
use Rattle.escape_lanes.proofs.simd.by_width.U8x32ByWidth32.look_up.Goals as goal

pub swizzle : goal.swizzle
swizzle c = places_ok 32 c.args.places.now c.requires refl

pub returns : goal.returns
returns c = looked_up 32 c.args.places.now c.requires refl _ c.args.table.now (twice 16 refl (once c.args.table.now (omega arith)) c.both_16.ensures)
