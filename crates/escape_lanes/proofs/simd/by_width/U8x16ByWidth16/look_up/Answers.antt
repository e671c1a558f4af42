use Rattle.std.proofs.Common.{refl, arith}
use Rattle.escape_lanes.proofs.NibbleLemmas.{places_ok, looked_up, once}
use Rattle.escape_lanes.proofs.simd.by_width.U8x16ByWidth16.look_up.Goals as goal

pub swizzle : goal.swizzle
swizzle c = places_ok 16 c.args.places.now c.requires refl

pub returns : goal.returns
returns c = looked_up 16 c.args.places.now c.requires refl _ c.args.table.now (once c.args.table.now (omega arith))
