use Rattle.escape_lanes.proofs.NarrowLemmas.{digits-bytes, nibbles-widened}
use Rattle.escape_lanes.proofs.simd.bits.flags_of_nibbles.Goals as goal

pub returns-clause-bytes : goal.returns-clause-bytes
returns-clause-bytes c = digits-bytes 16 _

pub returns-clause-lanes : goal.returns-clause-lanes
returns-clause-lanes c = nibbles-widened c.args.nibbles
