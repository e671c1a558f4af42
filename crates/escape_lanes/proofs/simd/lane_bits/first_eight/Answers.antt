use Rattle.std.proofs.Common.{◌∙◌, nat_eq, sym, ap}
use Rattle.escape_lanes.specs.Spread.{flag_count}
use Rattle.escape_lanes.proofs.BitLemmas.{bits-low, bits-take}
use Rattle.escape_lanes.proofs.SpreadLemmas.{byte-none}
use Rattle.escape_lanes.proofs.simd.lane_bits.first_eight.Goals as goal

pub returns-clause-lanes : goal.returns-clause-lanes
returns-clause-lanes c = bits-low 8 c.args.flags ∙ sym (bits-take 8 56 c.args.flags)

pub returns-clause-none : goal.returns-clause-none
returns-clause-none c = sym (byte-none c.args.flags) ∙ ap (λ bs. nat_eq (flag_count bs) 0) (sym (bits-low 8 c.args.flags))
