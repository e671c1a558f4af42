use Rattle.escape_lanes.specs.Mode.{mode_numbered}
use Rattle.escape_lanes.proofs.EscapeMaskLemmas.{is-json, mask-wide}
use Rattle.escape_lanes.proofs.simd.neon.Simd128uClassifier16.escape_bits.Goals as goal

pub returns-then-is_script-clause-lanes : goal.returns-then-is_script-clause-lanes
returns-then-is_script-clause-lanes g c = mask-wide 16 48 c.lane_bits.result _ c.lane_bits.type_inv (c.is_script.ensures.0 c.if-is_script.true) c.lane_bits.ensures c.script_mask.ensures.lanes

pub returns-then-is_quoted-clause-lanes : goal.returns-then-is_quoted-clause-lanes
returns-then-is_quoted-clause-lanes g c =
    let json = is-json (mode_numbered g.row.MODE) c.is_script.result c.is_quoted.result c.is_script.ensures.1 c.is_quoted.ensures.1 c.if-is_script.false c.if-is_quoted.true in
    mask-wide 16 48 c.lane_bits-then-is_quoted.result _ c.lane_bits-then-is_quoted.type_inv json c.lane_bits-then-is_quoted.ensures c.escaped_mask.ensures.lanes

pub returns-else-is_quoted-clause-lanes : goal.returns-else-is_quoted-clause-lanes
returns-else-is_quoted-clause-lanes g c = mask-wide 16 48 c.lane_bits-else-is_quoted.result _ c.lane_bits-else-is_quoted.type_inv (c.is_quoted.ensures.0 c.if-is_quoted.false) c.lane_bits-else-is_quoted.ensures c.escaped_mask-else-is_quoted.ensures.lanes
