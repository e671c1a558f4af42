use Rattle.std.proofs.Common.{refl}
use Rattle.escape_lanes.specs.Mode.{mode_numbered}
use Rattle.escape_lanes.proofs.EscapeMaskLemmas.{is-json, mask-wide}
use Rattle.escape_lanes.proofs.simd.sse2.Simd128uClassifier16.escape_bits.Goals as goal

pub returns-then-is_script-clause-lanes : goal.returns-then-is_script-clause-lanes
returns-then-is_script-clause-lanes g c = mask-wide 16 48 c.script_mask.result _ c.script_mask.type_inv (c.is_script.ensures.0 c.if-is_script.true) refl c.script_mask.ensures.lanes

pub returns-then-is_quoted-clause-lanes : goal.returns-then-is_quoted-clause-lanes
returns-then-is_quoted-clause-lanes g c =
    let json = is-json (mode_numbered g.row.MODE) c.is_script.result c.is_quoted.result c.is_script.ensures.1 c.is_quoted.ensures.1 c.if-is_script.false c.if-is_quoted.true in
    mask-wide 16 48 c.escaped_mask.result _ c.escaped_mask.type_inv json refl c.escaped_mask.ensures.lanes

pub returns-else-is_quoted-clause-lanes : goal.returns-else-is_quoted-clause-lanes
returns-else-is_quoted-clause-lanes g c = mask-wide 16 48 c.escaped_mask-else-is_quoted.result _ c.escaped_mask-else-is_quoted.type_inv (c.is_quoted.ensures.0 c.if-is_quoted.false) refl c.escaped_mask-else-is_quoted.ensures.lanes
