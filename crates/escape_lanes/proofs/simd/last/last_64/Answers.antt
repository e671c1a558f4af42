use Rattle.std.proofs.Common.{◌-◌, ◌++◌, length, take, ap, ap₂, ◌∙◌, arith}
use Rattle.std.proofs.lemmas.List.{take_rest}
use Rattle.escape_lanes.proofs.LastLemmas.{low_half, both_halves}
use Rattle.escape_lanes.proofs.simd.last.last_64.Goals as goal

pub returns-then-count-lt32-clause-lanes : goal.returns-then-count-lt32-clause-lanes
returns-then-count-lt32-clause-lanes c =
    c.both_32.ensures ∙ ap₂ ◌++◌ c.last_32.ensures.lanes c.splat.ensures.lanes
    ∙ low_half c.args.src.now c.args.count c.type_inv.src c.requires.inside 32 (omega arith)

pub returns-clause-lanes : goal.returns-clause-lanes
returns-clause-lanes c =
    let src = c.args.src.now in
    let first = c.load-first.ensures.lanes ∙ ap (take 32) (take_rest src (length src - c.args.count)) in
    c.both_32-2.ensures ∙ ap₂ ◌++◌ first c.last_32-2.ensures.lanes
    ∙ both_halves src c.args.count c.type_inv.src c.requires.inside 32 (omega arith) (omega arith)
