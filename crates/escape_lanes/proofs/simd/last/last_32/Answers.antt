use Rattle.std.proofs.Common.{◌-◌, ◌++◌, length, take, ap, ap₂, ◌∙◌, arith}
use Rattle.std.proofs.lemmas.List.{take_rest}
use Rattle.escape_lanes.proofs.LastLemmas.{low_half, both_halves}
use Rattle.escape_lanes.proofs.simd.last.last_32.Goals as goal

pub returns-then-count-lt16-clause-lanes : goal.returns-then-count-lt16-clause-lanes
returns-then-count-lt16-clause-lanes c =
    c.both_16.ensures ∙ ap₂ ◌++◌ c.last_16.ensures.lanes c.splat.ensures.lanes
    ∙ low_half c.args.src.now c.args.count c.type_inv.src c.requires.inside 16 (omega arith)

pub returns-clause-lanes : goal.returns-clause-lanes
returns-clause-lanes c =
    let src = c.args.src.now in
    let first = c.load-first.ensures.lanes ∙ ap (take 16) (take_rest src (length src - c.args.count)) in
    c.both_16-2.ensures ∙ ap₂ ◌++◌ first c.moved_down.ensures
    ∙ both_halves src c.args.count c.type_inv.src c.requires.inside 16 (omega arith) (omega arith)
