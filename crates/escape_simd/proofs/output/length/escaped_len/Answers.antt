use Rattle.escape_simd.proofs.Words.{◌≡◌, ◌+◌, ◌-◌, ◌<◌, ◌≤◌, ◌^◌, ℕ, List, true≢false, rules, arith, mode_numbered}
use Rattle.escape_simd.proofs.Lengths.{part-few, plain-long, rest-past}
use Rattle.escape_simd.proofs.RestSteps.{clean_rest}
use Rattle.escape_simd.proofs.output.length.escaped_len.Goals as goal

pub overflow_add-end : goal.overflow_add-end
overflow_add-end g c =
    let mode = mode_numbered g.row.MODE in let src : List ℕ = c.as_bytes-src.result.now in let front = c.clean_end-end.ensures in
    let few = part-few mode src c.clean_end-end.result (c.clean_end-end.result + c.min-count.result) c.part_len.result (omega arith) (omega (arith, front.inside, c.min-count.ensures)) c.part_len.ensures in
    omega (arith, few, front.inside, c.min-count.ensures, c.as_bytes-src.ensures.len)

pub parts-preserved : goal.parts-preserved
parts-preserved g c =
    let mode = mode_numbered g.row.MODE in let src : List ℕ = c.as_bytes-src.result.now in let front = c.clean_end-end.ensures in
    let rest = clean_rest mode src c.parts.at c.clean_end-end.result front.forward front.clean front.inside in
    let sum : (c.in_ok-total.total ≡ c.parts.total + (c.clean_end-end.result - c.parts.at + c.part_len.result)) × (c.in_ok-total.total < 2 ^ 64) = grind (arith, c.checked_add.ensures, c.branch-total.ensures, c.in_ok-total.ensures) in
    record {
      fits = sum.1;
      inside = omega (arith, front.inside, c.min-count.ensures);
      counted = omega (arith, sum.0, c.parts.invariant.counted, rest, c.part_len.ensures, front.forward);
    }

pub returns-in_err-total-clause-passes : goal.returns-in_err-total-clause-passes
returns-in_err-total-clause-passes g c =
    let mode = mode_numbered g.row.MODE in let src : List ℕ = c.as_bytes-src.result.now in let front = c.clean_end-end.ensures in
    let long = plain-long mode c.args.value.now src c.as_bytes-src.ensures.value in
    let rest = clean_rest mode src c.parts.at c.clean_end-end.result front.forward front.clean front.inside in
    let past : 2 ^ 64 ≤ c.parts.total + (c.clean_end-end.result - c.parts.at + c.part_len.result) = grind (arith, c.checked_add.ensures, c.branch-total.ensures) in
    (λ none. omega (arith, long, past, c.parts.invariant.counted, rest, c.part_len.ensures, front.forward), λ over. search rules)

pub returns-clause-exact : goal.returns-clause-exact
returns-clause-exact g c =
    let mode = mode_numbered g.row.MODE in let src : List ℕ = c.as_bytes-src.result.now in
    omega (arith, plain-long mode c.args.value.now src c.as_bytes-src.ensures.value, rest-past mode src c.parts.at (omega (arith, c.parts-test.false)), c.parts.invariant.counted)

pub returns-clause-passes : goal.returns-clause-passes
returns-clause-passes g c =
    let mode = mode_numbered g.row.MODE in let src : List ℕ = c.as_bytes-src.result.now in
    let whole = rest-past mode src c.parts.at (omega (arith, c.parts-test.false)) in
    (λ none. absurd (true≢false none), λ over. absurd (omega (arith, over, plain-long mode c.args.value.now src c.as_bytes-src.ensures.value, whole, c.parts.invariant.counted, c.parts.invariant.fits)))
