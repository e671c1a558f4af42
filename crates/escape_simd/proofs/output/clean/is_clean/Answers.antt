use Rattle.escape_simd.proofs.Words.{◌≡◌, ◌<◌, ℕ, List, length, refl, sym, ap, true≢false, arith, inner, mode_numbered, subst}
use Rattle.escape_simd.proofs.Lengths.{grown-flagged, part-grown, part-longer, rest-all, rest-past, same-length}
use Rattle.escape_simd.proofs.RestSteps.{clean_rest}
use Rattle.escape_simd.proofs.output.clean.is_clean.Goals as goal

-- where more bytes than it has stand for a part, so they do for the text
grown : (g : _) (c : goal.Then-part_len-count g) → length c.args.value.now < length (inner (mode_numbered g.row.MODE) c.args.value.now)
grown g c =
    let mode = mode_numbered g.row.MODE in let src : List ℕ = c.as_bytes-src.result.now in let front = c.clean_end-end.ensures in
    part-grown mode c.args.value.now src c.parts.at c.clean_end-end.result c.as_bytes-src.ensures.value front c.parts.invariant.counted
    (part-longer mode src c.clean_end-end.result c.min-count.result c.part_len.result (omega (arith, front.inside, c.min-count.ensures)) c.part_len.ensures c.if-part_len-count.true)

pub returns-then-part_len-count-clause-itself : goal.returns-then-part_len-count-clause-itself
returns-then-part_len-count-clause-itself g c = (λ clean. absurd (true≢false (sym clean)), λ same. absurd (omega (arith, grown g c, ap length same)))

pub returns-then-part_len-count-clause-flagged : goal.returns-then-part_len-count-clause-flagged
returns-then-part_len-count-clause-flagged g c = λ told. grown-flagged (mode_numbered g.row.MODE) c.args.value.now (grown g c)

pub parts-preserved : goal.parts-preserved
parts-preserved g c =
    let mode = mode_numbered g.row.MODE in let src : List ℕ = c.as_bytes-src.result.now in let front = c.clean_end-end.ensures in
    let rest = clean_rest mode src c.parts.at c.clean_end-end.result front.forward front.clean front.inside in
    record {
      inside = omega (arith, front.inside, c.min-count.ensures);
      counted = omega (arith, c.parts.invariant.counted, rest, c.part_len.ensures, c.if-part_len-count.false, front.forward);
    }

pub returns-clause-itself : goal.returns-clause-itself
returns-clause-itself g c =
    let mode = mode_numbered g.row.MODE in let src : List ℕ = c.as_bytes-src.result.now in let is = c.as_bytes-src.ensures.value in
    let none = rest-past mode src c.parts.at (omega (arith, c.parts-test.false)) in
    let long : length (inner mode src) ≡ length src = omega (arith, rest-all mode src, none, c.parts.invariant.counted, c.parts.invariant.inside, c.parts-test.false) in
    (λ clean. subst (λ xs. inner mode xs ≡ xs) is (same-length mode src long), λ same. refl)
