use Rattle.escape_simd.proofs.Words.{arith, true≢false, sym, ◌∙◌}
use Rattle.escape_simd.proofs.RunsOfFlags.{mask-ends, mask-goes, mask-told}
use Rattle.escape_simd.proofs.simd.util.run.EscapeMaskRunEnd.goes_on.Goals as goal

pub clear_first_flag-requires : goal.clear_first_flag-requires
clear_first_flag-requires g c = (omega arith, c.requires.1.some)

pub is_flagged-requires : goal.is_flagged-requires
is_flagged-requires g c = (omega (arith, mask-told c.requires.1 c.requires.2 c.clear_first_flag.ensures (sym c.is_clear.ensures ∙ c.if-not-is_clear.true)))

pub returns-then-not-is_clear-clause-goes : goal.returns-then-not-is_clear-clause-goes
returns-then-not-is_clear-clause-goes g c = λ here. mask-goes c.requires.1 c.requires.2 c.clear_first_flag.ensures (sym c.is_clear.ensures ∙ c.if-not-is_clear.true) (sym c.is_flagged.ensures ∙ here)

pub returns-then-not-is_clear-clause-ends : goal.returns-then-not-is_clear-clause-ends
returns-then-not-is_clear-clause-ends g c = λ other. mask-ends c.requires.1 c.requires.2 c.clear_first_flag.ensures c.requires.3 (λ _. sym c.is_flagged.ensures ∙ other)

pub returns-else-not-is_clear-clause-ends : goal.returns-else-not-is_clear-clause-ends
returns-else-not-is_clear-clause-ends g c = λ _. mask-ends c.requires.1 c.requires.2 c.clear_first_flag.ensures c.requires.3 (λ some. absurd (true≢false (sym c.if-not-is_clear.false ∙ c.is_clear.ensures ∙ some)))
