use Rattle.escape_simd.proofs.Words.{arith, nat_tests, get_or_past}
use Rattle.escape_simd.proofs.Escapes.{begins-at}
use Rattle.escape_simd.proofs.simd.separator.is_separator.Goals.{then-src-at-via-then-src-at, then-src-at-via-else-src-at+then-src-at-lt3}
use Rattle.escape_simd.proofs.simd.separator.is_separator.Goals as goal

pub returns-then-src-at-clause-none : goal.returns-then-src-at-clause-none
returns-then-src-at-clause-none g c = λ _ _. let e = begins-at c.args.src.now c.args.at in elim c.then-src-at.branch [
  | then-src-at-via-then-src-at w ↦ grind (arith, nat_tests, e, w.if-src-at)
  | then-src-at-via-else-src-at+then-src-at-lt3 w ↦ grind (arith, nat_tests, e, get_or_past, w.if-src-at-lt3)
]

pub returns-then-third-clause-begins : goal.returns-then-third-clause-begins
returns-then-third-clause-begins g c = λ third. let e = begins-at c.args.src.now c.args.at in (grind arith, grind (arith, nat_tests, e, third))

pub returns-else-third-clause-begins : goal.returns-else-third-clause-begins
returns-else-third-clause-begins g c = λ third. let e = begins-at c.args.src.now c.args.at in (grind arith, grind (arith, nat_tests, e, third))

pub returns-else-third-clause-none : goal.returns-else-third-clause-none
returns-else-third-clause-none g c = λ third _. let e = begins-at c.args.src.now c.args.at in grind (arith, nat_tests, e, third)

pub returns-else-second-clause-none : goal.returns-else-second-clause-none
returns-else-second-clause-none g c = λ second _. let e = begins-at c.args.src.now c.args.at in grind (arith, nat_tests, e, second)
