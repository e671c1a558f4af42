use Rattle.escape_simd.proofs.Words.{◌+◌, ◌≤◌, arith, mode_numbered, IsPartLength}
use Rattle.escape_simd.proofs.Lengths.{added-alone, added-separator}
use Rattle.escape_simd.proofs.output.length.added.Given.{Over}
use Rattle.escape_simd.proofs.output.length.added.Goals as goal

-- where no separator begins, the entry counts what stands for the byte
counts : (g : Over) (c : goal.After-from g) → (1 ≤ c.entry.result.now.0) × IsPartLength (mode_numbered g.row.MODE) c.args.src.now c.args.at (c.args.at + 1) c.entry.result.now.0
counts g c =
    added-alone (mode_numbered g.row.MODE) c.args.src.now c.args.at c.requires.0 c.requires.1 (c.is_separator.ensures.none c.if-is_separator.false) c.entry.result.now.0 c.entry.ensures.count

pub returns-then-is_separator : goal.returns-then-is_separator
returns-then-is_separator g c =
    let is = c.is_separator.ensures.begins c.if-is_separator.true in
    added-separator (mode_numbered g.row.MODE) c.args.src.now c.args.at c.requires.0 is.0 is.1

pub overflow_sub-result : goal.overflow_sub-result
overflow_sub-result g c = omega (arith, c.from.ensures, (counts g c).0)

pub returns : goal.returns
returns g c = omega (arith, c.from.ensures, counts g c)
