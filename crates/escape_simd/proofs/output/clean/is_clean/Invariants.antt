use Rattle.escape_simd.proofs.Words.{◌≡◌, ◌+◌, ◌-◌, ◌≤◌, length, mode_numbered, rest_length}
use Rattle.escape_simd.proofs.output.clean.is_clean.Given as goal

-- no more bytes than it has stand for the text as far as `at`
abbrev pub invariant-parts : goal.invariant-parts
invariant-parts g l = record {
  inside : l.at ≤ length l.src;
  counted : l.at + rest_length (mode_numbered g.row.MODE) l.src l.at ≡ rest_length (mode_numbered g.row.MODE) l.src 0;
}

abbrev pub decreases-parts : goal.decreases-parts
decreases-parts g l = length l.src - l.at
