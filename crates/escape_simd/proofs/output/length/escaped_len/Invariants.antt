use Rattle.std.specs.Prelude.{◌^◌}
use Rattle.escape_simd.proofs.Words.{◌≡◌, ◌+◌, ◌-◌, ◌<◌, ◌≤◌, length, mode_numbered, quote_count, rest_length}
use Rattle.escape_simd.proofs.output.length.escaped_len.Given as goal

-- so many bytes stand for the text as far as `at`
abbrev pub invariant-parts : goal.invariant-parts
invariant-parts g l = record {
  fits : l.total < 2 ^ 64;
  inside : l.at ≤ length l.src;
  counted : l.total + rest_length (mode_numbered g.row.MODE) l.src l.at ≡ quote_count (mode_numbered g.row.MODE) + rest_length (mode_numbered g.row.MODE) l.src 0;
}

abbrev pub decreases-parts : goal.decreases-parts
decreases-parts g l = length l.src - l.at
