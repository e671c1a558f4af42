use Rattle.escape_simd.proofs.Words.{◌≡◌, ◌-◌, ◌≤◌, ◌++◌, take, length, vec_capacity, mode_numbered, IsFront}
use Rattle.escape_simd.proofs.output.bytes.append_long.Given as goal

-- the clean front was appended as far as `at`
abbrev pub invariant-chunks : goal.invariant-chunks
invariant-chunks g l = record {
  front : IsFront (mode_numbered g.row.MODE) l.text 0 l.at;
  copied : l.dst.items ≡ l.fn.dst.items ++ take l.at l.text;
  capacity : vec_capacity l.fn.dst ≤ vec_capacity l.dst;
}

abbrev pub decreases-chunks : goal.decreases-chunks
decreases-chunks g l = length l.text - l.at

abbrev pub invariant-vectors : goal.invariant-vectors
invariant-vectors g l = record {
  front : IsFront (mode_numbered g.row.MODE) l.text 0 l.at;
  copied : l.dst.items ≡ l.fn.dst.items ++ take l.at l.text;
  capacity : vec_capacity l.fn.dst ≤ vec_capacity l.dst;
}

abbrev pub decreases-vectors : goal.decreases-vectors
decreases-vectors g l = length l.text - l.at
