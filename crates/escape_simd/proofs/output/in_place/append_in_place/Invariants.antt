use Rattle.escape_simd.proofs.Words.{◌≡◌, ◌+◌, ◌*◌, ◌≤◌, ◌++◌, length, take, vec_len, vec_capacity, mode_numbered, inner}
use denote.Text.{Utf8}
use denote.Shadow.{shadow}
use Rattle.escape_simd.proofs.output.in_place.append_in_place.Given as goal

-- what was written and what is yet to be written stand for the text
abbrev pub invariant-pieces : goal.invariant-pieces
invariant-pieces g l = record {
  utf8 : shadow (Utf8 l.rest);
  fits : l.end ≤ vec_len l.dst;
  room : l.end + 6 * length l.rest + 32 ≤ vec_capacity l.dst;
  written : take l.end l.dst.items ++ inner (mode_numbered g.row.MODE) l.rest ≡ l.fn.dst.items ++ inner (mode_numbered g.row.MODE) l.value;
}

abbrev pub decreases-pieces : goal.decreases-pieces
decreases-pieces g l = length l.rest
