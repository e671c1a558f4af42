use Rattle.escape_simd.proofs.Words.{◌≡◌, ℕ, ◌<◌, ◌≤◌, ◌++◌, List, length, map, take, slice_index_or, Bor, concat, html, plain, bound}
use Rattle.escape_simd.proofs.html.each.escape_html_each.Given as goal

-- the texts so far are written, and none of them was too large
abbrev pub invariant-loop-count : goal.invariant-loop-count
invariant-loop-count g l = record {
  bytes : l.dst.items ≡ l.fn.dst.items ++ plain html (concat (take l.count (map (λ v. v.now) l.values)));
  fits : (k : ℕ) (d : Bor (List ℕ)) → k < l.count → bound html (length (slice_index_or l.values k d).now) ≤ 0xffff_ffff_ffff_ffff;
}
