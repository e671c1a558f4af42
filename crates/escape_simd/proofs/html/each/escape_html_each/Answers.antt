use Rattle.escape_simd.proofs.Words.{arith, append_assoc, take, ◌≡◌, ◌<◌, ◌+◌, ◌++◌, ℕ, List, Bor, append-nil, concat, flat_map-append, get_or, get_or-map, get_or_default, html, length, length-map, map, plain}
use Rattle.std.proofs.lemmas.List.{take_more}
use Rattle.std.proofs.lemmas.List.Folds.{concat-append}
use Rattle.escape_simd.proofs.html.each.escape_html_each.Goals as goal

-- the bytes that a vector holds once one more text is written
written_more : (values : List (Bor (List ℕ))) (n : ℕ) (d : Bor (List ℕ)) (start before after : List ℕ) → n < length values
    → before ≡ start ++ plain html (concat (take n (map (λ v. v.now) values))) → after ≡ before ++ plain html (get_or values n d).now
    → after ≡ start ++ plain html (concat (take (n + 1) (map (λ v. v.now) values)))
written_more values n d start before after inside so_far more =
    let texts : List (List ℕ) = map (λ v. v.now) values in
    grind (arith, take_more texts n d.now (omega (arith, length-map values (λ v. v.now))), get_or-map (λ v. v.now) values n d d.now inside, concat-append, append-nil, append_assoc, flat_map-append)

pub loop-count-preserved : goal.loop-count-preserved
loop-count-preserved g c =
    let values = c.args.values.now in
    record {
      bytes = written_more values _ _ c.args.dst.now.items _ _ c.loop-count-test.true c.loop-count.invariant.bytes c.in_default.ensures.exact;
      fits = λ k d under. grind (arith, get_or_default values k d, c.loop-count.invariant.fits k d, c.in_default.ensures.fits);
    }
