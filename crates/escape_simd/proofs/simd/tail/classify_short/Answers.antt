use Rattle.escape_simd.proofs.Words.{◌≡◌, ◌-◌, ◌∙◌, ℕ, List, length, take, drop, replicate, ap, sym, arith, take-append_seam, whole_mask}
use Rattle.escape_simd.proofs.Last.{loaded-short}
use Rattle.escape_simd.proofs.simd.tail.classify_short.Goals as goal

-- what is loaded is the text, with zeros after it
pub classify_front-last-requires : goal.classify_front-last-requires
classify_front-last-requires g c =
    let text : List ℕ = c.args.text.now in
    let loaded = loaded-short text (g.V.LoadStore.lanes c.load_last-v.result) g.row.N g.V.LoadStore.LANES g.met.V.Classifier.lane_count c.load_last-v.ensures in
    (omega arith, (omega (arith, c.requires.0), omega (arith, c.requires.1), ap (take (length text)) loaded ∙ take-append_seam text (replicate (g.row.N - length text) 0)))

pub returns-clause-loaded : goal.returns-clause-loaded
returns-clause-loaded g c = loaded-short c.args.text.now (g.V.LoadStore.lanes c.load_last-v.result) g.row.N g.V.LoadStore.LANES g.met.V.Classifier.lane_count c.load_last-v.ensures

pub returns-clause-masks : goal.returns-clause-masks
returns-clause-masks g c =
    let start : length c.args.text.now - g.row.N ≡ 0 = omega (arith, c.requires.1) in
    record { few = omega (arith, c.requires.1); front = λ some. absurd (omega (arith, some, c.requires.1)); back = c.classify_front-last.ensures.told ∙ ap (λ k. whole_mask (drop k c.args.text.now)) (sym start) }
