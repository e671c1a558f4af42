use Rattle.escape_simd.proofs.Last.{loaded-short, spilled-short}
use Rattle.escape_simd.proofs.simd.tail.spill_last.Goals as goal

pub returns-then-text : goal.returns-then-text
returns-then-text g c = spilled-short c.args.text.now (g.V.LoadStore.lanes c.load_last.result) c.put.new.dst g.row.N g.V.LoadStore.LANES c.if-text.true g.met.V.Classifier.lane_count (loaded-short c.args.text.now (g.V.LoadStore.lanes c.load_last.result) g.row.N g.V.LoadStore.LANES g.met.V.Classifier.lane_count c.load_last.ensures) c.put.ensures
