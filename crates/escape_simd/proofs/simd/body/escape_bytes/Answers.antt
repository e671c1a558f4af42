use Rattle.escape_simd.proofs.Words.{◌+◌, ◌*◌, ◌≤◌, length, arith, mode_numbered}
use Rattle.escape_simd.proofs.Costs.{body-all, body-on, body-rest, body-room, room-same}
use Rattle.escape_simd.proofs.Vectors.{advanced-asked, advanced-bordered, advanced-from}
use Rattle.escape_simd.proofs.simd.body.escape_bytes.Goals as goal

pub chunk-requires : goal.chunk-requires
chunk-requires g c =
    let i = c.chunks.invariant.stretch.inside in
    let inside : c.chunks.at + 5 * g.row.N ≤ length c.args.src.now = omega (arith, c.chunks-test.true, i) in
    (omega arith, (inside, body-room c.chunks.invariant (c.chunks.at + 4 * g.row.N) c.requires (omega (arith, inside))))

pub chunks-preserved : goal.chunks-preserved
chunks-preserved g c =
    let i = c.chunks.invariant.stretch.inside in
    body-on c.chunks.invariant 4 g.met.V.Classifier.several (omega (arith, c.chunks-test.true, i)) (omega arith) (omega arith) c.chunk.ensures

pub escape_by_mask-requires : goal.escape_by_mask-requires
escape_by_mask-requires g c =
    let i = c.vectors.invariant.stretch.inside in let a = c.classify-mask.ensures in
    let inside : c.vectors.at + 2 * g.row.N ≤ length c.args.src.now = omega (arith, c.vectors-test.true, i) in
    let room = body-room c.vectors.invariant (c.vectors.at + g.row.N) c.requires (omega (arith, inside)) in
    (omega arith, (omega arith, (a.told, record { few = omega arith; inside = omega (arith, inside); room = room })))

pub vectors-preserved : goal.vectors-preserved
vectors-preserved g c =
    let i = c.vectors.invariant.stretch.inside in
    body-on c.vectors.invariant 1 g.met.V.Classifier.several (omega (arith, c.vectors-test.true, i)) (omega arith) (omega arith) (advanced-bordered (omega arith) (advanced-asked c.vectors.ticks 1 c.classify-mask.ensures.tick c.escape_by_mask.ensures))

pub store_clean_tail-requires : goal.store_clean_tail-requires
store_clean_tail-requires g c =
    let i = c.vectors.invariant.stretch.inside in
    (omega arith, (omega arith, body-rest c.vectors.invariant c.requires (omega (arith, c.vectors-test.false, i))))

pub escape_flagged_tail-requires : goal.escape_flagged_tail-requires
escape_flagged_tail-requires g c =
    let i = c.vectors.invariant.stretch.inside in let asked = c.in-Err.ensures in
    (omega arith, (omega arith, (asked.flagged, room-same asked.unchanged (body-rest c.vectors.invariant c.requires (omega (arith, c.vectors-test.false, i))).1)))

pub returns-in-Ok : goal.returns-in-Ok
returns-in-Ok g c = body-all c.vectors.invariant g.met.V.Classifier.several c.in-Ok.ensures.clean

pub returns-in-Err : goal.returns-in-Err
returns-in-Err g c =
    let asked = c.in-Err.ensures in
    body-all c.vectors.invariant g.met.V.Classifier.several (advanced-asked c.vectors.ticks _ asked.ticks (advanced-from asked.unchanged c.escape_flagged_tail.ensures))
