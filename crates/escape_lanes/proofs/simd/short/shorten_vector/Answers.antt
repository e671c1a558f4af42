use Rattle.std.proofs.Common.{◌∙◌, arith}
use Rattle.std.proofs.lemmas.List.{length-set}
use Rattle.escape_lanes.proofs.ShortLemmas.{pieces-on}
use Rattle.escape_lanes.proofs.simd.short.shorten_vector.Goals as goal

pub pieces-preserved : goal.pieces-preserved
pieces-preserved g c =
    let i = c.pieces.invariant in
    record {
      fits = omega (arith, c.pieces-test.true, c.requires.most);
      four = length-set c.pieces.pieces c.pieces.next c.shorten.result ∙ i.four;
      done = pieces-on c.args.text.now c.args.at c.pieces.next c.pieces.pieces c.shorten.result (omega (arith, i.four, c.pieces-test.true, c.requires.most)) c.shorten.ensures i.done;
    }
