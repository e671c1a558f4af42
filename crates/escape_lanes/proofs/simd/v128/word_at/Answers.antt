use Rattle.std.proofs.Common.{rules, ap, take, ◌∙◌}
use Rattle.std.proofs.lemmas.List.{take_rest}
use Rattle.escape_lanes.proofs.WordLemmas.{word-read}
use Rattle.escape_lanes.proofs.simd.v128.word_at.Goals as goal

pub returns : goal.returns
returns c = word-read c.load.result c.load.ensures.bytes.full (search rules) ∙ c.load.ensures.lanes ∙ ap (take 8) (take_rest c.args.src.now c.args.at)
