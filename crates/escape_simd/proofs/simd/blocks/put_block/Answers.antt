use Rattle.escape_simd.proofs.Words.{◌∙◌, ap, take}
use Rattle.escape_simd.proofs.simd.blocks.put_block.Goals as goal

pub returns-clause-block : goal.returns-clause-block
returns-clause-block g c = rw (c.first_eight-eight.ensures.lanes ∙ ap (take 8) c.bits.ensures) at c.escape_block.ensures
