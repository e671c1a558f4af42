use Rattle.std.proofs.Common.{refl, ◌∙◌}
use Rattle.escape_simd.specs.Modes.{mode_numbered}
use Rattle.escape_text.proofs.QuoteLemmas.{ends-quoted}
use Rattle.escape_text.proofs.exact.write_exact.Goals as goal

pub returns : goal.returns
returns g c =
    let is = c.as_bytes-quote.ensures.value ∙ c.quote.ensures in
    ends-quoted (mode_numbered g.row.MODE) c.args.value.now c.as_bytes-quote.result.now c.args.dst.now c.copy_from_slice.new.self c.write_exact_inner.new.dst c.copy_from_slice-2.new.self _ _ is c.copy_from_slice.ensures.after c.copy_from_slice-2.ensures.after c.write_exact_inner.ensures c.requires.room refl
