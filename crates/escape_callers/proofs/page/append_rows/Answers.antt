use Rattle.escape_text.proofs.Many.{appended_more}
use Rattle.escape_text.proofs.PageLaws.{tags_more}
use Rattle.escape_callers.specs.Written.{row_of, row_markup}
use Rattle.escape_callers.proofs.page.append_rows.Goals as goal

pub loop-name-preserved : goal.loop-name-preserved
loop-name-preserved g c = record {
  bytes = appended_more row_of c.args.names.now _ _ c.loop-name-test.true _ _ _ c.loop-name.invariant.bytes c.in_ok-page_into.ensures.exact;
  tags = tags_more row_markup c.args.names.now _ c.loop-name-test.true _ _ _ c.loop-name.invariant.tags c.in_ok-page_into.ensures.tags;
}
