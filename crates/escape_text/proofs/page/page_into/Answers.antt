use Rattle.escape_text.proofs.PageLaws.{tags-after, text-after}
use Rattle.escape_text.proofs.page.page_into.Goals as goal

pub returns-else-is_err-clause-tags : goal.returns-else-is_err-clause-tags
returns-else-is_err-clause-tags g c = tags-after c.append_joined-appended.result _ _ c.args.parts.now c.append_joined-appended.ensures.exact

pub returns-else-is_err-clause-text : goal.returns-else-is_err-clause-text
returns-else-is_err-clause-text g c = text-after c.append_joined-appended.result c.args.parts.now c.append_joined-appended.ensures.texts
