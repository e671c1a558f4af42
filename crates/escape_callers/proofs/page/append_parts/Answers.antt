use Rattle.std.proofs.Common.{ℕ, List, ◌++◌, flat_map}
use Rattle.escape_text.proofs.PageLaws.{tags_then}
use Rattle.escape_callers.specs.declared.page.TheConstants.{BEFORE_TITLE, BEFORE_ROWS, BEFORE_USER, AFTER_USER}
use Rattle.escape_callers.specs.Written.{row_markup}
use Rattle.escape_callers.proofs.page.append_parts.Goals as goal

pub returns-clause-tags : goal.returns-clause-tags
returns-clause-tags g c =
    let head = BEFORE_TITLE.now ++ BEFORE_ROWS.now in let rows = flat_map (λ _. row_markup) c.args.names.now in let end = BEFORE_USER.now ++ AFTER_USER.now in
    let first : List ℕ = c.page_into.new.dst.items in let last : List ℕ = c.page_into-2.new.dst.items in
    tags_then c.args.page.now.items head first (rows ++ end) last c.in_ok-page_into.ensures.tags
    (tags_then first rows c.append_rows.new.page.items end last c.in_ok-append_rows.ensures.tags c.in_ok-page_into-2.ensures.tags)
