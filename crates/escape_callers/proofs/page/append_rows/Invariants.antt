-- the rows so far are appended
use Rattle.std.proofs.Common.{◌≡◌, ◌++◌, flat_map, take}
use Rattle.escape_text.specs.Page.{tags_of}
use Rattle.escape_callers.specs.Written.{row_of, row_markup}
use Rattle.escape_callers.proofs.page.append_rows.Given as goal

abbrev pub invariant-loop-name : goal.invariant-loop-name
invariant-loop-name g l = record {
  bytes : l.page.items ≡ l.initial.page.items ++ flat_map row_of (take l.name-index l.names);
  tags : tags_of l.page.items ≡ tags_of (l.initial.page.items ++ flat_map (λ _. row_markup) (take l.name-index l.names));
}
