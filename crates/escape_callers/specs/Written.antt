-- What the callers write, byte for byte.
use Rattle.std.specs.Prelude.{ℕ, List, ◌++◌, codes, flat_map}
use Rattle.std.specs.Borrow.{Bor}
use Rattle.escape_lanes.specs.Mode.{json, html, script}
use Rattle.escape_simd.specs.Output.{plain}
use Rattle.escape_callers.specs.declared.entries.Entry.{Entry}
use Rattle.escape_callers.specs.declared.page.TheConstants.{BEFORE_TITLE, BEFORE_ROWS, BEFORE_USER, AFTER_USER}

-- a log entry on a line of JSON
abbrev pub line_of : Entry → List ℕ
line_of r = codes "{\"level\":" ++ plain json r.level.now ++ codes ",\"message\":" ++ plain json r.message.now ++ codes "}\n"

-- a line of text as a JSON string on a line of its own
abbrev pub record_of : List ℕ → List ℕ
record_of line = plain json line ++ codes "\n"

-- a name in a row of a table
abbrev pub row_of : Bor (List ℕ) → List ℕ
row_of name = codes "<tr><td>" ++ plain html name.now ++ codes "</td></tr>"

-- the markup of a row
abbrev pub row_markup : List ℕ
row_markup = codes "<tr><td></td></tr>"

-- a page with a title, a table of names, and a user's name as data for a script
abbrev pub guests_of : List ℕ → List (Bor (List ℕ)) → List ℕ → List ℕ
guests_of title names user =
    BEFORE_TITLE.now ++ plain html title ++ BEFORE_ROWS.now ++ flat_map row_of names ++ BEFORE_USER.now ++ plain script user ++ AFTER_USER.now

-- the page's markup
abbrev pub guests_markup : List (Bor (List ℕ)) → List ℕ
guests_markup names = (BEFORE_TITLE.now ++ BEFORE_ROWS.now) ++ flat_map (λ _. row_markup) names ++ (BEFORE_USER.now ++ AFTER_USER.now)
