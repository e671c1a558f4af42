-- What a page is, byte for byte, and its tags.
use Rattle.std.specs.Prelude.{ℕ, Bool, ◌==◌, ◌||◌, List, [], length, flat_map}
use Rattle.std.specs.List.{filter}
use Rattle.escape_lanes.specs.Mode.{html, script}
use Rattle.escape_simd.specs.Output.{plain, bound}
use Rattle.escape_text.specs.declared.page.Part.{Part}
use Rattle.escape_text.specs.declared.page.Part.TheVariants.{Markup, Text, Script}

-- what a part is on the page
abbrev pub bytes_of_part : Part → List ℕ
bytes_of_part (Markup markup) = markup.now
bytes_of_part (Text text) = plain html text.now
bytes_of_part (Script text) = plain script text.now

-- the page
abbrev pub page_of : List Part → List ℕ
page_of parts = flat_map bytes_of_part parts

-- how many bytes a part wants; markup that is copied wants no more than it has
abbrev pub bound_of_part : Part → ℕ
bound_of_part (Markup markup) = 0
bound_of_part (Text text) = bound html (length text.now)
bound_of_part (Script text) = bound script (length text.now)

abbrev pub markup_of_part : Part → List ℕ
markup_of_part (Markup markup) = markup.now
markup_of_part (Text text) = []
markup_of_part (Script text) = []

-- the page without its texts and its literals
abbrev pub template_of : List Part → List ℕ
template_of parts = flat_map markup_of_part parts

abbrev pub is_tag : ℕ → Bool
is_tag b = (b == 0x3c) || (b == 0x3e)

-- each `<` and `>` among the bytes, in order
unfoldable pub tags_of : List ℕ → List ℕ
tags_of bytes = filter is_tag bytes
