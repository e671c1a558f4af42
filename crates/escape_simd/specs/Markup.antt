-- The markup of bytes.
use Rattle.std.specs.Prelude.{ℕ, List}
use Rattle.std.specs.List.{filter}
use Rattle.escape_simd.specs.Html.{is_markup}

-- The bytes of tags and attribute values among the bytes, in order: each `"`, `'`, `/`, `<` and `>`.
unfoldable pub markup_of : List ℕ → List ℕ
markup_of bytes = filter is_markup bytes
