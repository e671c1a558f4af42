-- What the output for a text is, as one word over the mode.
use Rattle.std.specs.Prelude.{ℕ, List}
use Rattle.escape_lanes.specs.Mode.{Mode, json, html, script}
use Rattle.escape_simd.specs.Html.{IsOnlyHtml}
use Rattle.escape_simd.specs.Json.{IsOnlyJson}
use Rattle.escape_simd.specs.Script.{IsOnlyScript}

-- the bytes are the one output for the text in the mode
abbrev pub IsOnlyOutput : Mode → List ℕ → List ℕ → Type 0
IsOnlyOutput json bytes text = IsOnlyJson bytes text
IsOnlyOutput html bytes text = IsOnlyHtml bytes text
IsOnlyOutput script bytes text = IsOnlyScript bytes text
