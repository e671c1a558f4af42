-- The modes as the values that callers have.
pub use Rattle.escape_lanes.specs.Mode.{mode_numbered}
use Rattle.escape_lanes.specs.Mode.{Mode, json, html, script}
use Rattle.escape_simd.specs.declared.mode.Mode as value
use Rattle.escape_simd.specs.declared.mode.Mode.TheVariants.{Json, Html, Script}

-- the mode that a value names
abbrev pub escaping : value.Mode → Mode
escaping Json = json
escaping Html = html
escaping Script = script
