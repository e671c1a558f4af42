-- What is written: a JSON string literal, HTML, or a JSON string literal that can stand in a script element.
use Rattle.std.specs.Prelude.{ℕ, Bool, true, false}
use Rattle.std.proofs.Common.{zero, suc}

pub data Mode : Type 0 where
  json : Mode
  html : Mode
  script : Mode

-- the mode that the constant parameter `HTML` of the public calls names
abbrev pub mode_of : Bool → Mode
mode_of true = html
mode_of false = json

-- the mode that a number names: generic code has it as the constant parameter `MODE`
abbrev pub mode_numbered : ℕ → Mode
mode_numbered zero = json
mode_numbered (suc zero) = html
mode_numbered (suc (suc n)) = script
