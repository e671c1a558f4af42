-- Texts, and byte lists that are made of one item for each character of a text.
use Rattle.std.specs.Prelude.{◌≡◌, ℕ, true, List, encode_utf8_all}
use Rattle.std.specs.List.{AllZip, concat}
use Rattle.std.specs.Str.{all_scalars}

-- the text is a list of characters, each the number of a Unicode scalar value, and the bytes are its UTF-8 form
pub record IsTextOf (bytes text : List ℕ) : Type 0 where
  pub scalars : all_scalars text ≡ true
  pub encoded : encode_utf8_all text ≡ bytes

-- the bytes are items of the characters of the text, one by one and in order, joined
pub record Spells (Item : List ℕ → ℕ → Type 0) (bytes text : List ℕ) : Type 0 where
  pub items : List (List ℕ)
  pub each : AllZip Item items text
  pub joined : bytes ≡ concat items
