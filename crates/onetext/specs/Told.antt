-- The text in lent room: how many bytes were written, and what the room holds then.
use Rattle.std.specs.Prelude.{◌≡◌, cond, List, ℕ, leb, length}
use Rattle.base.specs.Put.{over}
use Rattle.onetext.specs.Text.{text}

-- the room that is asked for; no text is longer
abbrev pub text_room : ℕ
text_room = 4096

-- with that room the text stands at its start, and its length is told; with less nothing is written, and 0 is told
pub record Tells (image old new : List ℕ) (r : ℕ) : Type 0 where
  pub count : r ≡ cond (leb text_room (length old)) (length (text image)) 0
  pub room : new ≡ cond (leb text_room (length old)) (over (text image) old) old
