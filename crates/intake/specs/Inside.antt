-- What the inner functions say of an image's columns, and of the codes at the places of the flat array.
use Rattle.std.specs.Prelude.{◌≡◌, Option, Some, None, List, ℕ, ◌+◌, ◌*◌, ◌/◌, ◌%◌, get_or, drop}
use Rattle.base.specs.Words.{listed}
use Rattle.base.specs.Answer.{given, refused}
use Rattle.board.specs.Record.{room}
use Rattle.board.specs.Inner.{part_at, Parts}
use Rattle.intake.specs.declared.image.Outline.{Outline}
use Rattle.intake.specs.Image.{columns_in}

-- the columns of an image lie there (they begin at byte 11)
pub record Lies (image starts counts : List ℕ) : Type 0 where
  pub parts : Parts starts counts image
  pub columns : columns_in 8 (drop 11 image) ≡ given (listed 8 (part_at starts counts image))

-- where the columns of an image lie, or that they do not end where it does
abbrev pub Outlined : List ℕ → Option Outline → Type 0
Outlined image (Some o) = Lies image o.starts o.counts
Outlined image None = columns_in 8 (drop 11 image) ≡ refused 12

-- the code at place p, for columns that are parts of some bytes, and for a deck
abbrev pub part_code : List ℕ → List ℕ → List ℕ → ℕ → ℕ
part_code starts counts codes p = get_or (part_at starts counts codes (p / room)) (p % room) 0

abbrev pub deck_code : List ℕ → ℕ → ℕ
deck_code deck p = get_or deck (p % room * 8 + p / room) 0
