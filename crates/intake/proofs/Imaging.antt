-- Reading an image case by case, and the record that an accepted one fills.
use Rattle.std.specs.Prelude.{Err, Ok, Result}
use mathlib.Core.Path.{◌≡◌, refl, ap, ◌∙◌}
use mathlib.Core.Bool.{true, false}
use mathlib.Core.List.{List}
use Prim.Native.Nat.{ℕ, ◌+◌, ◌-◌, ◌*◌, ◌<◌, ◌≤◌}
use native.Mathlib.Omega.{arith}
use borrow.Author.Tests.{le-leb, lt-leb, eq-eqb, ne_eqb}
use lib.Dec.{leb}
use lib.ListN.{length, get_or, take, drop, length-drop}
use lib.Seq.{drop-drop}
use Rattle.base.specs.Words.{all, listed}
use Rattle.base.specs.Answer.{Answer, given, refused}
use Rattle.base.proofs.Words.{listed_same, second_fails, both}
use Rattle.board.specs.Verdict.{verdict_on}
use Rattle.board.specs.Record.{at_most, board_of, laid, tableau_room}
use Rattle.board.specs.Refusal.{number_of, answered}
use Rattle.board.proofs.Tables.{part_length}
use Rattle.board.proofs.Records.{record_of_columns, listed_back}
use Rattle.intake.specs.Image.{framed, versioned, columns_in, verdict_with, bodied, image_read}
use Rattle.board.specs.Inner.{part_at, Parts}
use Rattle.intake.specs.Inside.{part_code}
use Rattle.board.specs.declared.Refusal.{Refusal}

-- ---- the record of parts

pub board_of_parts : (cells foundation starts counts codes : List ℕ) → Parts starts counts codes
    → board_of (record { cells = cells; foundation = foundation; columns = listed 8 (part_at starts counts codes) })
    ≡ laid cells foundation counts (listed tableau_room (part_code starts counts codes))
board_of_parts cells foundation starts counts codes p =
    record_of_columns cells foundation (part_at starts counts codes)
    ∙ ap (λ (c : List ℕ). laid cells foundation c (listed tableau_room (part_code starts counts codes)))
    (listed_same (λ i. length (part_at starts counts codes i)) (λ i. get_or counts i 0) 8 (λ i h. part_length starts counts codes i (p.within i h))
    ∙ listed_back counts 8 p.counts8)

-- ---- the body

module _ (image : List ℕ) where
  pub body_short : length image < 11 → bodied (drop 3 image) ≡ refused 12
  unfolding bodied
  body_short h = rw (lt-leb 8 (length (drop 3 image)) (let l = length-drop 3 image in omega arith))

  module _ (long : 11 ≤ length image) where
    body_long : leb 8 (length (drop 3 image)) ≡ true
    body_long = le-leb 8 (length (drop 3 image)) (let l = length-drop 3 image in omega arith)

    pub body_piles : {foundation : List ℕ} → foundation ≡ take 4 (drop 7 image) → all (at_most 13) foundation ≡ false → bodied (drop 3 image) ≡ refused 12
    unfolding bodied
    body_piles f e = rw (body_long, drop-drop 4 3 image, ← f, e)

    pub body_columns : {cells foundation : List ℕ} {r : Answer (List (List ℕ))}
        → cells ≡ take 4 (drop 3 image) → foundation ≡ take 4 (drop 7 image) → all (at_most 13) foundation ≡ true → columns_in 8 (drop 11 image) ≡ r
        → bodied (drop 3 image) ≡ verdict_with cells foundation r
    unfolding bodied
    body_columns c f e q = rw (body_long, drop-drop 4 3 image, drop-drop 8 3 image, ← c, ← f, e, q)

pub columns_refused : (cells foundation : List ℕ) → verdict_with cells foundation (refused 12) ≡ refused 12
unfolding verdict_with
columns_refused cells foundation = refl

module _ (cells foundation : List ℕ) (columns : List (List ℕ)) {r : Result (Unit {0}) Refusal}
    (e : answered r ≡ verdict_on (record { cells = cells; foundation = foundation; columns = columns })) where
  pub columns_bad : {why : Refusal} → r ≡ Err why → verdict_with cells foundation (given columns) ≡ refused (number_of why)
  unfolding verdict_with
  columns_bad q = rw (← e, q)

  pub columns_good : r ≡ Ok tt
      → verdict_with cells foundation (given columns) ≡ given (board_of (record { cells = cells; foundation = foundation; columns = columns }))
  unfolding verdict_with
  columns_good q = rw (← e, q)

-- ---- the length and the version

module _ (image : List ℕ) where
  pub too_short : length image < 2 → image_read image ≡ refused 10
  unfolding image_read framed
  too_short h = rw (lt-leb 2 (length image) h)

  pub wrong_count_lem : (get_or image 0 0 * 256 + get_or image 1 0 ≡ length image - 2 → ⊥) → image_read image ≡ refused 10
  unfolding image_read framed
  wrong_count_lem d = rw (second_fails (leb 2 (length image)) _ (ne_eqb (get_or image 0 0 * 256 + get_or image 1 0) (length image - 2) d))

  module _ (two : 2 ≤ length image) (count : get_or image 0 0 * 256 + get_or image 1 0 ≡ length image - 2) where
    frame : framed image ≡ true
    unfolding framed
    frame = both (le-leb 2 (length image) two) (eq-eqb _ _ count)

    pub no_version : length image < 3 → image_read image ≡ refused 11
    unfolding image_read versioned
    no_version h = rw (frame, lt-leb 3 (length image) h)

    pub wrong_version : (get_or image 2 0 ≡ 1 → ⊥) → image_read image ≡ refused 11
    unfolding image_read versioned
    wrong_version d = rw (frame, second_fails (leb 3 (length image)) _ (ne_eqb (get_or image 2 0) 1 d))

    pub to_the_body : 3 ≤ length image → get_or image 2 0 ≡ 1 → image_read image ≡ bodied (drop 3 image)
    unfolding image_read versioned
    to_the_body h e = rw (frame, le-leb 3 (length image) h, eq-eqb (get_or image 2 0) 1 e)
