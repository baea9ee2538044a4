-- Dealing case by case, and the record that an accepted deck fills.
use mathlib.Core.Path.{◌≡◌, refl, sym, ap, ◌∙◌}
use mathlib.Core.Bool.{true, false}
use mathlib.Core.List.{List, [], ◌∷◌}
use Prim.Native.Nat.{ℕ, ◌+◌, ◌*◌, ◌/◌, ◌%◌, ◌<◌, ◌≤◌}
use native.Mathlib.Omega.{arith}
use native.Mathlib.Decide.{dec_lt}
use borrow.Author.Tests.{lt-ltb, le-ltb, eq-eqb, ne_eqb}
use lib.ListN.{length, get_or, replicate, get_or-eq_default}
use Rattle.base.specs.Words.{all, listed}
use Rattle.base.specs.Answer.{given, refused}
use Rattle.card.specs.Card.{is_card}
use Rattle.base.proofs.Words.{listed_same, length-listed, get_or-listed}
use Rattle.board.specs.Verdict.{none_twice}
use Rattle.board.specs.Record.{room, board_of, laid, tableau_room}
use Rattle.board.proofs.Records.{record_of_columns}
use Rattle.intake.specs.Deal.{rows, dealt_column, dealt, deal_asked}
use Rattle.intake.specs.Inside.{deck_code}

module _ (deck : List ℕ) where
  pub no_deck : (length deck ≡ 52 → ⊥) → deal_asked deck ≡ refused 16
  unfolding deal_asked
  no_deck d = rw (ne_eqb (length deck) 52 d)

  module _ (full : length deck ≡ 52) where
    pub deck_code_lem : all is_card deck ≡ false → deal_asked deck ≡ refused 13
    unfolding deal_asked
    deck_code_lem e = rw (eq-eqb (length deck) 52 full, e)

    module _ (cards : all is_card deck ≡ true) where
      pub deck_twice : none_twice deck ≡ false → deal_asked deck ≡ refused 14
      unfolding deal_asked
      deck_twice e = rw (eq-eqb (length deck) 52 full, cards, e)

      pub deck_dealt : none_twice deck ≡ true → deal_asked deck ≡ given (board_of (dealt deck))
      unfolding deal_asked
      deck_dealt e = rw (eq-eqb (length deck) 52 full, cards, e)

-- ---- a row lies within its column exactly if its place lies within the deck

pub row_within : (i r : ℕ) → i < 8 → r < rows i → r * 8 + i < 52
unfolding rows
row_within i r h b = by_side (dec_lt i 4)
  where
    by_side : Dec (i < 4) → r * 8 + i < 52
    by_side (yes l) = let q : r < 7 = rw (lt-ltb i 4 l) at b in omega arith
    by_side (no l) = let q : r < 6 = rw (le-ltb i 4 (omega arith)) at b in omega arith

pub row_past : (i r : ℕ) → i < 8 → rows i ≤ r → 52 ≤ r * 8 + i
unfolding rows
row_past i r h b = by_side (dec_lt i 4)
  where
    by_side : Dec (i < 4) → 52 ≤ r * 8 + i
    by_side (yes l) = let q : 7 ≤ r = rw (lt-ltb i 4 l) at b in omega arith
    by_side (no l) = let q : 6 ≤ r = rw (le-ltb i 4 (omega arith)) at b in omega arith

-- seven cards in each of the first four columns, six in the others
column_counts : (deck : List ℕ) → listed 8 (λ i. length (dealt_column deck i)) ≡ 7 ∷ 7 ∷ 7 ∷ 7 ∷ 6 ∷ 6 ∷ 6 ∷ 6 ∷ []
unfolding dealt_column rows listed
column_counts deck = refl

module _ (deck : List ℕ) (full : length deck ≡ 52) where
  pub dealt_row : (i r : ℕ) → i < 8 → get_or (dealt_column deck i) r 0 ≡ get_or deck (r * 8 + i) 0
  unfolding dealt_column
  dealt_row i r h = by_side (dec_lt r (rows i))
    where
      by_side : Dec (r < rows i) → get_or (listed (rows i) (λ row. get_or deck (row * 8 + i) 0)) r 0 ≡ get_or deck (r * 8 + i) 0
      by_side (yes l) = get_or-listed (λ row. get_or deck (row * 8 + i) 0) (rows i) r 0 l
      by_side (no l) =
          get_or-eq_default (listed (rows i) (λ row. get_or deck (row * 8 + i) 0)) 0
          (let e = length-listed (λ row. get_or deck (row * 8 + i) 0) (rows i) in omega arith)
          ∙ sym (get_or-eq_default deck 0 (let p = row_past i r h (omega arith) in omega arith))

  pub board_dealt : board_of (dealt deck)
      ≡ laid (replicate 4 255) (replicate 4 0) (7 ∷ 7 ∷ 7 ∷ 7 ∷ 6 ∷ 6 ∷ 6 ∷ 6 ∷ []) (listed tableau_room (deck_code deck))
  unfolding dealt
  board_dealt =
      record_of_columns (replicate 4 255) (replicate 4 0) (dealt_column deck)
      ∙ ap (λ (c : List ℕ). laid (replicate 4 255) (replicate 4 0) c (listed tableau_room (λ p. get_or (dealt_column deck (p / room)) (p % room) 0)))
      (column_counts deck)
      ∙ ap (λ (t : List ℕ). laid (replicate 4 255) (replicate 4 0) (7 ∷ 7 ∷ 7 ∷ 7 ∷ 6 ∷ 6 ∷ 6 ∷ 6 ∷ []) t)
      (listed_same (λ p. get_or (dealt_column deck (p / room)) (p % room) 0) (deck_code deck) tableau_room (λ p h. dealt_row (p / room) (p % room) (omega arith)))
