-- The hands of numbers, case by case; and the board of a number is a fine one, whatever the number.
use mathlib.Core.Path.{◌≡◌, sym}
use mathlib.Core.Bool.{true, false}
use mathlib.Core.List.{[], ◌∷◌}
use Prim.Native.Nat.{ℕ, ◌<◌, ◌≤◌}
use native.Mathlib.Omega.{arith}
use borrow.Author.Tests.{le-leb, lt-leb}
use Rattle.base.specs.Answer.{given, refused}
use Rattle.shuffle.specs.Shuffle.{deck_of}
use Rattle.shuffle.proofs.Whole.{fifty_two, only_cards_lem, each_once}
use Rattle.board.specs.Verdict.{none_twice}
use Rattle.board.specs.Record.{board_of}
use Rattle.board.specs.Fair.{Fair}
use Rattle.board.proofs.Marks.{none_twice_lem}
use Rattle.intake.specs.Deal.{dealt, deal_asked}
use Rattle.intake.specs.Number.{is_number, number_asked}
use Rattle.intake.proofs.Dealing.{deck_dealt}
use Rattle.intake.proofs.Accepted.{Fine, dealt_fair, deal_fine, deal_columns}

module _ (n : ℕ) where
  pub number_zero : n ≡ 0 → number_asked n ≡ refused 41
  unfolding number_asked is_number
  number_zero e = rw (lt-leb 1 n (omega arith))

  pub number_over : 32000 < n → number_asked n ≡ refused 41
  unfolding number_asked is_number
  number_over h = rw (le-leb 1 n (omega arith), lt-leb n 32000 h)

  no_card_twice : none_twice (deck_of n) ≡ true
  no_card_twice = none_twice_lem (deck_of n) (λ k h. let o = each_once n k h in omega arith)

  pub number_given : is_number n ≡ true → number_asked n ≡ given (board_of (dealt (deck_of n)))
  unfolding number_asked
  number_given e = rw e

  pub number_none : is_number n ≡ false → number_asked n ≡ refused 41
  unfolding number_asked
  number_none e = rw e

  -- no deck of a number is refused
  pub number_dealt : deal_asked (deck_of n) ≡ given (board_of (dealt (deck_of n)))
  number_dealt = deck_dealt (deck_of n) (fifty_two n) (only_cards_lem n) no_card_twice

  pub number_is : 1 ≤ n → n ≤ 32000 → number_asked n ≡ deal_asked (deck_of n)
  unfolding number_asked is_number
  number_is a b = rw (le-leb 1 n a, le-leb n 32000 b) (sym number_dealt)

  -- a well-formed table, whatever the number
  pub number_fair : Fair (dealt (deck_of n))
  number_fair = dealt_fair (deck_of n) (fifty_two n) (only_cards_lem n) no_card_twice

  -- a fine board, with 7, 7, 7, 7, 6, 6, 6, 6 cards in its columns
  pub number_fine : Fine (board_of (dealt (deck_of n)))
  number_fine = deal_fine (deck_of n) number_dealt

  pub number_columns : (board_of (dealt (deck_of n))).counts ≡ 7 ∷ 7 ∷ 7 ∷ 7 ∷ 6 ∷ 6 ∷ 6 ∷ 6 ∷ []
  number_columns = deal_columns (deck_of n) number_dealt
