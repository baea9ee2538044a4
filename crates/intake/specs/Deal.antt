-- Dealing a deck of 52: the card at place i goes to column i mod 8, row i div 8.
use Rattle.std.specs.Prelude.{cond, List, ℕ, ◌+◌, ◌*◌, length, get_or, replicate, eqb, ltb}
use Rattle.base.specs.Words.{all, listed}
use Rattle.base.specs.Answer.{Answer, given, unless}
use Rattle.card.specs.Card.{is_card}
use Rattle.board.specs.Table.{Table}
use Rattle.board.specs.Verdict.{none_twice}
use Rattle.board.specs.Record.{board_of}
use Rattle.board.specs.declared.Board.{Board}

-- the first four columns get seven cards, the others six
unfoldable pub rows : ℕ → ℕ
rows i = cond (ltb i 4) 7 6

unfoldable pub dealt_column : List ℕ → ℕ → List ℕ
dealt_column deck i = listed (rows i) (λ row. get_or deck (row * 8 + i) 0)

-- cells and foundations empty
unfoldable pub dealt : List ℕ → Table
dealt deck = record { cells = replicate 4 255; foundation = replicate 4 0; columns = listed 8 (dealt_column deck) }

-- 16: not 52 cards; 13: a code that is no card's; 14: a card twice
unfoldable pub deal_asked : List ℕ → Answer Board
deal_asked deck = unless (eqb (length deck) 52) 16 (unless (all is_card deck) 13 (unless (none_twice deck) 14 (given (board_of (dealt deck)))))
