-- A fair table: well-formed, as SCOPE.md says it. Every theorem that asks for a well-formed board asks for this.
use Rattle.std.specs.Prelude.{◌≡◌, Bool, true, ◌&&◌, ℕ, ◌<◌, ◌≤◌, eqb, length, get_or}
use Rattle.base.specs.Words.{every, all, occurs}
use Rattle.card.specs.Pack.{card_at}
use Rattle.board.specs.Table.{Table, cards_on}
use Rattle.board.specs.Verdict.{only_cards}
use Rattle.board.specs.Record.{at_most}

-- four cells, four foundations, eight columns
pub record Seats (t : Table) : Type 0 where
  pub four : length t.cells ≡ 4
  pub piles4 : length t.foundation ≡ 4
  pub eight : length t.columns ≡ 8

pub record Fair (t : Table) : Type 0 where
  pub seats : Seats t
  -- no foundation counts above 13
  pub kings : (s : ℕ) → s < 4 → get_or t.foundation s 0 ≤ 13
  -- nothing but cards, and empty cells
  pub cards : only_cards t ≡ true
  -- each of the 52 cards exactly once
  pub once : (k : ℕ) → k < 52 → occurs (card_at k) (cards_on t) ≡ 1

-- the same as a test, to be evaluated
unfoldable pub is_fair : Table → Bool
is_fair t =
    (eqb (length t.cells) 4 && (eqb (length t.foundation) 4 && eqb (length t.columns) 8))
    && (all (at_most 13) t.foundation && (only_cards t && every 52 (λ k. eqb (occurs (card_at k) (cards_on t)) 1)))
