-- Whether a table is a fair one. The same judgement serves a record and an image.
use Rattle.std.specs.Prelude.{Bool, ◌&&◌, ◌||◌, List, ℕ, eqb, leb}
use Rattle.base.specs.Words.{every, all, occurs, concat}
use Rattle.base.specs.Answer.{Answer, given, refused, unless}
use Rattle.card.specs.Card.{is_card}
use Rattle.card.specs.Pack.{card_at}
use Rattle.board.specs.Table.{Table, cards_on}

-- a verdict: fine, or refused with SCOPE.md's number
abbrev pub Verdict : Type 0
Verdict = Answer (Unit {0})

abbrev pub fine : Verdict
fine = given tt

-- what is asked of a board that has to be fine first
abbrev pub after : {A : Type 0} → Verdict → Answer A → Answer A
after (given u) a = a
after (refused n) a = refused n

-- a cell's code: FF for empty, else a card's
unfoldable pub is_cell : ℕ → Bool
is_cell x = eqb x 255 || is_card x

-- every code shown is a card's
unfoldable pub only_cards : Table → Bool
only_cards t = all is_cell t.cells && all is_card (concat t.columns)

-- no card of the pack stands twice in a list
unfoldable pub none_twice : List ℕ → Bool
none_twice l = every 52 (λ k. leb (occurs (card_at k) l) 1)

-- each card of the pack stands in the list
unfoldable pub none_missing : List ℕ → Bool
none_missing l = every 52 (λ k. leb 1 (occurs (card_at k) l))

-- 13: a code that is no card's; 14: a card twice; 15: a card missing
unfoldable pub verdict_on : Table → Verdict
verdict_on t = unless (only_cards t) 13 (unless (none_twice (cards_on t)) 14 (unless (none_missing (cards_on t)) 15 fine))
