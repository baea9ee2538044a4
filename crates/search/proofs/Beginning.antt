-- The search begins on the given board: board S, all home but the spade king in column 0, with no budget. The safe chain would win it;
-- what the chain is made of is opened, so that playing it first would show.
use mathlib.Core.Path.{◌≡◌, refl}
use mathlib.Core.Bool.{false, xor}
use mathlib.Core.List.{[], ◌∷◌}
use Rattle.base.specs.Words.{every, listed}
use Rattle.card.specs.Card.{code_of, card_of}
use Rattle.card.specs.Suit.{suit_at}
use Rattle.board.specs.Table.{Table, pile, held}
use Rattle.questions.specs.Questions.{won_on}
use Rattle.runs.specs.Follows.{red}
use Rattle.rules.specs.Fit.{home_takes}
use Rattle.runs.specs.Run.{is_run}
use Rattle.moves.specs.Play.{last_of, others_of, hand, without, after_move, takes, allowed}
use Rattle.replay.specs.Played.{after_moves}
use Rattle.generate.specs.Found.{offered, if_allowed, gather, found_between, found_from, found}
use Rattle.safe.specs.Safe.{red_suit, needed, safe, chosen, is_safe, home_moves, first_of, first_safe}
use Rattle.safe.specs.Chain.{chain_of, chain}
use Rattle.search.specs.Solve.{none, start, run, solve}
use Rattle.search.specs.Freecell.{judge}

abbrev S : Table
S =
    record {
      cells = 255 ∷ 255 ∷ 255 ∷ 255 ∷ [];
      foundation = 13 ∷ 13 ∷ 13 ∷ 12 ∷ [];
      columns = (211 ∷ []) ∷ [] ∷ [] ∷ [] ∷ [] ∷ [] ∷ [] ∷ [] ∷ [];
    }

pub no_chain_before : judge S 0 2 false ≡ record { number = 3; list = none; pops = 0 }
unfolding judge solve start run won_on every xor listed code_of card_of suit_at pile held red home_takes is_run last_of others_of hand without after_move takes allowed after_moves offered if_allowed gather found_between found_from found red_suit needed safe chosen is_safe home_moves first_of first_safe chain_of chain
no_chain_before = refl
