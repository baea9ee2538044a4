-- P1 to P11 hold: every definition is opened, and each row is evaluated by itself, so that a wrong one is refused by its name.
use mathlib.Core.Path.{◌≡◌, refl}
use mathlib.Core.Bool.{true, xor}
use Rattle.base.proofs.Words.{both}
use Rattle.base.specs.Words.{every, all, occurs, listed, concat, sum}
use Rattle.card.specs.Card.{is_value, code_of, is_card, card_of}
use Rattle.card.specs.Suit.{suit_at}
use Rattle.card.specs.Pack.{card_at}
use Rattle.board.specs.Table.{pile, piles, held, cards_on}
use Rattle.board.specs.Verdict.{is_cell, only_cards}
use Rattle.board.specs.Fair.{is_fair}
use Rattle.questions.specs.Questions.{home_count, empty_cells, empty_columns, won_on}
use Rattle.runs.specs.Follows.{red, follows}
use Rattle.rules.specs.Fit.{fits_on, home_takes}
use Rattle.runs.specs.Run.{is_run, run_length}
use Rattle.rules.specs.Limit.{usable, most_moved}
use Rattle.moves.specs.Record.{record_of}
use Rattle.moves.specs.Play.{last_of, others_of, hand, without, after_move, takes, allowed}
use Rattle.replay.specs.Played.{after_moves}
use Rattle.generate.specs.Found.{offered, if_allowed, gather, found_between, found_from, found}
use Rattle.moves.specs.Written.{bytes_of}
use Rattle.base.specs.Rising.{placed, rising}
use Rattle.signature.specs.Fnv.{xor_digits, fnv_step, fnv_from, fnv}
use Rattle.signature.specs.Signed.{home_words, column_hashes, words_of, signed, signature_of}
use Rattle.features.specs.Features.{greatest, least, last_goes_home, immediate_on, blocked_in, blocked_on, imbalance_of, cells_used, longest_run, features_of}
use Rattle.score.specs.Scores.{heuristic, progress, heuristic_key, progress_key}
use Rattle.priority.specs.Priority.{priority_adds, priority_takes, priority, priority_on}
use Rattle.safe.specs.Safe.{red_suit, needed, safe, chosen, is_safe, home_moves, first_of, first_safe}
use Rattle.safe.specs.Chain.{chain_of, chain}
use Rattle.candidates.specs.Candidates.{better, worthwhile, is_unsafe, late_moves, tried, ranked, in_order, candidates}
use Rattle.candidates.specs.Children.{child_moves, child_table}
use Rattle.search.specs.Freecell.{judge}
use Rattle.search.proofs.Opened.{opened as searching}
use Rattle.known_hands.specs.Boards.{keep, share, laid, buried, T, crowded, is_board}
use Rattle.known_hands.specs.Hands.{same_score, same_bytes, same_answer, for_each, holds, all_hold, hands}
use Rattle.known_hands.specs.Hands.{P1, P2, P3, P4, P4_partial, P5, P6, P7, P8, P9, P10_into, P10_elsewhere, P11_safe, P11_spades, P11_diamonds}

opened : Unit {0}
unfolding xor every all occurs listed concat sum is_value code_of is_card card_of suit_at card_at pile piles held cards_on is_cell only_cards is_fair home_count empty_cells empty_columns won_on red follows fits_on home_takes is_run run_length usable most_moved record_of last_of others_of hand without after_move takes allowed after_moves offered if_allowed gather found_between found_from found bytes_of placed rising xor_digits fnv_step fnv_from fnv home_words column_hashes words_of signed signature_of greatest least last_goes_home immediate_on blocked_in blocked_on imbalance_of cells_used longest_run features_of heuristic progress heuristic_key progress_key priority_adds priority_takes priority priority_on red_suit needed safe chosen is_safe home_moves first_of first_safe chain_of chain better worthwhile is_unsafe late_moves tried ranked in_order candidates child_moves child_table searching judge keep share laid buried T crowded is_board same_score same_bytes same_answer for_each holds
opened = tt

pub P1-holds : holds P1 ≡ true
unfolding opened
P1-holds = refl

pub P2-holds : holds P2 ≡ true
unfolding opened
P2-holds = refl

pub P3-holds : holds P3 ≡ true
unfolding opened
P3-holds = refl

pub P4-holds : holds P4 ≡ true
unfolding opened
P4-holds = refl

pub P4_partial_holds : holds P4_partial ≡ true
unfolding opened
P4_partial_holds = refl

pub P5-holds : holds P5 ≡ true
unfolding opened
P5-holds = refl

pub P6-holds : holds P6 ≡ true
unfolding opened
P6-holds = refl

pub P7-holds : holds P7 ≡ true
unfolding opened
P7-holds = refl

pub P8-holds : holds P8 ≡ true
unfolding opened
P8-holds = refl

pub P9-holds : holds P9 ≡ true
unfolding opened
P9-holds = refl

pub P10_into_holds : holds P10_into ≡ true
unfolding opened
P10_into_holds = refl

pub P10_elsewhere-holds : holds P10_elsewhere ≡ true
unfolding opened
P10_elsewhere-holds = refl

pub P11_safe-holds : holds P11_safe ≡ true
unfolding opened
P11_safe-holds = refl

pub P11_spades_holds : holds P11_spades ≡ true
unfolding opened
P11_spades_holds = refl

pub P11_diamonds_holds : holds P11_diamonds ≡ true
unfolding opened
P11_diamonds_holds = refl

-- the one claim
pub known_hands_lem : all_hold hands ≡ true
unfolding all_hold hands
known_hands_lem =
    both P1-holds (both P2-holds (both P3-holds (both P4-holds (both P4_partial_holds (both P5-holds (both P6-holds (both P7-holds (both P8-holds (both P9-holds (both P10_into_holds (both P10_elsewhere-holds (both P11_safe-holds (both P11_spades_holds (both P11_diamonds_holds (refl)))))))))))))))
