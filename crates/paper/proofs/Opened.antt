-- The definitions that an evaluated example opens, under one name.
use mathlib.Core.Bool.{xor}
use Rattle.base.specs.Words.{listed, sum}
use Rattle.card.specs.Card.{code_of, card_of}
use Rattle.card.specs.Suit.{suit_at}
use Rattle.board.specs.Table.{pile, held}
use Rattle.questions.specs.Questions.{empty_cells, empty_columns}
use Rattle.runs.specs.Follows.{red, follows}
use Rattle.runs.specs.Run.{is_run, run_length}
use Rattle.rules.specs.Fit.{fits_on, home_takes}
use Rattle.rules.specs.Limit.{usable, most_moved}
use Rattle.moves.specs.Record.{move_said, move_of, record_of}
use Rattle.moves.specs.Play.{last_of, others_of, hand, without, after_move}
use Rattle.moves.specs.Causes.{causes, passes, first_of, ruling}
use Rattle.moves.specs.Written.{bytes_of}
use Rattle.generate.specs.Found.{offered}
use Rattle.notation.specs.Jot.{digit_sign, jot_text, line_text}
use Rattle.notation.specs.Form.{within, digit_said, step_from, read_from, line_in}
use Rattle.sense.specs.Meant.{vacant, most_into, fit_from, fitting_in, fitting, count_goes, meant, jot_of}
use Rattle.reading.specs.Lines.{moves_from, line_read}
use Rattle.writing.specs.Lines.{jots_of, text_of, writable_first}
use Rattle.writing.specs.Asked.{moves_of}

unfoldable pub opened : Unit {0}
unfolding xor listed sum code_of card_of suit_at pile held empty_cells empty_columns red follows is_run run_length fits_on home_takes usable most_moved move_said move_of record_of last_of others_of hand without after_move causes passes first_of ruling bytes_of offered digit_sign jot_text line_text within digit_said step_from read_from line_in vacant most_into fit_from fitting_in fitting count_goes meant jot_of moves_from line_read jots_of text_of writable_first moves_of
opened = tt
