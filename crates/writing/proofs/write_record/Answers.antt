-- What `write_record` leaves to be shown: the record says a move, which is written and played.
use mathlib.Core.Path.{sym, ap, ◌∙◌}
use Rattle.moves.specs.Record.{sayable_told}
use Rattle.writing.proofs.Writing.{decoded_move, decoded_some, next_fits, next_ready, next_notes}
use Rattle.writing.proofs.write_record.Goals as goal

pub returns-in_default : goal.returns-in_default
returns-in_default c = decoded_some c.args.bytes.now c.requires.can _ c.decode.ensures.result_value c.in_default.is

pub put_move-end-requires-clause-m_in_bounds : goal.put_move-end-requires-clause-m_in_bounds
put_move-end-requires-clause-m_in_bounds c = next_fits c.requires (decoded_move c.args.bytes.now c.requires.can _ c.decode.ensures.result_value c.in-Some.is)

pub apply_to-requires : goal.apply_to-requires
apply_to-requires c = next_ready c.requires (decoded_move c.args.bytes.now c.requires.can _ c.decode.ensures.result_value c.in-Some.is) (ap sayable_told (sym c.in-Some.is) ∙ c.decode.ensures.result_value_2)

pub returns : goal.returns
returns c = next_notes c.requires (decoded_move c.args.bytes.now c.requires.can _ c.decode.ensures.result_value c.in-Some.is) (ap sayable_told (sym c.in-Some.is) ∙ c.decode.ensures.result_value_2) c.put_move-end.ensures c.apply_to.ensures
