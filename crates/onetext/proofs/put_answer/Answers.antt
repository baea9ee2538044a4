-- What `put_answer` leaves to be shown: the search, its line, the lines of its list.
use mathlib.Core.Path.{refl}
use native.Mathlib.Omega.{arith}
use Rattle.onetext.proofs.Gaining.{never_refused, gained, pops_100, moves_200, answer_puts}
use Rattle.onetext.proofs.put_answer.Goals as goal

pub returns-in_default : goal.returns-in_default
returns-in_default c = absurd (never_refused c.requires.fine c.requires.scratch c.solve.result c.solve.ensures c.in_default.is)

pub overflow_cast-pops : goal.overflow_cast-pops
overflow_cast-pops c = omega (arith, pops_100 c.requires.fine (gained c.requires.fine c.requires.scratch c.solve.result c.solve.ensures c.in-Ok.is))

pub overflow_cast-moves : goal.overflow_cast-moves
overflow_cast-moves c = omega (arith, moves_200 c.requires.fine (gained c.requires.fine c.requires.scratch c.solve.result c.solve.ensures c.in-Ok.is))

pub put_line-after-requires : goal.put_line-after-requires
put_line-after-requires c = record { in_bounds = omega arith; numbers_in_bounds = omega (arith, c.requires.at_in_bounds) }

pub put_records-requires : goal.put_records-requires
put_records-requires c = record { n_in_bounds = omega (arith, moves_200 c.requires.fine (gained c.requires.fine c.requires.scratch c.solve.result c.solve.ensures c.in-Ok.is), c.list-1.given, c.requires.scratch.list); n_in_bounds_2 = omega (arith, moves_200 c.requires.fine (gained c.requires.fine c.requires.scratch c.solve.result c.solve.ensures c.in-Ok.is), c.put_line-after.ensures.few, c.out-1.given, c.requires.at_in_bounds) }

pub shape_of-out : goal.shape_of-out
shape_of-out c = omega (arith, c.out-2-1.given, c.out-1.given)

pub returns : goal.returns
returns c = answer_puts (gained c.requires.fine c.requires.scratch c.solve.result c.solve.ensures c.in-Ok.is) (omega (arith, c.requires.at_in_bounds)) c.number.ensures refl refl c.put_line-after.ensures c.put_records.ensures
