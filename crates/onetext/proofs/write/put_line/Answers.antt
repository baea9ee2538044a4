-- What `put_line` leaves to be shown: the first number, and the rest.
use native.Mathlib.Omega.{arith}
use Rattle.score.proofs.Digits.{long_three}
use Rattle.onetext.proofs.Lining.{all_rest, rest_room, line_puts}
use Rattle.onetext.proofs.write.put_line.Goals as goal

pub put_number-to-requires-clause-n_in_bounds : goal.put_number-to-requires-clause-n_in_bounds
put_number-to-requires-clause-n_in_bounds c = omega (arith, long_three c.from.result (omega (arith, c.type_inv.numbers 0)))

pub put_rest-requires : goal.put_rest-requires
put_rest-requires c = rw (all_rest c.args.numbers.now) (rest_room c.args.numbers.now c.from.result c.requires.in_bounds c.requires.numbers_in_bounds (omega (arith, c.type_inv.numbers 0)) c.put_number-to.ensures)

pub returns : goal.returns
returns c = line_puts c.args.numbers.now c.from.result c.requires.in_bounds c.requires.numbers_in_bounds (omega (arith, c.type_inv.numbers 0)) c.put_number-to.ensures c.from.ensures (rw (all_rest c.args.numbers.now) at c.put_rest.ensures)
