-- What `takes_at` leaves to be shown: kind by kind, what the place takes that it goes to.
use mathlib.Core.Path.{◌≡◌, sym, subst}
use mathlib.Core.Bool.{true}
use Prim.Native.Nat.{ℕ}
use native.Mathlib.Omega.{arith}
use Rattle.card.specs.Card.{is_card}
use Rattle.card.specs.Suit.{suit_number}
use Rattle.card.proofs.Codes.{code_is_card}
use Rattle.generate.proofs.Places.{takes_column, takes-home, takes_cell}
use Rattle.generators.proofs.takes_at.Goals as goal

pub fit_at-requires-clause-code_value : goal.fit_at-requires-clause-code_value
fit_at-requires-clause-code_value c = subst (λ (x : ℕ). is_card x ≡ true) (sym c.code_of-code.ensures) (code_is_card c.args.card c.requires.value_value)

pub home_takes-requires-clause-code_value : goal.home_takes-requires-clause-code_value
home_takes-requires-clause-code_value c = subst (λ (x : ℕ). is_card x ≡ true) (sym c.code_of-code.ensures) (code_is_card c.args.card c.requires.value_value)

pub returns-in-ColumnToColumn : goal.returns-in-ColumnToColumn
returns-in-ColumnToColumn c = takes_column c.requires.sound c.args.j (grind arith) (grind arith) c.fit_at.ensures c.code_of-code.ensures

pub returns-in-ColumnToHome : goal.returns-in-ColumnToHome
returns-in-ColumnToHome c = takes-home c.requires.sound (suit_number c.args.card.suit) (grind arith) c.home_takes.ensures c.code_of-code.ensures

pub returns-in-ColumnToCell : goal.returns-in-ColumnToCell
returns-in-ColumnToCell c = takes_cell c.requires.sound c.args.j _ (grind arith)
