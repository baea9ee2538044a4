-- What `goes_home` leaves to be shown: the next of its foundation, then safe.
use mathlib.Core.Path.{◌≡◌, sym, subst}
use mathlib.Core.Bool.{true}
use Prim.Native.Nat.{ℕ}
use Rattle.card.specs.Card.{is_card}
use Rattle.card.proofs.Codes.{code_is_card}
use Rattle.safe.proofs.Judging.{next_and_safe, not_next_lem}
use Rattle.safe.proofs.goes_home.Goals as goal

pub home_takes-requires : goal.home_takes-requires
home_takes-requires c =
    record { good_piles = c.requires.good_piles; code_value = subst (λ (x : ℕ). is_card x ≡ true) (sym c.code_of-code.ensures) (code_is_card c.args.card c.requires.value_value) }

pub is_safe_at-requires : goal.is_safe_at-requires
is_safe_at-requires c = record { good_piles = c.requires.good_piles; code_value = subst (λ (x : ℕ). is_card x ≡ true) (sym c.code_of-code.ensures) (code_is_card c.args.card c.requires.value_value) }

pub returns-then-home_takes : goal.returns-then-home_takes
returns-then-home_takes c = next_and_safe c.args.foundation.now c.args.card c.code_of-code.ensures c.home_takes.ensures c.if-home_takes.true c.is_safe_at.ensures

pub returns : goal.returns
returns c = not_next_lem c.args.foundation.now c.args.card c.code_of-code.ensures c.home_takes.ensures c.if-home_takes.false
