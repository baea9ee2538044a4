-- What `columns_are_cards` leaves to be shown: a checking loop over the eight parts.
use mathlib.Core.Path.{◌≡◌}
use mathlib.Core.Bool.{Bool, true}
use mathlib.Core.List.{List}
use Prim.Native.Nat.{ℕ, ◌-◌, ◌≤◌}
use Rattle.base.specs.Words.{every, all}
use Rattle.card.specs.Card.{is_card}
use Rattle.board.specs.Inner.{part_at}
use Rattle.board.proofs.verdict.columns_are_cards.Given as goal

abbrev here : List ℕ → List ℕ → List ℕ → ℕ → Bool
here starts counts codes k = all is_card (part_at starts counts codes k)

abbrev pub invariant-loop-i : goal.invariant-loop-i
invariant-loop-i l = (l.i ≤ 8) × (every l.i (here l.starts l.counts l.codes) ≡ true)
