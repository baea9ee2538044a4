-- What `spare_is_zero` leaves to be shown: a checking loop over the eight columns' unused room.
use mathlib.Core.Path.{◌≡◌}
use mathlib.Core.Bool.{Bool, true}
use mathlib.Core.List.{List}
use Prim.Native.Nat.{ℕ, ◌-◌, ◌≤◌}
use Rattle.base.specs.Words.{every, all}
use Rattle.board.specs.Record.{is_zero, spare_at}
use Rattle.board.proofs.verdict.spare_is_zero.Given as goal

abbrev here : List ℕ → List ℕ → ℕ → Bool
here counts tableau k = all is_zero (spare_at counts tableau k)

abbrev pub invariant-loop-i : goal.invariant-loop-i
invariant-loop-i l = (l.i ≤ 8) × (every l.i (here l.counts l.tableau) ≡ true)
