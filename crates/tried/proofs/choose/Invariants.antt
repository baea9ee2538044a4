-- What `choose` leaves to be shown: one record more is looked at.
use mathlib.Core.List.{[], ◌∷◌}
use Rattle.board.specs.Record.{shown, laid}
use Rattle.generate.proofs.Writing.{Walked}
use Rattle.safe.specs.Safe.{chosen}
use Rattle.candidates.specs.Inner.{meets, move_at}
use Rattle.tried.proofs.choose.Given as goal

abbrev pub invariant-loop-k : goal.invariant-loop-k
invariant-loop-k l = Walked (λ j. chosen (meets l.test (shown (laid l.cells l.foundation l.counts l.tableau))) (move_at l.list j ∷ [])) l.n l.initial.out l.at l.out l.made l.k
