-- The priority of the move that some bytes ask for.
use Rattle.std.specs.Prelude.{None, Some, Option}
use mathlib.Core.Path.{◌≡◌, sym, ap, ◌∙◌}
use mathlib.Core.List.{List}
use Prim.Native.Nat.{ℕ}
use Rattle.base.specs.Answer.{given, refused, given_or}
use Rattle.board.specs.Table.{Table}
use Rattle.board.specs.Verdict.{Verdict, after}
use Rattle.moves.specs.Record.{move_asked}
use Rattle.moves.specs.Causes.{ruling}
use Rattle.moves.specs.declared.Move.{Move}
use Rattle.priority.specs.Priority.{priority_on}
use Rattle.priority.specs.Asked.{priority_by}

module _ (t : Table) (bytes : List ℕ) {d : Option Move} (e : given_or 30 d ≡ move_asked bytes) where
  pub asked_none : d ≡ None → priority_by t (move_asked bytes) ≡ refused 30
  asked_none q = ap (priority_by t) (sym e ∙ ap (given_or 30) q)

  module _ (m : Move) (q : d ≡ Some m) where
    pub asked_move : {v : Verdict} → ruling t m ≡ v → priority_by t (move_asked bytes) ≡ after v (given (priority_on t m))
    asked_move r = ap (priority_by t) (sym e ∙ ap (given_or 30) q) ∙ ap (λ (w : Verdict). after w (given (priority_on t m))) r
