-- What `mark_all` leaves to be shown: a loop over lists of one card each.
use mathlib.Core.Path.{subst}
use mathlib.Core.List.{List, ◌∷◌, []}
use Prim.Native.Nat.{ℕ, ◌-◌}
use lib.ListN.{length, get_or}
use Rattle.base.specs.Words.{listed, concat}
use Rattle.base.proofs.Words.{singles}
use Rattle.board.specs.Inner.{Marks}
use Rattle.std.specs.Prelude.{Option}
use Rattle.board.proofs.Marks.{Passed}
use Rattle.board.proofs.mask.mark_all.Given as goal

abbrev each : List ℕ → ℕ → List ℕ
each s k = get_or s k 0 ∷ []

whole : {seen : ℕ} (s : List ℕ) {r : Option ℕ} → Marks seen (concat (listed (length s) (each s))) r → Marks seen s r
whole {seen} s {r} m = subst (λ (l : List ℕ). Marks seen l r) (singles s) m

abbrev pub invariant-loop-code : goal.invariant-loop-code
invariant-loop-code l = Passed l.seen (each l.s) (length l.s) l.cards l.code-index
