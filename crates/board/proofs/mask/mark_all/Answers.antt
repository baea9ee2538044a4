-- What `mark_all` leaves to be shown: a loop over lists of one card each.
use mathlib.Core.Path.{subst}
use mathlib.Core.List.{List, ◌∷◌, []}
use Prim.Native.Nat.{ℕ}
use lib.ListN.{length, get_or}
use Rattle.base.specs.Words.{listed, concat}
use Rattle.card.specs.Card.{is_card}
use Rattle.base.proofs.Words.{all_at, singles}
use Rattle.board.specs.Inner.{Marks}
use Rattle.std.specs.Prelude.{Option}
use Rattle.board.proofs.Marks.{pass_none, pass_more, pass_stop, pass_end}
use Rattle.board.proofs.mask.mark_all.Goals as goal

abbrev each : List ℕ → ℕ → List ℕ
each s k = get_or s k 0 ∷ []

whole : {seen : ℕ} (s : List ℕ) {r : Option ℕ} → Marks seen (concat (listed (length s) (each s))) r → Marks seen s r
whole {seen} s {r} m = subst (λ (l : List ℕ). Marks seen l r) (singles s) m

pub loop-code-init : goal.loop-code-init
loop-code-init c = pass_none _ _ c.requires.seen_bound

pub mark-requires : goal.mark-requires
mark-requires c = record { seen_bound = c.loop-code.invariant.marks.below; code_value = all_at is_card c.args.s.now c.requires.s_value c.loop-code.code-index c.loop-code-test.true }

pub returns-in_err-cards : goal.returns-in_err-cards
returns-in_err-cards c = rw c.from_residual.ensures (whole _ (pass_stop _ _ c.loop-code.invariant c.loop-code-test.true c.mark.ensures c.in_err-cards.was))

pub loop-code-preserved : goal.loop-code-preserved
loop-code-preserved c = pass_more _ _ c.loop-code.invariant c.loop-code-test.true c.mark.ensures c.in_ok-cards.was

pub returns : goal.returns
returns c = whole _ (pass_end _ _ c.loop-code.invariant c.loop-code-test.false)
