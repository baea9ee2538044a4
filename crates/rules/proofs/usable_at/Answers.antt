-- What `usable_at` leaves to be shown: an empty destination is not counted.
use mathlib.Core.Path.{sym, ap, ◌∙◌, subst}
use Prim.Native.Nat.{ℕ, ◌-◌, ◌≤◌}
use Rattle.rules.proofs.Laying.{some_empty, usable_empty, usable_other, column_count}
use Rattle.rules.proofs.usable_at.Goals as goal

pub overflow_sub-result : goal.overflow_sub-result
overflow_sub-result c = subst (λ (n : ℕ). 1 ≤ n) (sym c.empty_columns_at-empties.ensures) (some_empty _ c.args.to c.requires.to_bound (column_count c.requires.good_columns c.args.to c.requires.to_bound ∙ c.if-counts-to-eq0.true))

pub returns-then-counts-to-eq0 : goal.returns-then-counts-to-eq0
returns-then-counts-to-eq0 c = ap (λ (n : ℕ). n - 1) c.empty_columns_at-empties.ensures ∙ sym (usable_empty _ c.args.to (column_count c.requires.good_columns c.args.to c.requires.to_bound ∙ c.if-counts-to-eq0.true))

pub returns : goal.returns
returns c = c.empty_columns_at-empties.ensures ∙ sym (usable_other _ c.args.to (λ q. c.if-counts-to-eq0.false (sym (column_count c.requires.good_columns c.args.to c.requires.to_bound) ∙ q)))
