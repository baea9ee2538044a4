-- When 1 and 5 are given: where the limit strikes and a best-progress list is brought, and only there.
use mathlib.Core.Path.{◌≡◌, refl, ap, ◌∙◌}
use mathlib.Core.Bool.{Bool, true, false, not}
use Prim.Native.Nat.{ℕ}
use native.Mathlib.Omega.{arith}
use lib.Dec.{eqb}
use Rattle.base.proofs.Words.{first}
use Rattle.search.specs.Game.{Game}
use Rattle.search.specs.Solve.{State, End, won, limit, exhausted, out_of_nodes_at}
use Rattle.search.specs.Solve.{at_limit, when_exhausted, best_exhausted, start, run, brings, best_at_limit, progressed, answer, solve_as, solve}
use Rattle.search.specs.Claims.{is_best_at_limit, Struck, best_of}
use Rattle.search.proofs.Numbers.{not_at_limit}

module _ (G : Game) (b : G.Board) (budget capacity : ℕ) (partial : Bool) where
  -- where the limit strikes with a list, the answer is the best line, and its number says whether the last board is won
  pub called : (r : Struck G b budget capacity partial) → solve G b budget capacity partial ≡ best_of G r.state
  unfolding solve
  called r =
      ap (λ (w : Bool). solve_as G w b budget capacity partial) r.unwon
      ∙ ap (answer G partial) r.came
      ∙ ap (λ (t : Bool). progressed G t (best_at_limit G r.state) at_limit r.state) r.brought

  pub two_or_four : {A : Type 0} (t : Bool) (s : State G) → is_best_at_limit (progressed G t best_exhausted when_exhausted s).number → A
  two_or_four true s e = absurd (not_at_limit {n = 2} (λ z. omega arith) (λ z. omega arith) e)
  two_or_four false s e = absurd (not_at_limit {n = 4} (λ z. omega arith) (λ z. omega arith) e)

  struck_by : (e : End G) → G.won b ≡ false → run G budget capacity (start G b) ≡ e → is_best_at_limit (answer G partial e).number
      → Struck G b budget capacity partial
  struck_by (won l p) u f e = absurd (not_at_limit {n = 0} (λ z. omega arith) (λ z. omega arith) e)
  struck_by (limit s) u f e = by (brings G partial s) refl e
    where
      by : (t : Bool) → brings G partial s ≡ t → is_best_at_limit (progressed G t (best_at_limit G s) at_limit s).number → Struck G b budget capacity partial
      by true t e = record { unwon = u; state = s; came = f; brought = t }
      by false t e = absurd (not_at_limit {n = 3} (λ z. omega arith) (λ z. omega arith) e)
  struck_by (exhausted s) u f e = two_or_four (brings G partial s) s e
  struck_by (out_of_nodes_at p) u f e = absurd (not_at_limit {n = 23} (λ z. omega arith) (λ z. omega arith) e)

  -- and 1 and 5 are given only then
  pub struck : is_best_at_limit (solve G b budget capacity partial).number → Struck G b budget capacity partial
  unfolding solve
  struck e = by (G.won b) refl e
    where
      by : (w : Bool) → G.won b ≡ w → is_best_at_limit (solve_as G w b budget capacity partial).number → Struck G b budget capacity partial
      by true f e = absurd (not_at_limit {n = 0} (λ z. omega arith) (λ z. omega arith) e)
      by false f e = struck_by (run G budget capacity (start G b)) f refl e

  -- so with the flag alone
  pub flagged : is_best_at_limit (solve G b budget capacity partial).number → partial ≡ true
  flagged e = let r = struck e in first partial (not (eqb r.state.best.number 0)) r.brought
