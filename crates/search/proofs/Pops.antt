-- T4: pops never exceed the budget, and the limit strikes only when they reach it.
use mathlib.Core.Path.{◌≡◌, refl, ap, subst}
use mathlib.Core.Bool.{Bool, true, false}
use mathlib.Core.List.{List, [], ◌∷◌}
use Prim.Native.Nat.{ℕ, zero, suc, ◌+◌, ◌≤◌}
use native.Mathlib.Omega.{arith}
use lib.Dec.{leb}
use Rattle.search.specs.Game.{Game}
use Rattle.search.specs.Solve.{Node, State, Grown, out_of_nodes, grown, End, won, limit, exhausted, out_of_nodes_at, Turn, over, again}
use Rattle.search.specs.Solve.{MAX_DEPTH, at_limit, when_exhausted, best_exhausted, cost, differs, child_of, dropped, no_room, born_as, bear, bearing, then_grow, expand, visit_as, visit, grown_turn, taken, onward, stopped, go_on, start, run, brings, best_at_limit, progressed, answer, solve_as, solve}
use Rattle.search.specs.Claims.{is_limit}
use Rattle.search.proofs.Numbers.{not_limit}
use Rattle.search.proofs.Later.{turn_limit_lem}

module _ (G : Game) where
  abbrev pops_of : End G → ℕ
  pops_of (won l p) = p
  pops_of (limit s) = s.pops
  pops_of (exhausted s) = s.pops
  pops_of (out_of_nodes_at p) = p

  -- expanding counts no pop
  module _ (k : ℕ) where
    abbrev GrownPops : Grown G → Type 0
    GrownPops out_of_nodes = Unit {0}
    GrownPops (grown s) = s.pops ≡ k

    born_pops : (x y : Bool) (m : Node G) (s : State G) → s.pops ≡ k → GrownPops (born_as G x y m s)
    unfolding bearing
    born_pops true y m s e = e
    born_pops false true m s e = tt
    born_pops false false m s e = e

    expand_pops : (c : ℕ) (n : Node G) (ks : List G.Move) (s : State G) → s.pops ≡ k → GrownPops (expand G c n ks s)
    unfolding expand bear
    expand_pops c n [] s e = e
    expand_pops c n (j ∷ ks) s e =
        first (expand_pops c n ks) (bear G c n j s) (born_pops (dropped G (child_of G n j s) s) (no_room G c s) (child_of G n j s) s e)
      where
        first : ((u : State G) → u.pops ≡ k → GrownPops (expand G c n ks u)) → (g : Grown G) → GrownPops g → GrownPops (then_grow G g (expand G c n ks))
        first rest out_of_nodes q = tt
        first rest (grown u) q = rest u q

    -- a turn ends or goes on with the pops that it had
    abbrev TurnPops : Turn G → Type 0
    TurnPops (over e) = pops_of e ≡ k
    TurnPops (again s) = s.pops ≡ k

    grown_pops : (g : Grown G) → GrownPops g → TurnPops (grown_turn G k g)
    grown_pops out_of_nodes q = refl
    grown_pops (grown s) q = q

  visit_pops : (c : ℕ) (n : Node G) (s : State G) (x w y : Bool) → TurnPops s.pops (visit_as G x w y c n s)
  visit_pops c n s true w y = refl
  visit_pops c n s false true y = refl
  visit_pops c n s false false true = refl
  visit_pops c n s false false false =
      grown_pops s.pops (expand G c n (G.candidates n.board) s) (expand_pops s.pops c n (G.candidates n.board) s refl)

  one_more_lem : (l : List (Node G)) (s : State G) → (taken G l s).pops ≡ suc s.pops
  unfolding taken
  one_more_lem l s = refl

  -- a turn counts one pop
  one_pop : (c : ℕ) (n : Node G) (l : List (Node G)) (s : State G) → TurnPops (suc s.pops) (visit G c n (taken G l s))
  unfolding visit
  one_pop c n l s =
      subst (λ (p : ℕ). TurnPops p (visit G c n (taken G l s))) (one_more_lem l s)
      (visit_pops c n (taken G l s) (differs ((taken G l s).known n.board) (cost G n)) (G.won n.board) (leb MAX_DEPTH (cost G n)))

  within : (a c : ℕ) (s : State G) → pops_of (run G a c s) ≤ s.pops + a
  unfolding run visit
  within zero c s = at_rest s.waiting
    where
      at_rest : (l : List (Node G)) → pops_of (stopped G l s) ≤ s.pops + 0
      at_rest [] = omega arith
      at_rest (n ∷ l) = omega arith
  within (suc a) c s = going (within a c) s.waiting
    where
      turned : ((u : State G) → pops_of (run G a c u) ≤ u.pops + a) → (t : Turn G) → TurnPops (suc s.pops) t → pops_of (onward G t (run G a c)) ≤ s.pops + suc a
      turned rest (over e) q = omega arith
      turned rest (again u) q = let h = rest u in omega arith

      going : ((u : State G) → pops_of (run G a c u) ≤ u.pops + a) → (l : List (Node G)) → pops_of (go_on G c l s (run G a c)) ≤ s.pops + suc a
      going rest [] = omega arith
      going rest (n ∷ l) =
          turned rest (visit G c n (taken G l s)) (one_pop c n l s)

  -- at the limit the budget is spent
  spent : (a c : ℕ) (s u : State G) → run G a c s ≡ limit u → u.pops ≡ s.pops + a
  unfolding run
  spent zero c s u e = at_rest s.waiting e
    where
      same : (s u : State G) → ◌≡◌ {A = End G} (limit s) (limit u) → u ≡ s
      same s u e = cc

      at_rest : (l : List (Node G)) → stopped G l s ≡ limit u → u.pops ≡ s.pops + 0
      at_rest [] e = let z : ◌≡◌ {A = ℕ} 0 1 = cc in absurd (let w : ⊥ = omega arith in w)
      at_rest (n ∷ l) e = let h = ap (λ (v : State G). v.pops) (same s u e) in omega arith
  spent (suc a) c s u e = going (spent a c) s.waiting e
    where
      turned : ((v u : State G) → run G a c v ≡ limit u → u.pops ≡ v.pops + a) → (n : Node G) (v : State G) (t : Turn G) → visit G c n v ≡ t
          → TurnPops (suc s.pops) t → onward G t (run G a c) ≡ limit u → u.pops ≡ s.pops + suc a
      turned rest n v (over r) q h e = turn_limit_lem G c n v u r q e
      turned rest n v (again w) q h e = let k = rest w u e in omega arith

      going : ((v u : State G) → run G a c v ≡ limit u → u.pops ≡ v.pops + a) → (l : List (Node G)) → go_on G c l s (run G a c) ≡ limit u
          → u.pops ≡ s.pops + suc a
      going rest [] e = let z : ◌≡◌ {A = ℕ} 0 1 = cc in absurd (let w : ⊥ = omega arith in w)
      going rest (n ∷ l) e = turned rest n (taken G l s) (visit G c n (taken G l s)) refl (one_pop c n l s) e

  -- ---- as it is answered

  best_pops : (t : Bool) (x y : ℕ) (s : State G) → (progressed G t x y s).pops ≡ s.pops
  best_pops true x y s = refl
  best_pops false x y s = refl

  answer_pops : (p : Bool) (e : End G) → (answer G p e).pops ≡ pops_of e
  answer_pops p (won l n) = refl
  answer_pops p (limit s) = best_pops (brings G p s) (best_at_limit G s) at_limit s
  answer_pops p (exhausted s) = best_pops (brings G p s) best_exhausted when_exhausted s
  answer_pops p (out_of_nodes_at n) = refl

  by_start : (b : G.Board) (budget capacity : ℕ) (p w : Bool) → (solve_as G w b budget capacity p).pops ≤ budget
  unfolding start
  by_start b budget capacity p true = omega arith
  by_start b budget capacity p false =
      let e = answer_pops p (run G budget capacity (start G b)) in let h = within budget capacity (start G b) in omega arith

  -- T4
  pub pops_within : (b : G.Board) (budget capacity : ℕ) (p : Bool) → (solve G b budget capacity p).pops ≤ budget
  unfolding solve
  pops_within b budget capacity p = by_start b budget capacity p (G.won b)

  exhausted_no_limit : {A : Type 0} (t : Bool) (s : State G) → is_limit (progressed G t best_exhausted when_exhausted s).number → A
  exhausted_no_limit true s e = absurd (not_limit {n = 2} (λ z. omega arith) (λ z. omega arith) (λ z. omega arith) e)
  exhausted_no_limit false s e = absurd (not_limit {n = 4} (λ z. omega arith) (λ z. omega arith) (λ z. omega arith) e)

  module _ (b : G.Board) (budget capacity : ℕ) (p : Bool) where
    by_end : (e : End G) → run G budget capacity (start G b) ≡ e → is_limit (answer G p e).number → (answer G p e).pops ≡ budget
    unfolding start
    by_end (won l n) q e = absurd (not_limit {n = 0} (λ z. omega arith) (λ z. omega arith) (λ z. omega arith) e)
    by_end (limit s) q e = let h = spent budget capacity (start G b) s q in let k = best_pops (brings G p s) (best_at_limit G s) at_limit s in omega arith
    by_end (exhausted s) q e = exhausted_no_limit (brings G p s) s e
    by_end (out_of_nodes_at n) q e = absurd (not_limit {n = 23} (λ z. omega arith) (λ z. omega arith) (λ z. omega arith) e)

    -- T4: the limit strikes only when the budget is spent
    pub limit_spends : is_limit (solve G b budget capacity p).number → (solve G b budget capacity p).pops ≡ budget
    unfolding solve
    limit_spends e = by_win (G.won b) e
      where
        by_win : (w : Bool) → is_limit (solve_as G w b budget capacity p).number → (solve_as G w b budget capacity p).pops ≡ budget
        by_win true e = absurd (not_limit {n = 0} (λ z. omega arith) (λ z. omega arith) (λ z. omega arith) e)
        by_win false e = by_end (run G budget capacity (start G b)) refl e
