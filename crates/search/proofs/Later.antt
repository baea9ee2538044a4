-- Larger settings: a search that is won or exhausted stays as it is, and one at its limit goes on from there.
use mathlib.Core.Path.{◌≡◌, refl, sym, ap, ◌∙◌, subst}
use mathlib.Core.Bool.{Bool, true, false}
use mathlib.Core.List.{List, [], ◌∷◌}
use Prim.Native.Nat.{ℕ, zero, suc, ◌-◌, ◌≤◌}
use native.Mathlib.Nat.{not-suc-le-zero, le_of_suc-le-suc}
use native.Mathlib.Omega.{arith}
use borrow.Author.Tests.{lt-leb, leb-false}
use lib.Dec.{leb}
use Rattle.search.specs.Game.{Game}
use Rattle.search.specs.Solve.{Node, State, Grown, out_of_nodes, grown, End, won, limit, exhausted, out_of_nodes_at, Turn, over, again}
use Rattle.search.specs.Solve.{MAX_DEPTH, cost, differs, child_of, dropped, no_room, born_as, bear, then_grow, expand, visit_as, visit, grown_turn, taken, onward, stopped, go_on, run}

module _ (G : Game) where
  -- ---- the cases of an outcome are apart

  abbrev is_full : Grown G → ℕ
  is_full out_of_nodes = 1
  is_full (grown s) = 0

  full_or_grown : {A : Type 0} (s : State G) → ◌≡◌ {A = Grown G} out_of_nodes (grown s) → A
  full_or_grown s e = let z : ◌≡◌ {A = ℕ} 1 0 = ap is_full e in absurd (let w : ⊥ = omega arith in w)

  abbrev is_over : Turn G → ℕ
  is_over (over e) = 1
  is_over (again s) = 0

  over_or_again : {A : Type 0} (e : End G) (s : State G) → ◌≡◌ {A = Turn G} (over e) (again s) → A
  over_or_again e s q = let z : ◌≡◌ {A = ℕ} 1 0 = ap is_over q in absurd (let w : ⊥ = omega arith in w)

  -- ---- more room changes nothing of what had room

  module _ {c d : ℕ} (more : c ≤ d) where
    born_more : (drop x y : Bool) (m : Node G) (s u : State G) → (x ≡ false → y ≡ false)
        → born_as G drop x m s ≡ grown u → born_as G drop y m s ≡ grown u
    born_more true x y m s u h e = e
    born_more false true y m s u h e = full_or_grown u e
    born_more false false y m s u h e = subst (λ (z : Bool). born_as G false z m s ≡ grown u) (sym (h refl)) e

    bear_more : (n : Node G) (k : G.Move) (s u : State G) → bear G c n k s ≡ grown u → bear G d n k s ≡ grown u
    unfolding bear no_room
    bear_more n k s u e =
        born_more (dropped G (child_of G n k s) s) (leb c s.born) (leb d s.born) (child_of G n k s) s u
        (λ q. lt-leb d s.born (let h = leb-false c s.born q in omega arith)) e

    expand_more : (n : Node G) (ks : List G.Move) (s u : State G) → expand G c n ks s ≡ grown u → expand G d n ks s ≡ grown u
    unfolding expand
    expand_more n [] s u e = e
    expand_more n (k ∷ ks) s u e = first (expand_more n ks) (bear G c n k s) refl e
      where
        first : ((s u : State G) → expand G c n ks s ≡ grown u → expand G d n ks s ≡ grown u) → (g : Grown G) → bear G c n k s ≡ g
            → then_grow G g (expand G c n ks) ≡ grown u → then_grow G (bear G d n k s) (expand G d n ks) ≡ grown u
        first rest out_of_nodes q e = full_or_grown u e
        first rest (grown v) q e = ap (λ (g : Grown G). then_grow G g (expand G d n ks)) (bear_more n k s v q) ∙ rest v u e

    grown_turn_lem : (p : ℕ) (g h : Grown G) (u : State G) → (g ≡ grown u → h ≡ grown u) → grown_turn G p g ≡ again u → grown_turn G p h ≡ again u
    grown_turn_lem p out_of_nodes h u f e = over_or_again (out_of_nodes_at p) u e
    grown_turn_lem p (grown s) h u f e =
        ap (grown_turn G p) (f (ap (λ (v : State G). grown v) (again_same s u e)))
      where
        again_same : (s u : State G) → ◌≡◌ {A = Turn G} (again s) (again u) → s ≡ u
        again_same s u q = cc

    -- a turn that went on goes on alike
    visit_again : (x w y : Bool) (n : Node G) (s u : State G) → visit_as G x w y c n s ≡ again u → visit_as G x w y d n s ≡ again u
    visit_again true w y n s u e = e
    visit_again false true y n s u e = over_or_again (won n.line s.pops) u e
    visit_again false false true n s u e = e
    visit_again false false false n s u e =
        grown_turn_lem s.pops (expand G c n (G.candidates n.board) s) (expand G d n (G.candidates n.board) s) u
        (expand_more n (G.candidates n.board) s u) e

  -- ---- ends that stay

  abbrev pub Fixed : End G → Type 0
  Fixed (won l p) = Unit {0}
  Fixed (limit s) = ⊥
  Fixed (exhausted s) = Unit {0}
  Fixed (out_of_nodes_at p) = ⊥

  grown_over : (p : ℕ) (g h : Grown G) (e : End G) → Fixed e → grown_turn G p g ≡ over e → grown_turn G p h ≡ over e
  grown_over p out_of_nodes h e f q = absurd (subst Fixed (sym (over_same (out_of_nodes_at p) e q)) f)
    where
      over_same : (e f : End G) → ◌≡◌ {A = Turn G} (over e) (over f) → e ≡ f
      over_same e f q = cc
  grown_over p (grown s) h e f q = over_or_again e s (sym q)

  -- a turn that ended for good ends alike
  visit_over : (c d : ℕ) (x w y : Bool) (n : Node G) (s : State G) (e : End G) → Fixed e → visit_as G x w y c n s ≡ over e → visit_as G x w y d n s ≡ over e
  visit_over c d true w y n s e f q = over_or_again e s (sym q)
  visit_over c d false true y n s e f q = q
  visit_over c d false false true n s e f q = over_or_again e s (sym q)
  visit_over c d false false false n s e f q =
      grown_over s.pops (expand G c n (G.candidates n.board) s) (expand G d n (G.candidates n.board) s) e f q

  -- a turn never ends at the limit
  abbrev at_limit : End G → ℕ
  at_limit (won l p) = 0
  at_limit (limit s) = 1
  at_limit (exhausted s) = 0
  at_limit (out_of_nodes_at p) = 0

  abbrev turn_limit : Turn G → ℕ
  turn_limit (over e) = at_limit e
  turn_limit (again s) = 0

  grown_limit : (p : ℕ) (g : Grown G) → turn_limit (grown_turn G p g) ≡ 0
  grown_limit p out_of_nodes = refl
  grown_limit p (grown s) = refl

  visit_limit : (c : ℕ) (x w y : Bool) (n : Node G) (s : State G) → turn_limit (visit_as G x w y c n s) ≡ 0
  visit_limit c true w y n s = refl
  visit_limit c false true y n s = refl
  visit_limit c false false true n s = refl
  visit_limit c false false false n s = grown_limit s.pops (expand G c n (G.candidates n.board) s)

  pub turn_limit_lem : {A : Type 0} (c : ℕ) (n : Node G) (s u : State G) (e : End G) → visit G c n s ≡ over e → e ≡ limit u → A
  unfolding visit
  turn_limit_lem c n s u e q r =
      let z : ◌≡◌ {A = ℕ} 0 1 =
      sym (visit_limit c (differs (s.known n.board) (cost G n)) (G.won n.board) (leb MAX_DEPTH (cost G n)) n s)
      ∙ ap turn_limit q ∙ ap at_limit r in
      absurd (let w : ⊥ = omega arith in w)

  limit_or_not : {A : Type 0} (s u : State G) → ◌≡◌ {A = End G} (exhausted s) (limit u) → A
  limit_or_not s u q = let z : ◌≡◌ {A = ℕ} 0 1 = ap at_limit q in absurd (let w : ⊥ = omega arith in w)

  -- ---- the run

  module _ {c d : ℕ} (more : c ≤ d) where
    turn_again : (n : Node G) (s u : State G) → visit G c n s ≡ again u → visit G d n s ≡ again u
    unfolding visit
    turn_again n s u e =
        visit_again more (differs (s.known n.board) (cost G n)) (G.won n.board) (leb MAX_DEPTH (cost G n)) n s u e

    turn_over : (n : Node G) (s : State G) (e : End G) → Fixed e → visit G c n s ≡ over e → visit G d n s ≡ over e
    unfolding visit
    turn_over n s e f q =
        visit_over c d (differs (s.known n.board) (cost G n)) (G.won n.board) (leb MAX_DEPTH (cost G n)) n s e f q

    -- won or exhausted stays so, with all that it brings
    pub stays : (a b : ℕ) → a ≤ b → (s : State G) → Fixed (run G a c s) → run G b d s ≡ run G a c s
    unfolding run
    stays zero zero h s f = refl
    stays zero (suc b) h s f = at_rest s.waiting f
      where
        at_rest : (l : List (Node G)) → Fixed (stopped G l s) → go_on G d l s (run G b d) ≡ stopped G l s
        at_rest [] f = refl
        at_rest (n ∷ l) f = absurd f
    stays (suc a) zero h s f = absurd (not-suc-le-zero h)
    stays (suc a) (suc b) h s f = going (stays a b (le_of_suc-le-suc h)) s.waiting f
      where
        turned : ((u : State G) → Fixed (run G a c u) → run G b d u ≡ run G a c u) → (n : Node G) (u : State G) (t : Turn G)
            → visit G c n u ≡ t → Fixed (onward G t (run G a c)) → onward G (visit G d n u) (run G b d) ≡ onward G t (run G a c)
        turned rest n u (over e) q f = ap (λ (t : Turn G). onward G t (run G b d)) (turn_over n u e f q)
        turned rest n u (again v) q f = ap (λ (t : Turn G). onward G t (run G b d)) (turn_again n u v q) ∙ rest v f

        going : ((u : State G) → Fixed (run G a c u) → run G b d u ≡ run G a c u) → (l : List (Node G))
            → Fixed (go_on G c l s (run G a c)) → go_on G d l s (run G b d) ≡ go_on G c l s (run G a c)
        going rest [] f = refl
        going rest (n ∷ l) f = turned rest n (taken G l s) (visit G c n (taken G l s)) refl f

    -- at the limit a larger search goes on from there
    pub goes_on : (a b : ℕ) → a ≤ b → (s u : State G) → run G a c s ≡ limit u → run G b d s ≡ run G (b - a) d u
    unfolding run
    goes_on zero b h s u e = at_limit_lem s.waiting e ∙ ap (λ (k : ℕ). run G k d u) (let q : b ≡ b - 0 = omega arith in q)
      where
        same_limit : (s u : State G) → ◌≡◌ {A = End G} (limit s) (limit u) → s ≡ u
        same_limit s u q = cc

        at_limit_lem : (l : List (Node G)) → stopped G l s ≡ limit u → run G b d s ≡ run G b d u
        at_limit_lem [] e = limit_or_not s u e
        at_limit_lem (n ∷ l) e = ap (run G b d) (same_limit s u e)
    goes_on (suc a) zero h s u e = absurd (not-suc-le-zero h)
    goes_on (suc a) (suc b) h s u e = going (goes_on a b (le_of_suc-le-suc h)) s.waiting e ∙ ap (λ (k : ℕ). run G k d u) (let q : b - a ≡ suc b - suc a = omega arith in q)
      where
        turned : ((v : State G) (u : State G) → run G a c v ≡ limit u → run G b d v ≡ run G (b - a) d u) → (n : Node G) (v : State G) (t : Turn G)
            → visit G c n v ≡ t → onward G t (run G a c) ≡ limit u → onward G (visit G d n v) (run G b d) ≡ run G (b - a) d u
        turned rest n v (over e) q f = turn_limit_lem c n v u e q f
        turned rest n v (again w) q f = ap (λ (t : Turn G). onward G t (run G b d)) (turn_again n v w q) ∙ rest w u f

        going : ((v : State G) (u : State G) → run G a c v ≡ limit u → run G b d v ≡ run G (b - a) d u) → (l : List (Node G))
            → go_on G c l s (run G a c) ≡ limit u → go_on G d l s (run G b d) ≡ run G (b - a) d u
        going rest [] e = limit_or_not s u e
        going rest (n ∷ l) e = turned rest n (taken G l s) (visit G c n (taken G l s)) refl e
