-- What taking a node and bearing a child keep holds at the end of a search.
use mathlib.Core.Path.{◌≡◌, refl}
use mathlib.Core.Bool.{Bool, true, false}
use mathlib.Core.List.{List, [], ◌∷◌}
use mathlib.Core.Logic.{inl, inr}
use Prim.Native.Nat.{ℕ, zero, suc}
use lib.Dec.{leb}
use Rattle.search.specs.Game.{Game, among}
use Rattle.search.specs.Solve.{Node, State, Grown, out_of_nodes, grown, End, won, limit, exhausted, out_of_nodes_at, Turn, over, again}
use Rattle.search.specs.Solve.{MAX_DEPTH, cost, differs, child_of, dropped, no_room, born_as, bear, then_grow, expand, visit_as, visit, grown_turn, taken, onward, stopped, go_on, run, bearing}

module _ (G : Game) (P : State G → Type 0) (F : Node G → Type 0)
    (takes : (s : State G) (n : Node G) (l : List (Node G)) → s.waiting ≡ n ∷ l → P s → P (taken G l s) × F n)
    (bears : (n : Node G) (k : G.Move) (s : State G) → F n → among k (G.candidates n.board)
    → dropped G (child_of G n k s) s ≡ false → P s → P (bearing G (child_of G n k s) s)) where
  abbrev GrownKept : Grown G → Type 0
  GrownKept out_of_nodes = Unit {0}
  GrownKept (grown s) = P s

  -- what is known at an end: of its state, or of the node that is won
  pub record WonAt (l : List G.Move) : Type 0 where
    pub node : Node G
    pub known : F node
    pub line : node.line ≡ l
    pub wins : G.won node.board ≡ true

  abbrev pub EndKept : End G → Type 0
  EndKept (won l p) = WonAt l
  EndKept (limit s) = P s
  EndKept (exhausted s) = P s
  EndKept (out_of_nodes_at p) = Unit {0}

  abbrev TurnKept : Turn G → Type 0
  TurnKept (over e) = EndKept e
  TurnKept (again s) = P s

  born_kept : (n : Node G) (k : G.Move) (s : State G) → F n → among k (G.candidates n.board) → P s
      → (x y : Bool) → dropped G (child_of G n k s) s ≡ x → GrownKept (born_as G x y (child_of G n k s) s)
  born_kept n k s f i p true y e = p
  born_kept n k s f i p false true e = tt
  born_kept n k s f i p false false e = bears n k s f i e p

  expand_kept : (c : ℕ) (n : Node G) (ks : List G.Move) → F n
      → ((k : G.Move) → among k ks → among k (G.candidates n.board)) → (s : State G) → P s → GrownKept (expand G c n ks s)
  unfolding expand bear
  expand_kept c n [] f i s p = p
  expand_kept c n (k ∷ ks) f i s p =
      first (expand_kept c n ks f (λ j a. i j (inr a))) (bear G c n k s)
      (born_kept n k s f (i k (inl refl)) p (dropped G (child_of G n k s) s) (no_room G c s) refl)
    where
      first : ((u : State G) → P u → GrownKept (expand G c n ks u)) → (g : Grown G) → GrownKept g → GrownKept (then_grow G g (expand G c n ks))
      first rest out_of_nodes q = tt
      first rest (grown u) q = rest u q

  grown_kept : (m : ℕ) (g : Grown G) → GrownKept g → TurnKept (grown_turn G m g)
  grown_kept m out_of_nodes q = tt
  grown_kept m (grown s) q = q

  visit_kept : (c : ℕ) (n : Node G) (s : State G) → F n → P s → (x w y : Bool) → G.won n.board ≡ w → TurnKept (visit_as G x w y c n s)
  visit_kept c n s f p true w y e = p
  visit_kept c n s f p false true y e = record { node = n; known = f; line = refl; wins = e }
  visit_kept c n s f p false false true e = p
  visit_kept c n s f p false false false e =
      grown_kept s.pops (expand G c n (G.candidates n.board) s) (expand_kept c n (G.candidates n.board) f (λ k a. a) s p)

  pub kept : (a c : ℕ) (s : State G) → P s → EndKept (run G a c s)
  unfolding run visit
  kept zero c s p = at_rest s.waiting
    where
      at_rest : (l : List (Node G)) → EndKept (stopped G l s)
      at_rest [] = p
      at_rest (n ∷ l) = p
  kept (suc a) c s p = going (kept a c) s.waiting refl
    where
      turned : ((u : State G) → P u → EndKept (run G a c u)) → (t : Turn G) → TurnKept t → EndKept (onward G t (run G a c))
      turned rest (over e) q = q
      turned rest (again u) q = rest u q

      going : ((u : State G) → P u → EndKept (run G a c u)) → (l : List (Node G)) → s.waiting ≡ l → EndKept (go_on G c l s (run G a c))
      going rest [] e = p
      going rest (n ∷ l) e =
          let t = takes s n l e p in
          turned rest (visit G c n (taken G l s))
          (visit_kept c n (taken G l s) t.1 t.0
          (differs ((taken G l s).known n.board) (cost G n)) (G.won n.board) (leb MAX_DEPTH (cost G n)) refl)
