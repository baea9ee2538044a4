-- T4: 23 is given exactly when a child that passes both tests finds no room.
use mathlib.Core.Path.{◌≡◌, refl, sym, ap, ◌∙◌}
use mathlib.Core.Bool.{Bool, true, false}
use mathlib.Core.List.{List, [], ◌∷◌, ◌++◌}
use Prim.Native.Nat.{ℕ, zero, suc, ◌-◌, ◌<◌}
use native.Mathlib.Omega.{arith}
use lib.Dec.{leb}
use Rattle.search.specs.Game.{Game}
use Rattle.search.specs.Solve.{none, Node, State, Grown, out_of_nodes, grown, End, won, limit, exhausted, out_of_nodes_at, Turn, over, again}
use Rattle.search.specs.Solve.{MAX_DEPTH, at_limit, when_exhausted, best_exhausted, cost, differs, child_of, dropped, no_room, born_as, bear, then_grow, expand, visit_as, visit, grown_turn, taken, onward, stopped, go_on, start, run, brings, best_at_limit, progressed, answer, solve_as, solve}
use Rattle.search.specs.Claims.{Expanded, NoNodeAmong, OutOfNodes}
use Rattle.search.proofs.Numbers.{limit_said_lem, not_at_limit}
use Rattle.search.proofs.Later.{goes_on}

module _ (G : Game) where
  -- ---- a child without room

  no_room_then_lem : (c : ℕ) (n : Node G) (m : G.Move) (s : State G) → dropped G (child_of G n m s) s ≡ false → no_room G c s ≡ true → bear G c n m s ≡ out_of_nodes
  unfolding bear
  no_room_then_lem c n m s e f = rw (e, f)

  no_room_when : (c : ℕ) (n : Node G) (m : G.Move) (s : State G) → bear G c n m s ≡ out_of_nodes → (dropped G (child_of G n m s) s ≡ false) × (no_room G c s ≡ true)
  unfolding bear
  no_room_when c n m s e = by_tests (dropped G (child_of G n m s) s) (no_room G c s) refl refl e
    where
      by_tests : (x y : Bool) → dropped G (child_of G n m s) s ≡ x → no_room G c s ≡ y → born_as G x y (child_of G n m s) s ≡ out_of_nodes
          → (dropped G (child_of G n m s) s ≡ false) × (no_room G c s ≡ true)
      by_tests true y p q e = let z : ◌≡◌ {A = ℕ} 0 1 = cc in absurd (let w : ⊥ = omega arith in w)
      by_tests false true p q e = (p, q)
      by_tests false false p q e = let z : ◌≡◌ {A = ℕ} 0 1 = cc in absurd (let w : ⊥ = omega arith in w)

  -- ---- an expansion without room

  expand_append : (c : ℕ) (n : Node G) (ms ns : List G.Move) (s : State G)
      → expand G c n (ms ++ ns) s ≡ then_grow G (expand G c n ms s) (expand G c n ns)
  unfolding expand
  expand_append c n [] ns s = refl
  expand_append c n (m ∷ ms) ns s = first (expand_append c n ms ns) (bear G c n m s)
    where
      first : ((u : State G) → expand G c n (ms ++ ns) u ≡ then_grow G (expand G c n ms u) (expand G c n ns)) → (g : Grown G)
          → then_grow G g (expand G c n (ms ++ ns)) ≡ then_grow G (then_grow G g (expand G c n ms)) (expand G c n ns)
      first rest out_of_nodes = refl
      first rest (grown u) = rest u

  full_then : (c : ℕ) (n : Node G) (ms : List G.Move) (s : State G) → NoNodeAmong G c n ms s → expand G c n ms s ≡ out_of_nodes
  unfolding expand
  full_then c n ms s r =
      ap (λ (l : List G.Move). expand G c n l s) r.split
      ∙ expand_append c n r.earlier (r.move ∷ r.later) s
      ∙ ap (λ (g : Grown G). then_grow G g (expand G c n (r.move ∷ r.later))) r.grew
      ∙ ap (λ (g : Grown G). then_grow G g (expand G c n r.later)) (no_room_then_lem c n r.move r.state r.passes r.fills)

  full_when : (c : ℕ) (n : Node G) (ms : List G.Move) (s : State G) → expand G c n ms s ≡ out_of_nodes → NoNodeAmong G c n ms s
  unfolding expand
  full_when c n [] s e = let z : ◌≡◌ {A = ℕ} 0 1 = cc in absurd (let w : ⊥ = omega arith in w)
  full_when c n (m ∷ ms) s e = first (full_when c n ms) (bear G c n m s) refl e
    where
      first : ((u : State G) → expand G c n ms u ≡ out_of_nodes → NoNodeAmong G c n ms u) → (g : Grown G) → bear G c n m s ≡ g
          → then_grow G g (expand G c n ms) ≡ out_of_nodes → NoNodeAmong G c n (m ∷ ms) s
      first rest out_of_nodes q e =
          let t = no_room_when c n m s q in
          record { earlier = []; move = m; later = ms; split = refl; state = s; grew = refl; passes = t.0; fills = t.1 }
      first rest (grown u) q e =
          let r = rest u e in
          record {
            earlier = m ∷ r.earlier;
            move = r.move;
            later = r.later;
            split = ap (λ (l : List G.Move). m ∷ l) r.split;
            state = r.state;
            grew = ap (λ (g : Grown G). then_grow G g (expand G c n r.earlier)) q ∙ r.grew;
            passes = r.passes;
            fills = r.fills;
          }

  -- ---- a turn without room

  pub record StuckAt (c : ℕ) (n : Node G) (s : State G) (p : ℕ) : Type 0 where
    pub counted : s.pops ≡ p
    pub expands : Expanded G n s
    pub finds : NoNodeAmong G c n (G.candidates n.board) s

  stuck_then : (c : ℕ) (n : Node G) (s : State G) → Expanded G n s → NoNodeAmong G c n (G.candidates n.board) s → visit G c n s ≡ over (out_of_nodes_at s.pops)
  unfolding visit
  stuck_then c n s e r =
      rw (e.current, e.unwon, e.shallow) (ap (grown_turn G s.pops) (full_then c n (G.candidates n.board) s r))

  stuck_when : (c : ℕ) (n : Node G) (s : State G) (p : ℕ) → visit G c n s ≡ over (out_of_nodes_at p) → StuckAt c n s p
  unfolding visit
  stuck_when c n s p e =
      by_tests (differs (s.known n.board) (cost G n)) (G.won n.board) (leb MAX_DEPTH (cost G n)) refl refl refl e
    where
      by_growth : (g : Grown G) → expand G c n (G.candidates n.board) s ≡ g → grown_turn G s.pops g ≡ over (out_of_nodes_at p) → Expanded G n s → StuckAt c n s p
      by_growth out_of_nodes q e x = record { counted = cc; expands = x; finds = full_when c n (G.candidates n.board) s q }
      by_growth (grown u) q e x = let z : ◌≡◌ {A = ℕ} 0 1 = cc in absurd (let w : ⊥ = omega arith in w)

      by_tests : (x w y : Bool) → differs (s.known n.board) (cost G n) ≡ x → G.won n.board ≡ w → leb MAX_DEPTH (cost G n) ≡ y
          → visit_as G x w y c n s ≡ over (out_of_nodes_at p) → StuckAt c n s p
      by_tests true w y i j k e = let z : ◌≡◌ {A = ℕ} 0 1 = cc in absurd (let w : ⊥ = omega arith in w)
      by_tests false true y i j k e = let z : ◌≡◌ {A = ℕ} 0 1 = cc in absurd (let w : ⊥ = omega arith in w)
      by_tests false false true i j k e = let z : ◌≡◌ {A = ℕ} 0 1 = cc in absurd (let w : ⊥ = omega arith in w)
      by_tests false false false i j k e =
          by_growth (expand G c n (G.candidates n.board) s) refl e (record { current = i; unwon = j; shallow = k })

  -- ---- a run without room

  one_more_lem : (l : List (Node G)) (s : State G) → (taken G l s).pops ≡ suc s.pops
  unfolding taken
  one_more_lem l s = refl

  pub room_when : (a c : ℕ) (s : State G) (p : ℕ) → run G a c s ≡ out_of_nodes_at p → OutOfNodes G a c s p
  unfolding run
  room_when zero c s p e = at_rest s.waiting e
    where
      at_rest : (l : List (Node G)) → stopped G l s ≡ out_of_nodes_at p → OutOfNodes G 0 c s p
      at_rest [] e = let z : ◌≡◌ {A = ℕ} 0 1 = cc in absurd (let w : ⊥ = omega arith in w)
      at_rest (n ∷ l) e = let z : ◌≡◌ {A = ℕ} 0 1 = cc in absurd (let w : ⊥ = omega arith in w)
  room_when (suc a) c s p e = going (room_when a c) s.waiting refl e
    where
      turned : ((u : State G) (p : ℕ) → run G a c u ≡ out_of_nodes_at p → OutOfNodes G a c u p) → (n : Node G) (l : List (Node G)) → s.waiting ≡ n ∷ l
          → (t : Turn G) → visit G c n (taken G l s) ≡ t → onward G t (run G a c) ≡ out_of_nodes_at p → OutOfNodes G (suc a) c s p
      turned rest n l w (over f) q e =
          let r = stuck_when c n (taken G l s) p (q ∙ ap (λ (f : End G). over f) e) in
          record {
            turns = 0;
            within = omega arith;
            state = s;
            came = ap (λ (k : List (Node G)). stopped G k s) w;
            node = n;
            rest = l;
            next = w;
            counted = sym (one_more_lem l s) ∙ r.counted;
            expands = r.expands;
            finds = r.finds;
          }
      turned rest n l w (again u) q e =
          let r = rest u p e in
          record {
            turns = suc r.turns;
            within = let h = r.within in omega arith;
            state = r.state;
            came = ap (λ (k : List (Node G)). go_on G c k s (run G r.turns c)) w ∙ ap (λ (t : Turn G). onward G t (run G r.turns c)) q ∙ r.came;
            node = r.node;
            rest = r.rest;
            next = r.next;
            counted = r.counted;
            expands = r.expands;
            finds = r.finds;
          }

      going : ((u : State G) (p : ℕ) → run G a c u ≡ out_of_nodes_at p → OutOfNodes G a c u p) → (k : List (Node G)) → s.waiting ≡ k
          → go_on G c k s (run G a c) ≡ out_of_nodes_at p → OutOfNodes G (suc a) c s p
      going rest [] w e = let z : ◌≡◌ {A = ℕ} 0 1 = cc in absurd (let w : ⊥ = omega arith in w)
      going rest (n ∷ l) w e = turned rest n l w (visit G c n (taken G l s)) refl e

  -- one turn more from a state
  turn_then : (k c p : ℕ) (s : State G) (n : Node G) (l : List (Node G)) → s.waiting ≡ n ∷ l → visit G c n (taken G l s) ≡ over (out_of_nodes_at p)
      → run G (suc k) c s ≡ out_of_nodes_at p
  unfolding run
  turn_then k c p s n l w e = ap (λ (q : List (Node G)). go_on G c q s (run G k c)) w ∙ ap (λ (t : Turn G). onward G t (run G k c)) e

  pub room_then : (a c : ℕ) (s : State G) (p : ℕ) → OutOfNodes G a c s p → run G a c s ≡ out_of_nodes_at p
  room_then a c s p r =
      let within : r.turns < a = r.within in
      let v = stuck_then c r.node (taken G r.rest r.state) r.expands r.finds in
      goes_on G {c = c} {d = c} (omega arith) r.turns a (omega arith) s r.state r.came
      ∙ ap (λ (k : ℕ). run G k c r.state) (let q : a - r.turns ≡ suc (a - suc r.turns) = omega arith in q)
      ∙ turn_then (a - suc r.turns) c (taken G r.rest r.state).pops r.state r.node r.rest r.next v
      ∙ ap (λ (k : ℕ). out_of_nodes_at k) (one_more_lem r.rest r.state ∙ r.counted)

  -- ---- as it is answered

  stuck_number : (p : Bool) (e : End G) → (answer G p e).number ≡ 23 → e ≡ out_of_nodes_at (answer G p e).pops
  stuck_number p (won l n) q = absurd (let w : ⊥ = omega arith in w)
  stuck_number p (limit s) q = by_list (brings G p s) q
    where
      by_list : (t : Bool) → (progressed G t (best_at_limit G s) at_limit s).number ≡ 23 → limit s ≡ out_of_nodes_at (progressed G t (best_at_limit G s) at_limit s).pops
      by_list true q = absurd (not_at_limit {n = 23} (λ z. omega arith) (λ z. omega arith) (limit_said_lem (G.won s.best.board) q))
      by_list false q = absurd (let w : ⊥ = omega arith in w)
  stuck_number p (exhausted s) q = by_list (brings G p s) q
    where
      by_list : (t : Bool) → (progressed G t best_exhausted when_exhausted s).number ≡ 23 → exhausted s ≡ out_of_nodes_at (progressed G t best_exhausted when_exhausted s).pops
      by_list true q = absurd (let w : ⊥ = omega arith in w)
      by_list false q = absurd (let w : ⊥ = omega arith in w)
  stuck_number p (out_of_nodes_at n) q = refl

  module _ (b : G.Board) (budget capacity : ℕ) (partial : Bool) where
    -- T4: 23 only then
    pub no_room_only_then : (solve G b budget capacity partial).number ≡ 23
        → (G.won b ≡ false) × OutOfNodes G budget capacity (start G b) (solve G b budget capacity partial).pops
    unfolding solve
    no_room_only_then e = by_start (G.won b) refl e
      where
        by_start : (w : Bool) → G.won b ≡ w → (solve_as G w b budget capacity partial).number ≡ 23
            → (G.won b ≡ false) × OutOfNodes G budget capacity (start G b) (solve_as G w b budget capacity partial).pops
        by_start true f e = absurd (let w : ⊥ = omega arith in w)
        by_start false f e = (
          f,
          room_when budget capacity (start G b) (answer G partial (run G budget capacity (start G b))).pops
              (stuck_number partial (run G budget capacity (start G b)) e),
        )

    -- T4: and always then, with those pops and no list
    pub no_room_always_then : (pops : ℕ) → G.won b ≡ false → OutOfNodes G budget capacity (start G b) pops
        → solve G b budget capacity partial ≡ record { number = 23; list = none; pops = pops }
    unfolding solve
    no_room_always_then pops f r =
        ap (λ (w : Bool). solve_as G w b budget capacity partial) f ∙ ap (answer G partial) (room_then budget capacity (start G b) pops r)
