-- What the theorems of the search claim, where an equation alone does not say it.
use Rattle.std.specs.Prelude.{◌≡◌, Bool, true, false, ◌||◌, List, ◌∷◌, ◌++◌, ◌⊎◌, ℕ, suc, ◌-◌, ◌<◌, eqb, leb}
use Rattle.search.specs.Game.{Game}
use Rattle.search.specs.Solve.{Perhaps, none, some, Node, State, grown, End, won, limit, exhausted, out_of_nodes_at, Answer}
use Rattle.search.specs.Solve.{MAX_DEPTH, best_said, cost, differs, start, child_of, dropped, no_room, expand, taken, run, brings}

-- there is something
abbrev pub is_some : {A : Type 0} → Perhaps A → Bool
is_some none = false
is_some (some x) = true

-- ---- what the numbers say

-- 0, 1, 2 and 5 bring a list
abbrev pub brings_list : ℕ → Bool
brings_list n = leb n 2 || eqb n 5

-- a best-progress list: at the limit, whether it ends won (5) or not (1), or after exhaustion
abbrev pub is_best_at_limit : ℕ → Type 0
is_best_at_limit n = (n ≡ 1) ⊎ (n ≡ 5)

abbrev pub is_best : ℕ → Type 0
is_best n = is_best_at_limit n ⊎ (n ≡ 2)

-- the limit, with a list or without
abbrev pub is_limit : ℕ → Type 0
is_limit n = is_best_at_limit n ⊎ (n ≡ 3)

module _ (G : Game) where
  -- ---- 23

  -- a node that is taken is expanded: not skipped, not won, below the depth limit
  pub record Expanded (n : Node G) (s : State G) : Type 0 where
    pub current : differs (s.known n.board) (cost G n) ≡ false
    pub unwon : G.won n.board ≡ false
    pub shallow : leb MAX_DEPTH (cost G n) ≡ false

  -- of the candidates of a node one makes a child that passes the depth and cost tests, and there is no room for it
  pub record NoNodeAmong (capacity : ℕ) (n : Node G) (ms : List G.Move) (s : State G) : Type 0 where
    pub earlier : List G.Move
    pub move : G.Move
    pub later : List G.Move
    pub split : ms ≡ earlier ++ (move ∷ later)
    pub state : State G
    pub grew : expand G capacity n earlier s ≡ grown state
    pub passes : dropped G (child_of G n move state) state ≡ false
    pub fills : no_room G capacity state ≡ true

  -- a run comes to such a node within its budget, at this count of pops
  pub record OutOfNodes (budget capacity : ℕ) (s : State G) (pops : ℕ) : Type 0 where
    pub turns : ℕ
    pub within : turns < budget
    pub state : State G
    pub came : run G turns capacity s ≡ limit state
    pub node : Node G
    pub rest : List (Node G)
    pub next : state.waiting ≡ node ∷ rest
    pub counted : suc state.pops ≡ pops
    pub expands : Expanded node (taken G rest state)
    pub finds : NoNodeAmong capacity node (G.candidates node.board) (taken G rest state)

  -- ---- one run

  -- a run without room had come to a state from which another run goes on
  pub record WentOn (a c x y : ℕ) (s : State G) (pops : ℕ) : Type 0 where
    pub turns : ℕ
    pub within : turns < a
    pub state : State G
    pub came : run G turns c s ≡ limit state
    pub counted : suc state.pops ≡ pops
    pub on : run G x y s ≡ run G (x - turns) y state

  -- what the end of a run with budget a and capacity c says of the run with x and y
  abbrev pub Follows : ℕ → ℕ → ℕ → ℕ → State G → End G → Type 0
  Follows a c x y s (won l p) = run G x y s ≡ won l p
  Follows a c x y s (limit u) = run G x y s ≡ run G (x - a) y u
  Follows a c x y s (exhausted u) = run G x y s ≡ exhausted u
  Follows a c x y s (out_of_nodes_at p) = WentOn a c x y s p

  -- ---- a best line that finishes

  -- what 1 meant before request (v): the limit strikes, and a best-progress list is brought
  pub record Struck (b : G.Board) (budget capacity : ℕ) (partial : Bool) : Type 0 where
    pub unwon : G.won b ≡ false
    pub state : State G
    pub came : run G budget capacity (start G b) ≡ limit state
    pub brought : brings G partial state ≡ true

  -- the answer then: the best line, called 5 if it ends won and else 1
  abbrev pub best_of : State G → Answer G
  best_of s = record { number = best_said (G.won s.best.board); list = some s.best.line; pops = s.pops }

  -- of the candidates of a node one makes this child: it passes the depth and cost tests, and there is room for it
  pub record BornAmong (capacity : ℕ) (n : Node G) (ms : List G.Move) (s : State G) (child : Node G) : Type 0 where
    pub earlier : List G.Move
    pub move : G.Move
    pub later : List G.Move
    pub split : ms ≡ earlier ++ (move ∷ later)
    pub state : State G
    pub grew : expand G capacity n earlier s ≡ grown state
    pub passes : dropped G (child_of G n move state) state ≡ false
    pub fits : no_room G capacity state ≡ false
    pub made : child_of G n move state ≡ child

  -- a run bears this node within its budget
  pub record Borne (budget capacity : ℕ) (s : State G) (child : Node G) : Type 0 where
    pub turns : ℕ
    pub within : turns < budget
    pub state : State G
    pub came : run G turns capacity s ≡ limit state
    pub node : Node G
    pub rest : List (Node G)
    pub next : state.waiting ≡ node ∷ rest
    pub expands : Expanded node (taken G rest state)
    pub bears : BornAmong capacity node (G.candidates node.board) (taken G rest state) child

  -- of the nodes that were borne one is won and another is not, so that their boards differ, and yet they count as the same
  pub record Clash (Born : Node G → Type 0) : Type 0 where
    pub finished : Node G
    pub other : Node G
    pub finished_born : Born finished
    pub other_born : Born other
    pub wins : G.won finished.board ≡ true
    pub unwon : G.won other.board ≡ false
    pub alike : G.same finished.board other.board ≡ true

  -- what an answer 5 with the list l becomes with more budget and room, in a run that bears these nodes
  pub data Becomes (Born : Node G → Type 0) (l : List G.Move) (a : Answer G) : Type 0 where
    won_then : a.number ≡ 0 → Becomes Born l a
    still : a.number ≡ 5 → a.list ≡ some l → Becomes Born l a
    no_room_then : a.number ≡ 23 → Becomes Born l a
    exhausted_then : a.number ≡ 2 → a.list ≡ some l → Clash Born → Becomes Born l a
