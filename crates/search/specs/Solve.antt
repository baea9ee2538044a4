-- The search, as SCOPE.md tells it.
use Rattle.std.specs.Prelude.{Bool, true, false, cond, not, ◌&&◌, ◌||◌, List, [], ◌∷◌, ◌++◌, ℕ, zero, suc, ◌+◌, eqb, leb, ltb, length}
use Rattle.search.specs.Game.{Game}

-- the most moves of a line
abbrev pub MAX_DEPTH : ℕ
MAX_DEPTH = 200

-- SCOPE.md's numbers: the limit without a list, exhausted without and with one (`best_said`, below, has those of the limit with one)
abbrev pub at_limit : ℕ
at_limit = 3

abbrev pub when_exhausted : ℕ
when_exhausted = 4

abbrev pub best_exhausted : ℕ
best_exhausted = 2

-- the limit with a list: whether its last board is won
abbrev pub best_said : Bool → ℕ
best_said true = 5
best_said false = 1

-- something, or nothing
pub data Perhaps (A : Type 0) : Type 0 where
  none : Perhaps A
  some : A → Perhaps A

-- the best cost known differs
abbrev pub differs : Perhaps ℕ → ℕ → Bool
differs none n = false
differs (some k) n = not (eqb k n)

-- the best cost known is not above this one
abbrev pub as_good : Perhaps ℕ → ℕ → Bool
as_good none n = false
as_good (some k) n = leb k n

module _ (G : Game) where
  -- a node: its number by birth, the whole line that leads to it, its board
  pub record Node : Type 0 where
    pub number : ℕ
    pub line : List G.Move
    pub board : G.Board

  -- cost and depth both grow by the moves made
  abbrev pub cost : Node → ℕ
  cost n = length n.line

  abbrev pub hope : Node → ℕ
  hope n = G.heuristic n.board

  -- ---- the nodes that wait

  -- a is taken before b: the least by cost + heuristic, then by heuristic, then by number
  unfoldable pub before : Node → Node → Bool
  before a b =
      ltb (cost a + hope a) (cost b + hope b)
      || (eqb (cost a + hope a) (cost b + hope b) && (ltb (hope a) (hope b) || (eqb (hope a) (hope b) && ltb a.number b.number)))

  -- a node at its place among those that wait
  unfoldable pub queued : Node → List Node → List Node
  queued n [] = n ∷ []
  queued n (m ∷ l) = cond (before n m) (n ∷ m ∷ l) (m ∷ queued n l)

  -- ---- the best cost known for a board

  -- with a cost for a board more: it is the cost of every board that counts as the same, and the others keep theirs
  unfoldable pub learned : G.Board → ℕ → (G.Board → Perhaps ℕ) → G.Board → Perhaps ℕ
  learned b n known c = cond (G.same c b) (some n) (known c)

  -- ---- the state of a search

  pub record State : Type 0 where
    pub born : ℕ
    pub waiting : List Node
    pub known : G.Board → Perhaps ℕ
    pub best : Node
    pub pops : ℕ

  unfoldable pub start : G.Board → State
  start b =
      let root : Node = record { number = 0; line = []; board = b } in
      record { born = 1; waiting = root ∷ []; known = learned b 0 (λ c. none); best = root; pops = 0 }

  -- ---- a child

  -- the child of a node by a candidate
  unfoldable pub child_of : Node → G.Move → State → Node
  child_of n m s = record { number = s.born; line = n.line ++ G.child_moves n.board m; board = G.child_board n.board m }

  -- dropped: over the depth, or with a known cost not above its own
  unfoldable pub dropped : Node → State → Bool
  dropped m s = ltb MAX_DEPTH (cost m) || as_good (s.known m.board) (cost m)

  -- the best progress moves only to a strictly higher score
  unfoldable pub better : Node → Node → Node
  better m best = cond (ltb (G.progress best.board) (G.progress m.board)) m best

  unfoldable pub bearing : Node → State → State
  bearing m s =
      record {
        born = suc s.born;
        waiting = queued m s.waiting;
        known = learned m.board (cost m) s.known;
        best = better m s.best;
        pops = s.pops;
      }

  -- no room: the nodes already fill the capacity
  unfoldable pub no_room : ℕ → State → Bool
  no_room capacity s = leb capacity s.born

  pub data Grown : Type 0 where
    out_of_nodes : Grown
    grown : State → Grown

  -- dropped or not, room or none
  abbrev pub born_as : Bool → Bool → Node → State → Grown
  born_as true x m s = grown s
  born_as false true m s = out_of_nodes
  born_as false false m s = grown (bearing m s)

  unfoldable pub bear : ℕ → Node → G.Move → State → Grown
  bear capacity n k s = born_as (dropped (child_of n k s) s) (no_room capacity s) (child_of n k s) s

  abbrev pub then_grow : Grown → (State → Grown) → Grown
  then_grow out_of_nodes f = out_of_nodes
  then_grow (grown s) f = f s

  -- the children in order
  unfoldable pub expand : ℕ → Node → List G.Move → State → Grown
  expand capacity n [] s = grown s
  expand capacity n (k ∷ ks) s = then_grow (bear capacity n k s) (expand capacity n ks)

  -- ---- a node that is taken

  -- how a search ends: won with a line; at the limit or exhausted, in a state; without room. With its pops.
  pub data End : Type 0 where
    won : List G.Move → ℕ → End
    limit : State → End
    exhausted : State → End
    out_of_nodes_at : ℕ → End

  pub data Turn : Type 0 where
    over : End → Turn
    again : State → Turn

  abbrev pub grown_turn : ℕ → Grown → Turn
  grown_turn pops out_of_nodes = over (out_of_nodes_at pops)
  grown_turn pops (grown s) = again s

  -- skipped if the best cost for its board differs; the answer if it is won; skipped at the depth limit; else expanded
  abbrev pub visit_as : Bool → Bool → Bool → ℕ → Node → State → Turn
  visit_as true w d capacity n s = again s
  visit_as false true d capacity n s = over (won n.line s.pops)
  visit_as false false true capacity n s = again s
  visit_as false false false capacity n s = grown_turn s.pops (expand capacity n (G.candidates n.board) s)

  unfoldable pub visit : ℕ → Node → State → Turn
  visit capacity n s =
      visit_as (differs (s.known n.board) (cost n)) (G.won n.board) (leb MAX_DEPTH (cost n)) capacity n s

  -- a node is taken: the others wait on, and one pop more is counted
  unfoldable pub taken : List Node → State → State
  taken rest s = record { born = s.born; waiting = rest; known = s.known; best = s.best; pops = suc s.pops }

  -- ---- the run

  abbrev pub onward : Turn → (State → End) → End
  onward (over e) f = e
  onward (again s) f = f s

  -- nothing waits: exhausted; else the limit
  abbrev pub stopped : List Node → State → End
  stopped [] s = exhausted s
  stopped (n ∷ l) s = limit s

  -- nothing waits: exhausted; else the first is taken
  abbrev pub go_on : ℕ → List Node → State → (State → End) → End
  go_on capacity [] s f = exhausted s
  go_on capacity (n ∷ l) s f = onward (visit capacity n (taken l s)) f

  unfoldable pub run : ℕ → ℕ → State → End
  run zero capacity s = stopped s.waiting s
  run (suc budget) capacity s = go_on capacity s.waiting s (run budget capacity)

  -- ---- the answer

  -- SCOPE.md's number, the list if there is one, the pops
  pub record Answer : Type 0 where
    pub number : ℕ
    pub list : Perhaps (List G.Move)
    pub pops : ℕ

  -- a best-progress list is brought: partial is allowed, and some child was better than the start
  abbrev pub brings : Bool → State → Bool
  brings partial s = partial && not (eqb s.best.number 0)

  -- what the answer at the limit is called when it brings a list
  abbrev pub best_at_limit : State → ℕ
  best_at_limit s = best_said (G.won s.best.board)

  -- with the best line, or without
  abbrev pub progressed : Bool → ℕ → ℕ → State → Answer
  progressed true with without s = record { number = with; list = some s.best.line; pops = s.pops }
  progressed false with without s = record { number = without; list = none; pops = s.pops }

  abbrev pub answer : Bool → End → Answer
  answer partial (won l p) = record { number = 0; list = some l; pops = p }
  answer partial (limit s) = progressed (brings partial s) (best_at_limit s) at_limit s
  answer partial (exhausted s) = progressed (brings partial s) best_exhausted when_exhausted s
  answer partial (out_of_nodes_at p) = record { number = 23; list = none; pops = p }

  -- a won start is won at once
  abbrev pub solve_as : Bool → G.Board → ℕ → ℕ → Bool → Answer
  solve_as true b budget capacity partial = record { number = 0; list = some []; pops = 0 }
  solve_as false b budget capacity partial = answer partial (run budget capacity (start b))

  unfoldable pub solve : G.Board → ℕ → ℕ → Bool → Answer
  solve b budget capacity partial = solve_as (G.won b) b budget capacity partial
