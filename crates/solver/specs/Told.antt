-- A call of the search that keeps its promise, and what the theorems say of one call or of two.
use Rattle.std.specs.Prelude.{◌≡◌, Bool, List, ◌⊎◌, ℕ, ◌*◌, ◌≤◌, length, take, drop}
use Rattle.board.specs.Verdict.{Verdict, fine}
use Rattle.board.specs.Record.{shown}
use Rattle.board.specs.declared.Board.{Board}
use Rattle.moves.specs.declared.Move.{Move}
use Rattle.moves.specs.Written.{bytes_of}
use Rattle.base.specs.Blank.{blank}
use Rattle.search.specs.Solve.{Node, start}
use Rattle.search.specs.Freecell.{freecell}
use Rattle.search.specs.Claims.{Borne, Clash}
use Rattle.search.specs.Played.{PlayedOut}
use Rattle.memory.specs.Memory.{Memory}
use Rattle.finish.specs.Said.{Told}
use Rattle.solver.specs.Capacity.{capacity_of}
use Rattle.solver.specs.Searched.{outcome, accepted, searched}

-- one call on a board: its settings, what was lent, what came back, what is in the lent room then; `holds` is the promise of `solve`
pub record Call (b : Board) : Type 0 where
  pub budget : ℕ
  pub partial : Bool
  pub scratch : Memory
  pub list : List ℕ
  pub result : Told
  pub scratch_after : Memory
  pub list_after : List ℕ
  pub holds : outcome result scratch_after.nodes scratch_after.heap scratch_after.keys scratch_after.costs list_after
      ≡ searched scratch.nodes scratch.heap scratch.keys scratch.costs list b budget partial

-- 0 to 5 and 23 are answers, the other numbers refusals
abbrev pub IsAnswer : ℕ → Type 0
IsAnswer n = (n ≤ 5) ⊎ (n ≡ 23)

module _ {b : Board} where
  abbrev pub number : Call b → ℕ
  number c = c.result.number

  -- how many nodes the lent parts hold, counted from their lengths
  abbrev pub capacity : Call b → ℕ
  capacity c = capacity_of (length c.scratch.nodes) (length c.scratch.heap) (length c.scratch.keys) (length c.scratch.costs)

  -- whether it is refused, and why
  abbrev pub verdict : Call b → Verdict
  verdict c = accepted b c.budget (capacity c) (length c.list)

  -- nothing is wrong with the board, the budget, the list buffer or the scratch
  abbrev pub Accepted : Call b → Type 0
  Accepted c = verdict c ≡ fine

  -- the bytes of the list: five a move, from the start of the list buffer
  abbrev pub handed : Call b → List ℕ
  handed c = take (c.result.moves * 5) c.list_after

  -- the bytes beyond
  abbrev pub beyond : Call b → List ℕ → List ℕ
  beyond c bytes = drop (c.result.moves * 5) bytes

  -- a list is handed over: its bytes stand in the list buffer, the bytes beyond stay, and it plays
  pub record HandsOver (c : Call b) : Type 0 where
    pub moves : List Move
    pub many : c.result.moves ≡ length moves
    pub bytes : handed c ≡ bytes_of moves
    pub rest : beyond c c.list_after ≡ beyond c c.list
    pub long : length c.list_after ≡ length c.list
    pub plays : PlayedOut b (number c) moves

  -- no list is handed over: the list buffer is as it was
  pub record NoList (c : Call b) : Type 0 where
    pub many : c.result.moves ≡ 0
    pub same : c.list_after ≡ c.list

  -- every lent word of the scratch is 0
  pub record Cleared (c : Call b) : Type 0 where
    pub nodes : c.scratch_after.nodes ≡ blank c.scratch.nodes
    pub heap : c.scratch_after.heap ≡ blank c.scratch.heap
    pub keys : c.scratch_after.keys ≡ blank c.scratch.keys
    pub costs : c.scratch_after.costs ≡ blank c.scratch.costs

  -- nothing was counted, and nothing lent is changed
  pub record Untouched (c : Call b) : Type 0 where
    pub pops : c.result.pops ≡ 0
    pub none : NoList c
    pub scratch : c.scratch_after ≡ c.scratch

  -- two calls hand over the same list
  pub record SameList (x y : Call b) : Type 0 where
    pub many : x.result.moves ≡ y.result.moves
    pub bytes : handed x ≡ handed y

  -- and say the same of it
  pub record SameAnswer (x y : Call b) : Type 0 where
    pub number : number x ≡ number y
    pub pops : x.result.pops ≡ y.result.pops
    pub list : SameList x y

  -- two calls ask the same with as much room
  pub record SameSettings (x y : Call b) : Type 0 where
    pub budget : x.budget ≡ y.budget
    pub flag : x.partial ≡ y.partial
    pub room : capacity x ≡ capacity y
    pub list : length x.list ≡ length y.list

  -- budget and capacity of x are no larger than those of y, and the flag is the same
  pub record NoLarger (x y : Call b) : Type 0 where
    pub budget : x.budget ≤ y.budget
    pub room : capacity x ≤ capacity y
    pub flag : x.partial ≡ y.partial

  -- the nodes that the run of a call bears
  abbrev pub BorneBy : Call b → Node freecell → Type 0
  BorneBy c = Borne freecell c.budget (capacity c) (start freecell (shown b))

  -- what y makes of the answer 5 of x
  pub data Becomes (x y : Call b) : Type 0 where
    won_then : number y ≡ 0 → Becomes x y
    still : number y ≡ 5 → SameList x y → Becomes x y
    no_room_then : number y ≡ 23 → Becomes x y
    exhausted_then : number y ≡ 2 → SameList x y → Clash freecell (BorneBy y) → Becomes x y
