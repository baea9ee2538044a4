-- Demand 1, sentence by sentence: "Nothing traps, nothing runs on."
-- That every call comes back, without a trap, and keeps its promise, is what is proved of the code: no function of
-- crates/corbelnib/src/lib.rt asks anything of its caller (`requires`), and each is proved to end. What the promises say is here.
use Rattle.std.specs.Prelude.{◌≡◌, Bool, true, false, ◌||◌, List, [], ◌∷◌, ℕ, ◌≤◌, eqb, length, get_or}
use Rattle.base.specs.Answer.{given, refused}
use Rattle.board.specs.Verdict.{Verdict, fine}
use Rattle.intake.specs.Number.{is_number}
use Rattle.base.specs.Blank.{blank}
use Rattle.crossing.specs.Numbers.{is_answer}
use Rattle.corbelnib.specs.Calls.{Entry, examine, read, deal, number, move, replay, chain, moves, candidates, token, priority, scores, signature, features, capacity, judge, read_line, write_line, season, add, top, cell, home, most, won, safe, version}
use Rattle.corbelnib.specs.Calls.{In, Places, Call, GoodBoard, capacity_in, settings_by}
use Rattle.moves.specs.Written.{list_room}
use Rattle.solver.specs.Searched.{most_pops}
use Rattle.sheets.specs.Figures.{sheet_room}
use Rattle.demands.specs.Orders.{first_failing, boards, order}

-- ---- SCOPE.md's numbers

abbrev pub is_in : ℕ → List ℕ → Bool
is_in n [] = false
is_in n (m ∷ l) = eqb n m || is_in n l

-- of a move that is refused, in the order in which they are looked for
abbrev pub of_moves : List ℕ
of_moves = 30 ∷ 33 ∷ 35 ∷ 34 ∷ 36 ∷ 37 ∷ 38 ∷ 39 ∷ 40 ∷ []

-- the numbers with which a function hands something back. A replay that meets a bad move (30, 33 to 40) tells its place
-- and the board before it; a search without node room (23) tells its pops; a line on paper tells the place of a wrong character (42), of a
-- move that has no notation (43) or of a bad move, and leaves the rest of what was lent (LinesOnPaper.antt).
abbrev pub hands : Entry → ℕ → Bool
hands examine n = eqb n 0
hands read n = eqb n 0
hands deal n = eqb n 0
hands number n = eqb n 0
hands move n = eqb n 0
hands replay n = eqb n 0 || is_in n of_moves
hands chain n = eqb n 0
hands moves n = eqb n 0
hands candidates n = eqb n 0
hands token n = eqb n 0
hands priority n = eqb n 0
hands scores n = eqb n 0
hands signature n = eqb n 0
hands features n = eqb n 0
hands capacity n = true
hands judge n = is_answer n
hands read_line n = eqb n 0 || is_in n (42 ∷ of_moves)
hands write_line n = eqb n 0 || is_in n (43 ∷ of_moves)
hands season n = eqb n 0
hands add n = eqb n 0
hands top n = eqb n 0
hands cell n = eqb n 0
hands home n = eqb n 0
hands most n = eqb n 0
hands won n = eqb n 0
hands safe n = eqb n 0
hands version n = true

-- what a function tells after its tests: the number of the first that fails; where none fails, something is handed back
abbrev pub Tells : Entry → Verdict → ℕ → Type 0
Tells e (refused n) told = told ≡ n
Tells e (given u) told = hands e told ≡ true

-- ---- a search and a season of which no test fails, for what the other demands ask

-- a search: a well-formed board, a budget of at most 1,000,000, a list buffer of 1,000 bytes, room for the root
pub record GoodSearch (c : Call judge) : Type 0 where
  pub board : GoodBoard c.input.board
  pub budget : c.input.budget ≤ most_pops
  pub list : list_room ≤ length c.before.list
  pub root : 1 ≤ capacity_in c.before

-- a season: both ends are numbers of hands, a budget of at most 1,000,000, room for a sheet, room for the root
pub record GoodRun (c : Call season) : Type 0 where
  pub begins : is_number c.input.first ≡ true
  pub ends : is_number c.input.last ≡ true
  pub budget : c.input.budget ≤ most_pops
  pub sheet : sheet_room ≤ length c.before.sheet
  pub root : 1 ≤ (settings_by c.input c.before).capacity

-- ---- how a call ends

-- two calls end alike: the same number, the same in every lent place
pub record SameEnd {e : Entry} (x y : Call e) : Type 0 where
  pub number : x.number ≡ y.number
  pub after : x.after ≡ y.after

-- every lent word of the scratch is 0
pub record Cleared (c : Call judge) : Type 0 where
  pub nodes : c.after.nodes ≡ blank c.before.nodes
  pub heap : c.after.heap ≡ blank c.before.heap
  pub keys : c.after.keys ≡ blank c.before.keys
  pub costs : c.after.costs ≡ blank c.before.costs

-- the same after a season
pub record ClearedAll (c : Call season) : Type 0 where
  pub nodes : c.after.nodes ≡ blank c.before.nodes
  pub heap : c.after.heap ≡ blank c.before.heap
  pub keys : c.after.keys ≡ blank c.before.keys
  pub costs : c.after.costs ≡ blank c.before.costs

-- all of the functions that C can call (tools/boundary.sh holds this list against the code and the header)
unfoldable pub boundary : List Entry
boundary =
    examine ∷ read ∷ deal ∷ number ∷ move ∷ replay ∷ chain ∷ moves ∷ candidates ∷ token ∷ priority ∷ scores ∷ signature ∷ features ∷ capacity ∷ judge ∷ read_line ∷ write_line ∷ season ∷ add ∷ top ∷ cell ∷ home ∷ most ∷ won ∷ safe ∷ version ∷ []

-- which of the twenty-seven a function is
abbrev pub place_of : Entry → ℕ
place_of examine = 0
place_of read = 1
place_of deal = 2
place_of number = 3
place_of move = 4
place_of replay = 5
place_of chain = 6
place_of moves = 7
place_of candidates = 8
place_of token = 9
place_of priority = 10
place_of scores = 11
place_of signature = 12
place_of features = 13
place_of capacity = 14
place_of judge = 15
place_of read_line = 16
place_of write_line = 17
place_of season = 18
place_of add = 19
place_of top = 20
place_of cell = 21
place_of home = 22
place_of most = 23
place_of won = 24
place_of safe = 25
place_of version = 26

pub record Demand1 : Type 0 where
  -- "Nothing traps, nothing runs on. No board image, deck, move, list, budget or lent memory makes it trap": whatever goes in and
  -- whatever lies in the lent places, there is an end, and one alone
  pub some_end : {e : Entry} (i : In e) (b : Places e) → (c : Call e) × ((c.input ≡ i) × (c.before ≡ b))
  pub one_end : {e : Entry} (x y : Call e) → x.input ≡ y.input → x.before ≡ y.before → SameEnd x y
  -- "Every entry point ..": these twenty-seven
  pub many : length boundary ≡ 27
  pub all : (e : Entry) → get_or boundary (place_of e) judge ≡ e
  -- ".. examines what it gets": where something is handed back, no test of the function's row failed
  pub examines : {e : Entry} (c : Call e) → hands e c.number ≡ true → first_failing (order e c.input c.before) ≡ fine
  -- a board of which no test fails is a well-formed one, with each of the 52 cards once; and of a well-formed one none fails
  pub well_formed : (bytes : List ℕ) → first_failing (boards bytes) ≡ fine → GoodBoard bytes
  pub accepts : {bytes : List ℕ} → GoodBoard bytes → first_failing (boards bytes) ≡ fine
  -- "a refusal returns its number from document 01": that of the first test that fails; and with none failing something is handed back
  pub numbered : {e : Entry} (c : Call e) → Tells e (first_failing (order e c.input c.before)) c.number
  -- "and changes nothing lent"
  pub keeps : {e : Entry} (c : Call e) → hands e c.number ≡ false → c.after ≡ c.before
  -- "(running out of node room clears the scratch)", and so do the answers and a season; out of room, the list buffer stays
  pub clears : (c : Call judge) → is_answer c.number ≡ true → Cleared c
  pub clears_all : (c : Call season) → c.number ≡ 0 → ClearedAll c
  pub no_room : (c : Call judge) → c.number ≡ 23 → c.after.list ≡ c.before.list
