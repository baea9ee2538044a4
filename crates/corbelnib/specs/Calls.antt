-- A call through the C boundary: what went in, the number that came back, and every lent place before and after.
use Rattle.std.specs.Prelude.{◌≡◌, true, List, ℕ, ℤ, length}
use Rattle.board.specs.Record.{shown, shapely, examined}
use Rattle.board.specs.Fair.{Fair}
use Rattle.solver.specs.Capacity.{capacity_of}
use Rattle.solver.specs.Searched.{Outcome}
use Rattle.crossing.specs.Wire.{board_room, board_in}
use Rattle.crossing.specs.Crossing.{Left, left, told, asked}
use Rattle.crossing.specs.Boards.{read_left, deal_left, number_left, move_left, replay_left, chain_left}
use Rattle.crossing.specs.Lists.{moves_left, candidates_left, token_left}
use Rattle.crossing.specs.Papers.{line_read_left, line_written_left}
use Rattle.crossing.specs.Questions.{top_left, cell_left, home_left, most_left, won_left, safe_left}
use Rattle.crossing.specs.Values.{priority_left, scores_left, signature_left, features_left}
use Rattle.corbelnib.specs.Judged.{judge_left}
use Rattle.crossing.specs.Numbers.{flag}
use Rattle.corbelnib.specs.Season.{season_left, add_left}
use Rattle.sheets.specs.Over.{Settings}
use Rattle.season.specs.Season.{Lent as SeasonLent, settings_in}

-- the functions that C can call: corbelnib_examine, corbelnib_read, ..
pub data Entry : Type 0 where
  examine : Entry
  read : Entry
  deal : Entry
  number : Entry
  move : Entry
  replay : Entry
  chain : Entry
  moves : Entry
  candidates : Entry
  token : Entry
  priority : Entry
  scores : Entry
  signature : Entry
  features : Entry
  capacity : Entry
  judge : Entry
  read_line : Entry
  write_line : Entry
  season : Entry
  add : Entry
  top : Entry
  cell : Entry
  home : Entry
  most : Entry
  won : Entry
  safe : Entry
  version : Entry

-- ---- what goes in, and what is lent

-- the search is asked about a board, with a budget, and whether a best-progress list is allowed (0 is no)
pub record Question : Type 0 where
  pub board : List ℕ
  pub budget : ℕ
  pub partial : ℕ

-- a season is asked for the hands of a run of numbers, with a budget and the same flag
pub record Run : Type 0 where
  pub first : ℕ
  pub last : ℕ
  pub budget : ℕ
  pub partial : ℕ

-- what is lent to the search: four parts of scratch, the list buffer, and the places where pops and moves are told
pub record Lent : Type 0 where
  pub nodes : List ℕ
  pub heap : List ℕ
  pub keys : List ℕ
  pub costs : List ℕ
  pub list : List ℕ
  pub pops : ℕ
  pub moves : ℕ

-- from what C hands over, in its order
abbrev pub asks : List ℕ → ℕ → ℕ → Question
asks board budget partial = record { board = board; budget = budget; partial = partial }

abbrev pub runs : ℕ → ℕ → ℕ → ℕ → Run
runs first last budget partial = record { first = first; last = last; budget = budget; partial = partial }

abbrev pub lends : List ℕ → List ℕ → List ℕ → List ℕ → List ℕ → ℕ → ℕ → Lent
lends nodes heap keys costs list popped listed =
    record { nodes = nodes; heap = heap; keys = keys; costs = costs; list = list; pops = popped; moves = listed }

-- a board, an image or a deck; a number; a board and a record, a list or a text; a board and a kind or a place; four lengths; a question; a run; a sheet
abbrev pub In : Entry → Type 0
In examine = List ℕ
In read = List ℕ
In deal = List ℕ
In number = ℕ
In move = List ℕ × List ℕ
In replay = List ℕ × List ℕ
In chain = List ℕ
In moves = List ℕ × ℕ
In candidates = List ℕ
In token = List ℕ
In priority = List ℕ × List ℕ
In scores = List ℕ
In signature = List ℕ
In features = List ℕ
In capacity = ℕ × (ℕ × (ℕ × ℕ))
In judge = Question
In read_line = List ℕ × List ℕ
In write_line = List ℕ × List ℕ
In season = Run
In add = List ℕ
In top = List ℕ × ℕ
In cell = List ℕ × ℕ
In home = List ℕ × ℕ
In most = List ℕ × ℕ
In won = List ℕ
In safe = List ℕ
In version = Unit {0}

-- nothing; room; room and the place of a count; places of scores, of a signature, of a number; the search's; the season's; the sheet that is added to
abbrev pub Places : Entry → Type 0
Places examine = Unit {0}
Places read = List ℕ
Places deal = List ℕ
Places number = List ℕ
Places move = List ℕ
Places replay = List ℕ × ℕ
Places chain = List ℕ × ℕ
Places moves = List ℕ × ℕ
Places candidates = List ℕ × ℕ
Places token = List ℕ × ℕ
Places priority = ℤ
Places scores = ℤ × ℤ
Places signature = ℕ
Places features = List ℕ
Places capacity = Unit {0}
Places judge = Lent
Places read_line = List ℕ × ℕ
Places write_line = List ℕ × ℕ
Places season = SeasonLent
Places add = List ℕ
Places top = ℕ
Places cell = ℕ
Places home = ℕ
Places most = ℕ
Places won = ℕ
Places safe = List ℕ × ℕ
Places version = Unit {0}

-- ---- what each function promises: its number and every lent place, from what went in and what lay there. The contracts of
-- crates/corbelnib/src/lib.rt cite this (tools/boundary.sh sees that each cites its own, with its parameters in their order)

-- 0.6.1: ten thousand for each major version, a hundred for each minor one (tools/boundary.sh holds the header's to it)
abbrev pub version_number : ℕ
version_number = 601

abbrev pub search_left : Outcome → Left Lent
search_left o = left o.number (lends o.nodes o.heap o.keys o.costs o.list o.pops o.moves)

abbrev pub promise : (e : Entry) → In e → Places e → Left (Places e)
promise examine board u = left (told (asked board examined)) u
promise read image room = read_left image room
promise deal deck room = deal_left deck room
promise number n room = number_left n room
promise move i room = move_left i.0 i.1 room
promise replay i l = replay_left i.0 i.1 l.0 l.1
promise chain board l = chain_left board l.0 l.1
promise moves i l = moves_left i.0 i.1 l.0 l.1
promise candidates board l = candidates_left board l.0 l.1
promise token board l = token_left board l.0 l.1
promise priority i p = priority_left i.0 i.1 p
promise scores board l = scores_left board l.0 l.1
promise signature board s = signature_left board s
promise features board room = features_left board room
promise capacity i u = left (capacity_of i.0 i.1.0 i.1.1.0 i.1.1.1) u
promise judge q l =
    search_left (judge_left l.nodes l.heap l.keys l.costs l.list l.pops l.moves q.board q.budget q.partial)
promise read_line i l = line_read_left i.0 i.1 l.0 l.1
promise write_line i l = line_written_left i.0 i.1 l.0 l.1
promise season r l = season_left r.first r.last r.budget r.partial l
promise add other into = add_left into other
promise top i n = top_left i.0 i.1 n
promise cell i n = cell_left i.0 i.1 n
promise home i n = home_left i.0 i.1 n
promise most i n = most_left i.0 i.1 n
promise won board n = won_left board n
promise safe board l = safe_left board l.0 l.1
promise version i u = left version_number u

-- one call, with its promise
pub record Call (e : Entry) : Type 0 where
  pub input : In e
  pub before : Places e
  pub number : ℕ
  pub after : Places e
  pub keeps : left number after ≡ promise e input before

-- ---- words for both sides of a call

-- bytes that are a well-formed board: 432 of them, of good shape, showing a fair table
pub record GoodBoard (bytes : List ℕ) : Type 0 where
  pub long : length bytes ≡ board_room
  pub shape : shapely (board_in bytes) ≡ true
  pub fair : Fair (shown (board_in bytes))

-- how many nodes the lent scratch holds
abbrev pub capacity_in : Lent → ℕ
capacity_in l = capacity_of (length l.nodes) (length l.heap) (length l.keys) (length l.costs)

-- the settings of a season: its budget, how many nodes the lent scratch holds, its flag
abbrev pub settings_by : Run → SeasonLent → Settings
settings_by r l = settings_in l r.budget (flag r.partial)
