-- Demand 2, sentence by sentence: "It is the Rust."
-- The theorem is that the code is the definition: `found`, `candidates`, `heuristic`, `progress`, `signature_of` and the search, `judge`.
-- That these definitions are the original's is no theorem; it is shown by comparison: compare/ holds every C function against the
-- original Rust on random boards, deals, boards that meet the depth limit and damaged input (README tells how), and the gate runs a
-- sample of the same (crates oracle_boards, oracle_moves, oracle_signatures, oracle_scores and texts; tests/oracles).
use Rattle.std.specs.Prelude.{◌≡◌, true, List, [], ℕ, ◌*◌, ◌≤◌, length, get_or, take}
use Rattle.base.specs.Answer.{given}
use Rattle.base.specs.Words.{all, listed}
use Rattle.board.specs.Table.{Table}
use Rattle.board.specs.Record.{shown}
use Rattle.board.specs.Fair.{Fair}
use Rattle.questions.specs.Questions.{won_on}
use Rattle.moves.specs.declared.Move.{Move}
use Rattle.generate.specs.Found.{found}
use Rattle.moves.specs.Written.{written}
use Rattle.generate.specs.Asked.{record_room}
use Rattle.generate.specs.declared.Way.{Way}
use Rattle.signature.specs.Fnv.{fnv}
use Rattle.signature.specs.Signed.{signature_of, column_hashes}
use Rattle.features.specs.Features.{features_of}
use Rattle.score.specs.Scores.{heuristic, progress}
use Rattle.candidates.specs.Candidates.{candidates as tried}
use Rattle.search.specs.Solve.{Answer}
use Rattle.search.specs.Claims.{brings_list}
use Rattle.search.specs.Freecell.{freecell, judge as search-of}
use Rattle.finish.specs.Said.{moves_of}
use Rattle.crossing.specs.Wire.{board_room, board_in}
use Rattle.crossing.specs.Lists.{way_asked}
use Rattle.crossing.specs.Numbers.{flag}
use Rattle.corbelnib.specs.Calls.{replay, moves, candidates, scores, signature, judge, Call, GoodBoard, capacity_in}
use Rattle.demands.specs.Demand1.{GoodSearch}
use Rattle.demands.specs.Fnv1a.{fnv1a, is_octet}

-- the table that some bytes show
abbrev pub table_in : List ℕ → Table
table_in bytes = shown (board_in bytes)

-- ---- moves in lent room: their records from its start, their number, and every other byte as it was
pub record Lists (ms : List Move) (before after : List ℕ × ℕ) (told : ℕ) : Type 0 where
  pub number : told ≡ 0
  pub room : after.0 ≡ written before.0 0 ms
  pub count : after.1 ≡ length ms

-- ---- the search

-- the definition's answer to a call
abbrev pub answer_to : Call judge → Answer freecell
answer_to c = search-of (table_in c.input.board) c.input.budget (capacity_in c.before) (flag c.input.partial)

-- a call is answered so: number, pops, the list from the start of the list buffer, and every other byte of it as it was
pub record Answers (c : Call judge) (a : Answer freecell) : Type 0 where
  pub number : c.number ≡ a.number
  pub pops : c.after.pops ≡ a.pops
  pub moves : c.after.moves ≡ length (moves_of a.list)
  pub list : c.after.list ≡ written c.before.list 0 (moves_of a.list)

-- the bytes of a list: five a move, from the start of the list buffer
abbrev pub handed : Call judge → List ℕ
handed c = take (c.after.moves * 5) c.after.list

-- a replay of the list that a search brought, from the same board, with room for the board after it
pub record Replays (c : Call judge) (r : Call replay) : Type 0 where
  pub brought : brings_list c.number ≡ true
  pub board : r.input.0 ≡ c.input.board
  pub list : r.input.1 ≡ handed c
  pub room : board_room ≤ length r.before.0

-- the bytes of the board where it ended
abbrev pub end_of : Call replay → List ℕ
end_of r = take board_room r.after.0

pub record Demand2 : Type 0 where
  -- "It is the Rust. With enough room it equals the original on every well-formed board: moves, ..": every kind, in order
  pub moves : (c : Call moves) (w : Way) → GoodBoard c.input.0 → way_asked c.input.1 ≡ given w → record_room ≤ length c.before.0
      → Lists (found (table_in c.input.0) w) c.before c.after c.number
  -- ".. order, ..": what the search tries, in the order in which it tries it
  pub order : (c : Call candidates) → GoodBoard c.input → record_room ≤ length c.before.0
      → Lists (tried (table_in c.input)) c.before c.after c.number
  -- ".. scores, ..": heuristic and progress
  pub scores : (c : Call scores) → GoodBoard c.input
      → (c.number ≡ 0) × (c.after ≡ (heuristic (features_of (table_in c.input)), progress (features_of (table_in c.input))))
  -- ".. signature, .."
  pub signature : (c : Call signature) → GoodBoard c.input → (c.number ≡ 0) × (c.after ≡ signature_of (table_in c.input))
  -- ".. list": every search that is accepted is answered as the definition says, 23 among its answers
  pub list : (c : Call judge) → GoodSearch c → Answers c (answer_to c)
  -- "Every list replays legally, ..": all its moves are played, and none is refused
  pub replays : (c : Call judge) (r : Call replay) → Replays c r → (r.number ≡ 0) × (r.after.1 ≡ c.after.moves)
  -- ".. keeps all 52 cards ..": the board after it is well formed
  pub cards : (c : Call judge) (r : Call replay) → Replays c r → GoodBoard (end_of r)
  -- ".. and, if called won, ends won"
  pub wins : (c : Call judge) (r : Call replay) → Replays c r → c.number ≡ 0 → won_on (table_in (end_of r)).foundation ≡ true
  -- "The hash is proved against the public FNV-1a description where the Rust follows it": over the codes of a column (the whole
  -- signature takes words wider than an octet, and departs from it there)
  pub hash : (octets : List ℕ) → all is_octet octets ≡ true → fnv octets ≡ fnv1a octets
  pub columns : (t : Table) → Fair t → column_hashes t.columns ≡ listed 8 (λ i. fnv1a (get_or t.columns i []))
