-- What the functions that answer an ended search ask and promise.
use Rattle.std.specs.Prelude.{◌≡◌, Bool, true, false, not, ◌&&◌, List, [], ℕ, ◌<◌, eqb, length}
use Rattle.board.specs.Table.{Table}
use Rattle.questions.specs.Questions.{won_on}
use Rattle.moves.specs.declared.Move.{Move}
use Rattle.moves.specs.Written.{written}
use Rattle.nodes.specs.Line.{line_to, table_to}
use Rattle.nodes.specs.Nodes.{Nodes}
use Rattle.search.specs.Freecell.{freecell}
use Rattle.search.specs.Solve.{some, none, Answer}
use Rattle.memory.specs.declared.Ended.{Ended}
use Rattle.memory.specs.declared.Ended.TheVariants as ended
use Rattle.finish.specs.Said.{said_number, moves_of}
use Rattle.finish.specs.declared.Said.{Said}
use Rattle.finish.specs.declared.Said.TheVariants.{Won, BestAtLimit, BestExhausted, Limit, Exhausted, BestIsWon, OutOfNodes}
use Rattle.finish.specs.declared.Judged.{Judged}

-- the nodes that an answer may need
abbrev pub Closed : Table → List ℕ → Ended → Type 0
Closed t nodes (ended.Won i d) = (i < d.born) × Nodes t nodes d.born
Closed t nodes (ended.Limit d) = (d.best < d.born) × Nodes t nodes d.born
Closed t nodes (ended.Exhausted d) = (d.best < d.born) × Nodes t nodes d.born
Closed t nodes (ended.OutOfNodes p) = Unit {0}

-- an answer is given: its number, its pops, its list in the list buffer
pub record Gives (a : Answer freecell) (old new : List ℕ) (r : Judged) : Type 0 where
  pub number : said_number r.said ≡ a.number
  pub pops : r.pops ≡ a.pops
  pub moves : r.moves ≡ length (moves_of a.list)
  pub list : new ≡ written old 0 (moves_of a.list)

-- with a line, or without
abbrev pub line_or : Bool → Said → Said → List Move → ℕ → Answer freecell
line_or true with without l pops = record { number = said_number with; list = some l; pops = pops }
line_or false with without l pops = record { number = said_number without; list = none; pops = pops }

-- what a line is called at the limit, by whether its last board is won
abbrev pub limit_said : Bool → Said
limit_said true = BestIsWon
limit_said false = BestAtLimit

-- what the answer to an ended search is, by the nodes alone
abbrev pub answer_by : Table → List ℕ → Bool → Ended → Answer freecell
answer_by t nodes partial (ended.Won i d) = line_or true Won Won (line_to t nodes i) d.pops
answer_by t nodes partial (ended.Limit d) =
    line_or (partial && not (eqb d.best 0)) (limit_said (won_on (table_to t nodes d.best).foundation)) Limit (line_to t nodes d.best) d.pops
answer_by t nodes partial (ended.Exhausted d) = line_or (partial && not (eqb d.best 0)) BestExhausted Exhausted (line_to t nodes d.best) d.pops
answer_by t nodes partial (ended.OutOfNodes p) = line_or false OutOfNodes OutOfNodes [] p
