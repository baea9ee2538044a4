-- FreeCell as a game for the search: the rules by their names, and nothing of their text.
use Rattle.std.specs.Prelude.{Bool, ℕ, eqb}
use Rattle.board.specs.Table.{Table}
use Rattle.questions.specs.Questions.{won_on}
use Rattle.moves.specs.declared.Move.{Move}
use Rattle.signature.specs.Signed.{signature_of}
use Rattle.features.specs.Features.{features_of}
use Rattle.score.specs.Scores.{heuristic_key, progress_key}
use Rattle.candidates.specs.Candidates.{candidates}
use Rattle.candidates.specs.Children.{child_moves, child_table}
use Rattle.search.specs.Game.{Game}
use Rattle.search.specs.Solve.{Answer, solve}

-- Two boards count as the same if their signatures are equal. The scores are raised to natural numbers: on well-formed boards nodes
-- are ordered by them as by SCOPE.md's signed scores (Signed.antt; `before_signed_lem`, `better-signed` of proofs/Signed.antt).
abbrev pub freecell : Game
freecell =
    record {
      Board = Table;
      Move = Move;
      same = λ t u. eqb (signature_of t) (signature_of u);
      won = λ t. won_on t.foundation;
      heuristic = λ t. heuristic_key (features_of t);
      progress = λ t. progress_key (features_of t);
      candidates = candidates;
      child_moves = child_moves;
      child_board = child_table;
    }

-- the search of a table: budget, capacity, whether partial is allowed
unfoldable pub judge : Table → ℕ → ℕ → Bool → Answer freecell
judge t budget capacity partial = solve freecell t budget capacity partial
