-- The child of a born node: its table and its cost, and that its move fits a node's step and its heuristic a key.
use mathlib.Core.Path.{◌≡◌, ap, ◌∙◌, subst}
use Prim.Native.Nat.{ℕ, ◌+◌, ◌<◌}
use native.Mathlib.Omega.{arith}
use lib.ListN.{length}
use Rattle.board.specs.Table.{Table}
use Rattle.board.specs.Record.{shown, board_of}
use Rattle.board.specs.declared.Board.{Board}
use Rattle.board.proofs.Records.{shown_of_record}
use Rattle.board.specs.Fair.{Fair}
use Rattle.board.proofs.Fair.{shows_fair, fair_laid, fair_sound}
use Rattle.moves.specs.Move.{count}
use Rattle.moves.specs.declared.Move.{Move}
use Rattle.play.specs.Change.{Ready}
use Rattle.features.specs.Features.{Bounded, features_of}
use Rattle.score.specs.Scores.{heuristic_key}
use Rattle.features.proofs.Bounds.{bounded}
use Rattle.score.proofs.Keys.{heuristic_adds_most}
use Rattle.candidates.specs.Children.{child_moves, child_table}
use Rattle.candidates.specs.Inner.{Playable, Bears}
use Rattle.candidates.proofs.Bearing as bearing
use Rattle.nodes.specs.Step.{cost_at}
use Rattle.nodes.specs.Line.{line_to, table_to}
use Rattle.nodes.proofs.Reaching.{node_fair, few_cards}
use Rattle.memory.specs.declared.Room.{Room}
use Rattle.memory.specs.declared.Counts.{Counts}
use Rattle.memory.specs.Memory.{Memory}
use Rattle.memory.specs.Machine.{Machine}

-- a heuristic has room in a key
pub hope_small : (t : Table) → Fair t → heuristic_key (features_of t) < 32768
unfolding heuristic_key
hope_small t f =
    let b = subst (λ (u : Table). Bounded (features_of u)) (shown_of_record t (fair_laid t f)) (bounded (board_of t) (fair_sound t f)) in
    let h = heuristic_adds_most (features_of t) b in
    omega arith

-- the child of a born node by a move that can be played there: its table and its cost
pub record Child (t : Table) (m : Memory) (c : Counts) (parent : ℕ) (move : Move) (cost : ℕ) (child : Table) : Type 0 where
  pub older : parent < c.born
  pub playable : Playable (table_to t m.nodes parent) move
  pub table : child ≡ child_table (table_to t m.nodes parent) move
  pub adds : cost ≡ length (line_to t m.nodes parent) + length (child_moves (table_to t m.nodes parent) move)

module _ {t : Table} {r : Room} {m : Memory} {c : Counts} (k : Machine t r m c) {parent : ℕ} (older : parent < c.born) where
  -- as the code makes it, from a board that shows the parent's table
  pub child_by : {b board : Board} {move : Move} {moves cost : ℕ} → Ready b move → shown b ≡ table_to t m.nodes parent → Bears b move moves board
      → cost ≡ cost_at m.nodes parent + moves → Child t m c parent move cost (shown board)
  child_by {b} {board} {move} ready shows bears e =
      let p : Playable (shown b) move = record { said = ready.said; allows = ready.allows } in
      let fair = bearing.child_fair (shown b) (shows_fair ready.sound) move p in
      record {
        older = older;
        playable = subst (λ (u : Table). Playable u move) shows p;
        table =
            ap shown bears.becomes ∙ shown_of_record (child_table (shown b) move) (fair_laid (child_table (shown b) move) fair)
            ∙ ap (λ (u : Table). child_table u move) shows;
        adds =
            let q = bears.many in
            let s = ap (λ (u : Table). length (child_moves u move)) shows in
            let l = k.nodes.cost parent older in
            omega arith;
      }

module _ {t : Table} (f : Fair t) {r : Room} {m : Memory} {c : Counts} (k : Machine t r m c) {parent cost : ℕ} {move : Move} {child : Table}
    (h : Child t m c parent move cost child) where
  pub child_few : count move < 16
  child_few = few_cards (node_fair k.nodes parent h.older f) h.playable
