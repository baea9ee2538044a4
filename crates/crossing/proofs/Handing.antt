-- A board, or the board where a line of moves ended, goes into lent room; the chain of safe moves ends as a line that none stops.
use Rattle.std.specs.Prelude.{Err, Ok, Result}
use mathlib.Core.Path.{◌≡◌, refl, ap, ◌∙◌}
use mathlib.Core.Bool.{Bool, true, false}
use mathlib.Core.List.{List}
use Prim.Native.Nat.{ℕ, ◌<◌, ◌≤◌}
use lib.Dec.{eqb}
use lib.ListN.{length}
use Rattle.base.specs.Answer.{Answer, given, refused, unless}
use Rattle.board.specs.Verdict.{Verdict, fine, after}
use Rattle.board.specs.Record.{examined}
use Rattle.board.specs.Refusal.{answered}
use Rattle.board.specs.declared.Board.{Board}
use Rattle.board.specs.declared.Refusal.{Refusal}
use Rattle.replay.specs.Line.{Ending}
use Rattle.replay.specs.declared.Replayed.{Replayed}
use Rattle.base.specs.Put.{over}
use Rattle.safe.specs.Asked as safe
use Rattle.safe.specs.declared.Chained.{Chained}
use Rattle.crossing.specs.Wire.{board_in, bytes_of}
use Rattle.crossing.specs.Crossing.{Left, left, told, crossed, asked}
use Rattle.crossing.specs.Boards.{board_left, line_left, chained}
use Rattle.crossing.specs.Inner.{ended}
use Rattle.crossing.proofs.Crossing.{no_room_lem, some_room}

-- ---- into lent room

module _ (b : Board) (room : List ℕ) where
  into : Answer Board → Left (List ℕ)
  into a = crossed a room (λ x. left 0 (over (bytes_of x) room))

  pub hands_short : length room < 432 → left 21 room ≡ board_left (given b) room
  unfolding board_left into
  hands_short h = no_room_lem into 432 (length room) b h

  pub hands_yes : 432 ≤ length room → left 0 (over (bytes_of b) room) ≡ board_left (given b) room
  unfolding board_left into
  hands_yes h = some_room into 432 (length room) b h

module _ (e : Ending) (room : List ℕ) (n : ℕ) where
  onto : Answer Ending → Left (List ℕ × ℕ)
  onto a = crossed a (room, n) (λ x. left (told x.verdict) (over (bytes_of x.board) room, x.moves))

  pub line_yes : 432 ≤ length room → left {A = List ℕ × ℕ} (told e.verdict) (over (bytes_of e.board) room, e.moves) ≡ line_left (given e) room n
  unfolding line_left onto
  line_yes h = some_room onto 432 (length room) e h

-- ---- the chain

-- the same as an ending
run_on : Answer Chained → Answer Ending
run_on (given x) = given (record { verdict = fine; moves = x.moves; board = x.board })
run_on (refused n) = refused n

runs_on : (bytes : List ℕ) → run_on (asked bytes safe.chain_asked) ≡ asked bytes (λ b. after (examined b) (given (chained b)))
unfolding run_on safe.chain_asked safe.chained chained
runs_on bytes = by (eqb (length bytes) 432) (examined (board_in bytes)) (board_in bytes)
  where
    by : (ok : Bool) (v : Verdict) (b : Board) → run_on (unless ok 12 (after v (given (safe.chained b)))) ≡ unless ok 12 (after v (given (chained b)))
    by true (given u) b = refl
    by true (refused n) b = refl
    by false v b = refl

pub chain_ended : (bytes : List ℕ) (a : Result Chained Refusal) (r : Result Replayed Refusal) → answered a ≡ asked bytes safe.chain_asked
    → ((x : Chained) → a ≡ Ok x → r ≡ Ok (record { said = Ok tt; moves = x.moves; board = x.board })) → ((why : Refusal) → a ≡ Err why → r ≡ Err why)
    → ended r ≡ asked bytes (λ b. after (examined b) (given (chained b)))
unfolding run_on
chain_ended bytes a r e ends why_not = by a refl ∙ ap run_on e ∙ runs_on bytes
  where
    by : (x : Result Chained Refusal) → a ≡ x → ended r ≡ run_on (answered a)
    by (Ok x) q = ap ended (ends x q) ∙ ap (λ y. run_on (answered y)) (let z : Ok x ≡ a = cc in z)
    by (Err why) q = ap ended (why_not why q) ∙ ap (λ y. run_on (answered y)) (let z : Err why ≡ a = cc in z)
