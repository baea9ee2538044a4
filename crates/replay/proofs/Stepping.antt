-- One move on a board: its answer, and the board after it is well formed again.
use Rattle.std.specs.Prelude.{Err, Ok, Option, Some, None, Result}
use mathlib.Core.Path.{◌≡◌, sym, ap, ◌∙◌}
use mathlib.Core.Bool.{true}
use mathlib.Core.List.{List}
use Prim.Native.Nat.{ℕ}
use native.Mathlib.Omega.{arith}
use Rattle.base.specs.Words.{occurs}
use Rattle.base.specs.Answer.{Answer, given, refused, given_or}
use Rattle.board.specs.Table.{Table, cards_on}
use Rattle.board.specs.Verdict.{fine}
use Rattle.board.specs.Record.{shown, board_of}
use Rattle.board.specs.Refusal.{number_of, answered}
use Rattle.board.specs.Inner.{Sound}
use Rattle.board.specs.declared.Board.{Board}
use Rattle.board.specs.declared.Refusal.{Refusal}
use Rattle.board.proofs.Records.{record_of_shown, shown_of_record}
use Rattle.board.specs.Fair.{Fair}
use Rattle.board.proofs.Fair.{shows_fair, fair_laid, fair_sound}
use Rattle.moves.specs.Move.{sayable}
use Rattle.moves.specs.Record.{move_asked}
use Rattle.moves.specs.Play.{after_move, allowed}
use Rattle.moves.specs.Causes.{ruling, played}
use Rattle.moves.specs.declared.Move.{Move}
use Rattle.moves.proofs.Allowing.{allowed-keeps}
use Rattle.moves.proofs.Fairness.{fair_after}
use Rattle.moves.proofs.Ruling.{played_yes, played_no}
use Rattle.play.specs.Change.{Becomes}
use Rattle.replay.specs.Step.{recorded, played_on, stepped}
use Rattle.replay.specs.Handed.{verdict_of, board_or, Moves}

-- ---- what is handed back

module _ {b : Board} {a : Answer Board} where
  pub moves_yes : {c : Board} → a ≡ given c → Moves b a (Ok tt) c
  moves_yes e = record { said = ap verdict_of (sym e); board = ap (board_or b) (sym e) }

  pub moves_no : {why : Refusal} → a ≡ refused (number_of why) → Moves b a (Err why) b
  moves_no e = record { said = ap verdict_of (sym e); board = ap (board_or b) (sym e) }

-- the answer under another name
pub moves_as : {b : Board} {a d : Answer Board} {r : Result (Unit {0}) Refusal} {c : Board} → a ≡ d → Moves b a r c → Moves b d r c
moves_as {b} e m = record { said = m.said ∙ ap verdict_of e; board = m.board ∙ ap (board_or b) e }

-- and what that says of the answer
module _ {b : Board} where
  pub said_yes : (a : Answer Board) {r : Result (Unit {0}) Refusal} {c : Board} → Moves b a r c → r ≡ Ok tt → a ≡ given c
  said_yes (given c) m e = ap (λ (d : Board). given d) (sym m.board)
  said_yes (refused n) m e =
      let q : fine ≡ refused n = ap answered (sym e) ∙ m.said in
      let z : ◌≡◌ {A = ℕ} 0 1 = cc in absurd (let w : ⊥ = omega arith in w)

  pub said_no : (a : Answer Board) {r : Result (Unit {0}) Refusal} {c : Board} {why : Refusal} → Moves b a r c → r ≡ Err why → (a ≡ refused (number_of why)) × (c ≡ b)
  said_no (given c) {why = why} m e =
      let q : refused (number_of why) ≡ fine = ap answered (sym e) ∙ m.said in
      let z : ◌≡◌ {A = ℕ} 0 1 = cc in absurd (let w : ⊥ = omega arith in w)
  said_no (refused n) {why = why} m e =
      let q : refused (number_of why) ≡ verdict_of (refused n) = ap answered (sym e) ∙ m.said in
      (let k : number_of why ≡ n = cc in ap (λ (i : ℕ). refused i) (sym k), m.board)

-- ---- a move on a board

module _ (b : Board) (m : Move) where
  pub made_yes : allowed (shown b) m ≡ true → recorded (played (shown b) m) ≡ given (board_of (after_move (shown b) m))
  made_yes e = ap recorded (played_yes (shown b) m e)

  pub made_no : {n : ℕ} → ruling (shown b) m ≡ refused n → recorded (played (shown b) m) ≡ refused n
  made_no e = ap recorded (played_no (shown b) m e)

  module _ (bytes : List ℕ) {r : Option Move} (e : given_or 30 r ≡ move_asked bytes) where
    pub step_said : r ≡ Some m → recorded (played (shown b) m) ≡ stepped b bytes
    unfolding stepped
    step_said q = ap (played_on b) (ap (given_or 30) (sym q) ∙ e)

pub step_none : (b : Board) (bytes : List ℕ) {r : Option Move} → given_or 30 r ≡ move_asked bytes → r ≡ None → stepped b bytes ≡ refused 30
unfolding stepped
step_none b bytes e q = ap (played_on b) (sym (ap (given_or 30) (sym q) ∙ e))

-- the bytes follow from what is shown
pub became : {r : Board} {t : Table} → Becomes r t → board_of t ≡ r
became {r} s = ap board_of (sym s.shows) ∙ record_of_shown r s.good

-- ---- a well-formed board, and the one after an allowed move

module _ (b : Board) (s : Sound b) (m : Move) (said : sayable m ≡ true) (ok : allowed (shown b) m ≡ true) where
  pub fair_then : Fair (after_move (shown b) m)
  fair_then = fair_after (shown b) m (shows_fair s) said ok

  pub sound_after : Sound (board_of (after_move (shown b) m))
  sound_after = fair_sound (after_move (shown b) m) fair_then

  pub shown-after : shown (board_of (after_move (shown b) m)) ≡ after_move (shown b) m
  shown-after = shown_of_record (after_move (shown b) m) (fair_laid (after_move (shown b) m) fair_then)

  -- the same cards lie on it
  pub cards-after : (x : ℕ) → occurs x (cards_on (shown (board_of (after_move (shown b) m)))) ≡ occurs x (cards_on (shown b))
  cards-after x =
      ap (λ (t : Table). occurs x (cards_on t)) shown-after
      ∙ allowed-keeps (shown b) m (shows_fair s).seats said ok x
