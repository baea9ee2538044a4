-- A line read or written: its outcome is told, and stands in the room.
use mathlib.Core.Path.{◌≡◌, sym, ap, ap₂, ◌∙◌}
use mathlib.Core.Bool.{Bool, true, false}
use mathlib.Core.List.{List}
use Prim.Native.Nat.{ℕ}
use native.Mathlib.Omega.{arith}
use lib.Dec.{eqb}
use lib.ListN.{length}
use Rattle.std.specs.Prelude.{Result, Ok, Err}
use Rattle.base.specs.Answer.{given, refused, unless}
use Rattle.board.specs.Verdict.{fine}
use Rattle.board.specs.Refusal.{number_of, answered}
use Rattle.board.specs.declared.Refusal.{Refusal}
use Rattle.board.specs.declared.Board.{Board}
use Rattle.sense.specs.Outcome.{Outcome, refuses, checked, line_told}
use Rattle.reading.specs.Asked.{read_asked, Reads}
use Rattle.writing.specs.Asked.{write_asked, Writes}
use Rattle.sense.specs.declared.LineError.{LineError}
use Rattle.crossing.specs.Wire.{board_in}
use Rattle.crossing.specs.Crossing.{left, asked}
use Rattle.crossing.specs.Papers.{line_asked, count_left, with_room, read_by, written_by}

-- what is asked about the bytes that were lent is asked about their board
module _ {A : Type 0} (lent : Result Board Refusal) (bytes : List ℕ) (e : answered lent ≡ asked bytes given) where
  pub line_yes : {b : Board} → lent ≡ Ok b → (question : Board → Outcome A) → question b ≡ line_asked bytes question
  line_yes {b} q question = by (eqb (length bytes) 432) (sym (ap answered q) ∙ e)
    where
      by : (t : Bool) → given b ≡ unless t 12 (given (board_in bytes)) → question b ≡ checked (unless t 12 fine) (question (board_in bytes))
      by true h = let z : b ≡ board_in bytes = cc in ap question z
      by false h = let z : ◌≡◌ {A = ℕ} 0 1 = cc in absurd (let w : ⊥ = omega arith in w)

  pub line_no : {why : Refusal} → lent ≡ Err why → (question : Board → Outcome A) → refuses (number_of why) ≡ line_asked bytes question
  line_no {why} q question = by (eqb (length bytes) 432) (sym (ap answered q) ∙ e)
    where
      by : (t : Bool) → refused (number_of why) ≡ unless t 12 (given (board_in bytes)) → refuses (number_of why) ≡ checked (unless t 12 fine) (question (board_in bytes))
      by true h = let z : ◌≡◌ {A = ℕ} 0 1 = cc in absurd (let w : ⊥ = omega arith in w)
      by false h = let z : number_of why ≡ 12 = cc in ap refuses z

module _ {b : Board} {a : Result ℕ LineError} (n : ℕ) {r m : ℕ} (t : left r m ≡ count_left (line_told a) n) where
  pub reads_left : {text old new : List ℕ} → Reads b text old new a → left r (new, m) ≡ read_by (read_asked b text (length old)) old n
  reads_left {text} {old} {new} k =
      ap₂ with_room k.room (t ∙ ap (λ (o : Outcome ℕ). count_left o n) k.told)

  pub writes_left : {bytes old new : List ℕ} → Writes b bytes old new a → left r (new, m) ≡ written_by (write_asked b bytes (length old)) old n
  writes_left {bytes} {old} {new} k =
      ap₂ with_room k.room (t ∙ ap (λ (o : Outcome ℕ). count_left o n) k.told)
