-- What a call for a line on paper ends in: its number, and what it read or wrote.
use mathlib.Core.Path.{◌≡◌, refl, sym, ap, ◌∙◌, subst}
use mathlib.Core.Bool.{Bool}
use mathlib.Core.List.{List, ◌∷◌}
use Prim.Native.Nat.{ℕ, ◌*◌, ◌≤◌}
use borrow.Author.Tests.{eq-eqb, eqb-true}
use lib.Dec.{eqb}
use lib.ListN.{length, take}
use lib.Seq.{take_at}
use Rattle.base.specs.Answer.{unless}
use Rattle.base.proofs.Answers.{given_by}
use Rattle.board.specs.Verdict.{fine}
use Rattle.board.specs.Record.{shown}
use Rattle.board.specs.declared.Board.{Board}
use Rattle.moves.specs.Written.{bytes_of, written}
use Rattle.moves.specs.declared.Move.{Move}
use Rattle.moves.proofs.Writing.{bytes_long}
use Rattle.sense.specs.Outcome.{Outcome, gives, refuses, refuses_at, checked}
use Rattle.writing.specs.Asked.{text_room, moves_in, write_asked, text_after}
use Rattle.reading.specs.Asked.{list_after}
use Rattle.sense.specs.Outcome.{counted}
use Rattle.writing.proofs.Lengths.{text_long}
use Rattle.paper.proofs.Asking.{checked_gives, wrote}
use Rattle.crossing.specs.Wire.{board_room, board_in}
use Rattle.crossing.specs.Crossing.{Left, left}
use Rattle.crossing.specs.Papers.{line_asked, count_left, read_by, written_by, line_read_left, line_written_left}
use Rattle.corbelnib.specs.Calls.{read_line, write_line, Call}
use Rattle.demands.specs.Demand1.{of_moves}
use Rattle.demands.specs.LinesOnPaper.{text_written, records_read, Octets}
use Rattle.crossing.proofs.Returning.{sized_in}
use Rattle.demands.proofs.Replaying.{over_first}
use Rattle.demands.proofs.Papers.{read_refusals, write_refusals, read_outcome, write_outcome, read_stops, write_stops, Gave, zero_gave, not_zero-keeps}

-- ---- a board of 432 bytes is asked further

module _ {A : Type 0} (bytes : List ℕ) (question : Board → Outcome A) where
  pub asked_on : length bytes ≡ 432 → line_asked bytes question ≡ question (board_in bytes)
  asked_on e = ap (λ (ok : Bool). checked (unless ok 12 fine) (question (board_in bytes))) (eq-eqb (length bytes) 432 e)

  pub asked_gave : {x : A} → line_asked bytes question ≡ gives x → (length bytes ≡ 432) × (question (board_in bytes) ≡ gives x)
  asked_gave e =
      let c = checked_gives (unless (eqb (length bytes) board_room) 12 fine) (question (board_in bytes)) e in
      (eqb-true (length bytes) 432 (given_by (eqb (length bytes) board_room) 12 fine c.0).0, c.1)

-- ---- records at the start of a list

written-first : (old : List ℕ) (ms : List Move) → take (length ms * 5) (written old 0 ms) ≡ bytes_of ms
unfolding written
written-first old ms = take_at (bytes_of ms) _ (length ms * 5) (bytes_long ms)

-- ---- a text that was read

module _ (r : Call read_line) where
  abbrev pub read : Outcome (List Move)
  read = read_outcome r.input.0 r.input.1 (length r.before.0)

  pub read_end : left r.number r.after ≡ read_by read r.before.0 r.before.1
  unfolding line_read_left
  read_end = r.keeps

  pub read_number : r.number ≡ (count_left (counted read) r.before.1).number
  read_number = ap (λ (l : Left (List ℕ × ℕ)). l.number) read_end

  pub read_gave : r.number ≡ 0 → Gave read
  read_gave e = zero_gave read_refusals (42 ∷ of_moves) refl refl read r.before.1 (read_stops r.input.0 r.input.1 r.before.0) (sym read_number ∙ e)

  module _ {ms : List Move} (e : read ≡ gives ms) where
    pub read_so : left r.number r.after ≡ read_by (gives ms) r.before.0 r.before.1
    read_so = read_end ∙ ap (λ (o : Outcome (List Move)). read_by o r.before.0 r.before.1) e

    pub read_done : r.number ≡ 0
    read_done = ap (λ (l : Left (List ℕ × ℕ)). l.number) read_so

    pub records_are : records_read r ≡ bytes_of ms
    records_are = ap (λ (l : Left (List ℕ × ℕ)). take (l.places.1 * 5) l.places.0) read_so ∙ written-first r.before.0 ms

  -- it is refused: with a number alone, or with a place too
  pub read_refused : {n : ℕ} → read ≡ refuses n → r.number ≡ n
  read_refused e = read_number ∙ ap (λ (o : Outcome (List Move)). (count_left (counted o) r.before.1).number) e

  pub read_refused_at : {n p : ℕ} → read ≡ refuses_at n p → (r.number ≡ n) × (r.after.1 ≡ p)
  read_refused_at e =
      let q = read_end ∙ ap (λ (o : Outcome (List Move)). read_by o r.before.0 r.before.1) e in
      (ap (λ (l : Left (List ℕ × ℕ)). l.number) q, ap (λ (l : Left (List ℕ × ℕ)). l.places.1) q)

  pub list_kept : (r.number ≡ 0 → ⊥) → r.after.0 ≡ r.before.0
  list_kept d =
      ap (λ (l : Left (List ℕ × ℕ)). l.places.0) read_end
      ∙ not_zero-keeps (λ o. list_after o r.before.0) (λ n. refl) (λ n p. refl) read r.before.1 (λ e. d (read_number ∙ e))

-- ---- a list that was written

module _ (w : Call write_line) where
  abbrev pub wrote_it : Outcome (List ℕ)
  wrote_it = write_outcome w.input.0 w.input.1 (length w.before.0)

  pub write_end : left w.number w.after ≡ written_by wrote_it w.before.0 w.before.1
  unfolding line_written_left
  write_end = w.keeps

  pub write_number : w.number ≡ (count_left (counted wrote_it) w.before.1).number
  write_number = ap (λ (l : Left (List ℕ × ℕ)). l.number) write_end

  pub write_gave : w.number ≡ 0 → Gave wrote_it
  write_gave e = zero_gave write_refusals (43 ∷ of_moves) refl refl wrote_it w.before.1 (write_stops w.input.0 w.input.1 w.before.0) (sym write_number ∙ e)

  module _ {text : List ℕ} (e : wrote_it ≡ gives text) where
    pub write_so : left w.number w.after ≡ written_by (gives text) w.before.0 w.before.1
    write_so = write_end ∙ ap (λ (o : Outcome (List ℕ)). written_by o w.before.0 w.before.1) e

    pub write_done : w.number ≡ 0
    write_done = ap (λ (l : Left (List ℕ × ℕ)). l.number) write_so

    pub text_is : text_written w ≡ text
    text_is = ap (λ (l : Left (List ℕ × ℕ)). take l.places.1 l.places.0) write_so ∙ over_first text w.before.0 (length text) refl

  pub write_refused : {n : ℕ} → wrote_it ≡ refuses n → w.number ≡ n
  write_refused e = write_number ∙ ap (λ (o : Outcome (List ℕ)). (count_left (counted o) w.before.1).number) e

  pub write_refused_at : {n p : ℕ} → wrote_it ≡ refuses_at n p → (w.number ≡ n) × (w.after.1 ≡ p)
  write_refused_at e =
      let q = write_end ∙ ap (λ (o : Outcome (List ℕ)). written_by o w.before.0 w.before.1) e in
      (ap (λ (l : Left (List ℕ × ℕ)). l.number) q, ap (λ (l : Left (List ℕ × ℕ)). l.places.1) q)

  pub text-kept : (w.number ≡ 0 → ⊥) → w.after.0 ≡ w.before.0
  text-kept d =
      ap (λ (l : Left (List ℕ × ℕ)). l.places.0) write_end
      ∙ not_zero-keeps (λ o. text_after o w.before.0) (λ n. refl) (λ n p. refl) wrote_it w.before.1 (λ e. d (write_number ∙ e))

  -- the question that was answered
  module _ (done : w.number ≡ 0) where
    abbrev pub answer : (length w.input.0 ≡ 432) × (write_asked (board_in w.input.0) w.input.1 (length w.before.0) ≡ gives (write_gave done).value)
    answer = asked_gave w.input.0 (λ b. write_asked b w.input.1 (length w.before.0)) (write_gave done).is

    pub written-text : text_written w ≡ (write_gave done).value
    written-text = text_is (write_gave done).is

    pub text_short : Octets w.input.1 → length (text_written w) ≤ text_room
    text_short f =
        let b = board_in w.input.0 in
        let k = wrote b w.input.1 (length w.before.0) (sized_in w.input.0 answer.0) f answer.1 in
        subst (λ (t : List ℕ). length t ≤ text_room) (k.same ∙ sym written-text) (text_long (shown b) (moves_in w.input.1) k.few)
