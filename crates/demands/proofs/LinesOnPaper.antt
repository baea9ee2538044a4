-- Request (iv) holds.
use mathlib.Core.Path.{◌≡◌, refl, sym, ap, ap₂, ◌∙◌, subst}
use mathlib.Core.List.{List, ◌++◌}
use Prim.Native.Nat.{ℕ, ◌≤◌}
use native.Mathlib.Omega.{arith}
use lib.Dec.{eqb, leb}
use lib.ListN.{length, take}
use Rattle.base.specs.Answer.{unless}
use Rattle.board.specs.Verdict.{Verdict, fine, after}
use Rattle.board.specs.Record.{examined, shown}
use Rattle.board.specs.declared.Board.{Board}
use Rattle.moves.specs.Written.{list_room, bytes_of}
use Rattle.moves.specs.declared.Move.{Move}
use Rattle.notation.specs.Form.{line_in, jots, wrong}
use Rattle.reading.specs.Lines.{line_read}
use Rattle.sense.specs.Outcome.{Outcome, gives}
use Rattle.reading.specs.Lines.{read_by as by-text}
use Rattle.notation.specs.declared.Jot.{Jot}
use Rattle.writing.specs.Asked.{text_room, write_asked}
use Rattle.reading.specs.Asked.{read_asked}
use Rattle.sense.specs.Outcome.{counted}
use Rattle.notation.proofs.Forming.{form_back, form_forth}
use Rattle.notation.proofs.Stopping.{form_well, place_within, place_begins, place_blocks}
use Rattle.paper.proofs.Asking.{written_read, written_once, read_written}
use Rattle.crossing.specs.Wire.{board_room, board_in}
use Rattle.crossing.specs.Crossing.{Left}
use Rattle.crossing.specs.Papers.{count_left}
use Rattle.corbelnib.specs.Calls.{read_line, write_line, Call}
use Rattle.demands.specs.LinesOnPaper.{text_written, records_read, Octets, InForm, FirstWrong, LinesOnPaper}
use Rattle.demands.proofs.Refusing.{by_test, by_verdict, board_refuses}
use Rattle.crossing.proofs.Returning.{sized_in}
use Rattle.demands.proofs.Papers.{read_refusals, read_outcome, write_outcome, passed_on, forty_two}
use Rattle.demands.proofs.PaperCalls.{asked_on, asked_gave, read, read_end, read_number, read_gave, read_done, records_are, list_kept, write_gave, write_done, text_is, text-kept, answer, written-text, text_short}
use Rattle.demands.proofs.ReadingLines.{bad_board, little_room_lem, no_line, past_most, no_moves, wrong_move_lem, bad_move_lem, one_more_lem}
use Rattle.demands.proofs.WritingLines.{replay_first_lem, no_notation, little_text_lem, all-written}

-- ---- written and read, read and written

module _ (w : Call write_line) (r : Call read_line) where
  back : (done : w.number ≡ 0) → Octets w.input.1 → r.input.0 ≡ w.input.0 → r.input.1 ≡ text_written w → list_room ≤ length r.before.0
      → (r.number ≡ 0) × (records_read r ≡ w.input.1)
  back done f same text h =
      let a = answer w done in
      let b = board_in w.input.0 in
      let k = written_read b w.input.1 (length w.before.0) (length r.before.0) (sized_in w.input.0 a.0) f a.1 h in
      let q = ap₂ (λ (x y : List ℕ). read_outcome x y (length r.before.0)) same (text ∙ written-text w done)
      ∙ asked_on w.input.0 (λ d. read_asked d (write_gave w done).value (length r.before.0)) a.0 ∙ k.0 in
      (read_done r q, records_are r q ∙ k.1)

  forth : (done : r.number ≡ 0) → w.input.0 ≡ r.input.0 → w.input.1 ≡ records_read r → text_room ≤ length w.before.0
      → (w.number ≡ 0) × (text_written w ≡ r.input.1)
  forth done same list h =
      let g = read_gave r done in
      let a = asked_gave r.input.0 (λ b. read_asked b r.input.1 (length r.before.0)) g.is in
      let k = read_written (board_in r.input.0) r.input.1 (length r.before.0) (length w.before.0) (sized_in r.input.0 a.0) a.1 h in
      let q = ap₂ (λ (x y : List ℕ). write_outcome x y (length w.before.0)) same (list ∙ records_are r g.is)
      ∙ asked_on r.input.0 (λ d. write_asked d (bytes_of g.value) (length w.before.0)) a.0 ∙ k in
      (write_done w q, text_is w q)

once : (v w : Call write_line) → v.number ≡ 0 → w.number ≡ 0 → Octets v.input.1 → Octets w.input.1 → v.input.0 ≡ w.input.0
    → text_written v ≡ text_written w → v.input.1 ≡ w.input.1
once v w d e f g same text =
    let a = answer v d in
    let b = answer w e in
    let t = sym (written-text v d) ∙ text ∙ written-text w e in
    let c = subst (λ (x : List ℕ). write_asked (board_in x) w.input.1 (length w.before.0) ≡ gives (write_gave w e).value) (sym same) b.1 in
    written_once (board_in v.input.0) v.input.1 w.input.1 (length v.before.0) (length w.before.0) (sized_in v.input.0 a.0) f g
    (a.1 ∙ ap (λ (l : List ℕ). gives l) t) c

-- ---- the place with 42

-- what a line is, and what the reader makes of it
in_form : (text : List ℕ) {js : List Jot} → line_in text ≡ jots js → InForm text
in_form text {js} e = record { moves = js; well = form_well text e; is = form_forth text e }

line_in_lem : {text : List ℕ} (f : InForm text) → line_in text ≡ jots f.moves
line_in_lem f = ap line_in (sym f.is) ∙ form_back f.moves f.well

module _ (r : Call read_line) (e : r.number ≡ 42) where
  abbrev board : Board
  board = board_in r.input.0

  abbrev ns : List ℕ
  ns = read_refusals

  -- the board and the room were fine, so that the text decided
  text_decides : read r ≡ by-text (shown board) (line_in r.input.1)
  unfolding read_asked line_read
  text_decides =
      let lent = length r.before.0 in
      let whole = unless (eqb (length r.input.0) board_room) 12 fine in
      let room : Verdict = unless (leb list_room lent) 21 fine in
      let q = passed_on ns 42 refl whole (read_asked board r.input.1 lent) r.before.1 (by_test ns (eqb (length r.input.0) board_room) 12 fine refl tt) (sym (read_number r) ∙ e) in
      q
      ∙ passed_on ns 42 refl (after (examined board) room) (line_read (shown board) r.input.1) r.before.1
      (by_verdict ns (examined board) room (board_refuses ns refl refl refl refl board) (by_test ns (leb list_room lent) 21 fine refl tt))
      (ap (λ (o : Outcome (List Move)). (count_left (counted o) r.before.1).number) (sym q) ∙ sym (read_number r) ∙ e)

  wrong_there : line_in r.input.1 ≡ wrong r.after.1
  wrong_there =
      let told = ap (λ (o : Outcome (List Move)). count_left (counted o) r.before.1) text_decides in
      forty_two (shown board) (line_in r.input.1) r.before.1 (ap (λ (l : Left ℕ). l.number) (sym told) ∙ sym (read_number r) ∙ e)
      ∙ ap (λ (l : Left ℕ). wrong l.places) (sym told)
      ∙ ap (λ (l : Left (List ℕ × ℕ)). wrong l.places.1) (sym (read_end r))

  first_wrong_lem : FirstWrong r.input.1 r.after.1
  first_wrong_lem =
      let text = r.input.1 in
      let q = place_begins text wrong_there in
      record {
        within = place_within text wrong_there;
        before = (q.0, in_form (take r.after.1 text ++ q.0) q.1.reads);
        there = λ h more l. place_blocks text wrong_there h more (record { moves = l.moves; reads = line_in_lem l });
        none = λ l. clash (sym (line_in_lem l) ∙ wrong_there);
      }
    where
      clash : {js : List Jot} {p : ℕ} → jots js ≡ wrong p → ⊥
      clash q = let z : ◌≡◌ {A = ℕ} 0 1 = cc in omega arith

pub lines_on_paper : LinesOnPaper
lines_on_paper =
    record {
      read_back = back;
      one_text = once;
      again = λ r w. forth w r;
      short = λ w d f. text_short w d f;
      board = bad_board;
      little_room = little_room_lem;
      outside = λ r ok d. let e = no_line r ok d in (e, first_wrong_lem r e);
      first_wrong = first_wrong_lem;
      too_many = past_most;
      wrong_move = λ r w later c. wrong_move_lem c;
      bad_move = λ r w later c. bad_move_lem c;
      one_more = λ r w c m k x p. one_more_lem c m k x p refl;
      none = no_moves;
      replay_first = replay_first_lem;
      unwritable = no_notation;
      little_text = little_text_lem;
      writes = all-written;
      keeps_list = list_kept;
      keeps_text = text-kept;
    }
