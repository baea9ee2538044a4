-- What lies on top is a card that has a code, and a safe move has a record.
use Rattle.moves.specs.declared.Move.{Move}
use Rattle.std.specs.Prelude.{Some, Err, Ok, Option, None, Result}
use mathlib.Core.Path.{◌≡◌, refl, sym, ap, ◌∙◌}
use mathlib.Core.Bool.{Bool, true, false, cond, ◌||◌}
use mathlib.Core.List.{List, []}
use Prim.Native.Nat.{ℕ, ◌<◌}
use native.Mathlib.Omega.{arith}
use borrow.Author.Tests.{ltb-true}
use Rattle.std.proofs.lemmas.Bool.{eqb-true}
use lib.Dec.{eqb, ltb}
use lib.ListN.{length, get_or}
use Rattle.base.specs.Answer.{Answer, given, unless}
use Rattle.base.proofs.Answers.{given_by}
use Rattle.card.specs.Card.{is_value, is_card, card_of}
use Rattle.card.specs.declared.Card.{Card}
use Rattle.card.proofs.Codes.{value_of_card}
use Rattle.board.specs.Verdict.{is_cell}
use Rattle.board.specs.Record.{examined, shown}
use Rattle.board.specs.Inner.{Sized}
use Rattle.board.specs.Refusal.{answered}
use Rattle.board.specs.declared.Board.{Board}
use Rattle.board.specs.declared.Refusal.{Refusal}
use Rattle.board.proofs.Soundness.{sound}
use Rattle.board.proofs.Fair.{shows_fair}
use Rattle.questions.specs.Questions.{top_of, cell_of, top_asked, cell_asked}
use Rattle.safe.specs.Safe.{first_safe}
use Rattle.safe.specs.Asked.{first_asked}
use Rattle.safe.proofs.Places.{at_column}
use Rattle.safe.proofs.Passing.{top_value_lem}
use Rattle.safe.proofs.Safety.{safe_said}
use Rattle.crossing.specs.Wire.{board_in}
use Rattle.crossing.specs.Crossing.{asked}
use Rattle.crossing.proofs.Crossing.{given_after}
use Rattle.crossing.proofs.Returning.{sized_in}
use Rattle.crossing.specs.Inner.{Coded, CodedAnswer, Said, SaidAnswer}

module _ (b : Board) (z : Sized b) where
  top_coded : (i : ℕ) (t : Option Card) → top_asked b i ≡ given t → Coded t
  unfolding top_asked shown
  top_coded i None e = tt
  top_coded i (Some c) e =
      let v = given_after _ (examined b) (unless (ltb i 8) 30 (given (top_of (get_or (shown b).columns i [])))) e in
      let w = given_by (ltb i 8) 30 (given (top_of (get_or (shown b).columns i []))) v.1 in
      let h : i < 8 = ltb-true i 8 w.0 in
      let top : top_of (get_or (shown b).columns i []) ≡ Some c = let q = w.1 in cc in
      top_value_lem (sound b z v.0) (omega arith) (ap top_of (at_column b.cells (shown b).columns i h) ∙ top)

  cell_value : (x : ℕ) (c : Card) → is_cell x ≡ true → cell_of x ≡ Some c → is_value c.value ≡ true
  unfolding cell_of is_cell
  cell_value x c k e = by (eqb x 255) k e
    where
      by : (t : Bool) → (t || is_card x) ≡ true → cond t None (Some (card_of x)) ≡ Some c → is_value c.value ≡ true
      by true k q = let z : ◌≡◌ {A = ℕ} 0 1 = cc in absurd (let w : ⊥ = omega arith in w)
      by false k q = let d : card_of x ≡ c = cc in ap (λ (y : Card). is_value y.value) (sym d) ∙ value_of_card x k

  cell_coded : (i : ℕ) (t : Option Card) → cell_asked b i ≡ given t → Coded t
  unfolding cell_asked shown
  cell_coded i None e = tt
  cell_coded i (Some c) e =
      let v = given_after _ (examined b) (unless (ltb i 4) 30 (given (cell_of (get_or (shown b).cells i 0)))) e in
      let w = given_by (ltb i 4) 30 (given (cell_of (get_or (shown b).cells i 0))) v.1 in
      let top : cell_of (get_or b.cells i 0) ≡ Some c = let q = w.1 in cc in
      cell_value (get_or b.cells i 0) c ((sound b z v.0).in_cells.codes i (ltb-true i 4 w.0)) top

  -- the first safe move
  first_said : (m : Option Move) → first_asked b ≡ given m → Said m
  unfolding first_asked
  first_said None e = tt
  first_said (Some m) e =
      let v = given_after _ (examined b) (given (first_safe (shown b))) e in
      let q : first_safe (shown b) ≡ Some m = let w = v.1 in cc in
      safe_said (shown b) q (shows_fair (sound b z v.0))

-- ---- what was asked of bytes that are a board

module _ (bytes : List ℕ) where
  -- it was given, so the bytes are a board
  given_of : {A : Type 0} {r : Result A Refusal} (question : Board → Answer A) {x : A} → answered r ≡ asked bytes question → r ≡ Ok x
      → Sized (board_in bytes) × (question (board_in bytes) ≡ given x)
  given_of question e q =
      let w = given_by (eqb (length bytes) 432) 12 (question (board_in bytes)) (sym e ∙ ap answered q) in
      (sized_in bytes (eqb-true (length bytes) 432 w.0), w.1)

  pub tops_coded : (i : ℕ) (r : Result (Option Card) Refusal) → answered r ≡ asked bytes (λ b. top_asked b i) → CodedAnswer r
  tops_coded i (Ok t) e = let w = given_of (λ b. top_asked b i) e refl in top_coded (board_in bytes) w.0 i t w.1
  tops_coded i (Err why) e = tt

  pub cells_coded : (i : ℕ) (r : Result (Option Card) Refusal) → answered r ≡ asked bytes (λ b. cell_asked b i) → CodedAnswer r
  cells_coded i (Ok t) e = let w = given_of (λ b. cell_asked b i) e refl in cell_coded (board_in bytes) w.0 i t w.1
  cells_coded i (Err why) e = tt

  pub firsts_said : (r : Result (Option Move) Refusal) → answered r ≡ asked bytes first_asked → SaidAnswer r
  firsts_said (Ok first) e = let w = given_of first_asked e refl in first_said (board_in bytes) w.0 first w.1
  firsts_said (Err why) e = tt
