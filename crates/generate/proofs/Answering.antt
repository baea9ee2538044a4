-- What a listing of moves answers: the record's refusals, then 21, then all of them.
use Rattle.std.specs.Prelude.{Err, Ok, Result}
use mathlib.Core.Path.{◌≡◌, sym, ap, ◌∙◌}
use mathlib.Core.List.{List}
use Prim.Native.Nat.{ℕ, ◌<◌, ◌≤◌}
use native.Mathlib.Nat.{zero-add}
use borrow.Author.Tests.{le-leb, lt-leb}
use lib.ListN.{length}
use Rattle.base.specs.Answer.{Answer, given, refused}
use Rattle.board.specs.Record.{examined}
use Rattle.board.specs.Refusal.{number_of, answered}
use Rattle.board.specs.declared.Board.{Board}
use Rattle.board.specs.declared.Refusal.{Refusal}
use Rattle.moves.specs.declared.Move.{Move}
use Rattle.questions.proofs.Asking.{after_no, after_yes}
use Rattle.moves.specs.Written.{Adds}
use Rattle.generate.specs.Asked.{record_room, found_asked, room_after, Finds}

-- ---- the answer

enough : (b : Board) (ms : List Move) (lent : ℕ) {e : Result (Unit {0}) Refusal} → answered e ≡ examined b → e ≡ Ok tt → record_room ≤ lent
    → found_asked b ms lent ≡ given (length ms)
unfolding found_asked
enough b ms lent p q h = after_yes _ p q ∙ rw (le-leb record_room lent h)

module _ {b : Board} {ms : List Move} {old : List ℕ} where
  refuses : {why : Refusal} → refused (number_of why) ≡ found_asked b ms (length old) → Finds b ms old old (Err why)
  refuses q = record { told = q; room = ap (λ (a : Answer ℕ). room_after a old ms) q }

  pub finds_no_board : {e : Result (Unit {0}) Refusal} {why : Refusal} → answered e ≡ examined b → e ≡ Err why → Finds b ms old old (Err why)
  unfolding found_asked
  finds_no_board p q = refuses (after_no _ p q)

  module _ {e : Result (Unit {0}) Refusal} (p : answered e ≡ examined b) (q : e ≡ Ok tt) where
    pub finds_no_room : {why : Refusal} → 21 ≡ number_of why → length old < record_room → Finds b ms old old (Err why)
    unfolding found_asked
    finds_no_room n h = refuses (ap refused (sym n) ∙ sym (after_yes _ p q ∙ rw (lt-leb record_room (length old) h)))

    pub finds_all : {new : List ℕ} {made : ℕ} → record_room ≤ length old → Adds old new 0 made ms → Finds b ms old new (Ok made)
    finds_all {new} {made} h a =
        record {
          told = ap (λ (n : ℕ). given n) (a.many ∙ zero-add (length ms)) ∙ sym answer;
          room = a.room ∙ ap (λ (x : Answer ℕ). room_after x old ms) (sym answer);
        }
      where
        answer : found_asked b ms (length old) ≡ given (length ms)
        answer = enough b ms (length old) p q h
