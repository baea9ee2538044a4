-- A list written as it is asked for: the refusals in their order, then the text.
use mathlib.Core.Path.{◌≡◌, sym, ap, ◌∙◌}
use mathlib.Core.Bool.{Bool, true, false}
use mathlib.Core.List.{List}
use Prim.Native.Nat.{ℕ, ◌<◌, ◌≤◌}
use native.Mathlib.Omega.{arith}
use borrow.Author.Tests.{eq-eqb, ne_eqb, le-leb, lt-leb, leb-true}
use lib.Dec.{leb}
use lib.ListN.{length}
use Rattle.std.specs.Prelude.{Ok, Err, Result}
use Rattle.base.specs.Answer.{unless}
use Rattle.base.specs.Put.{Puts}
use Rattle.base.proofs.Putting.{puts_over}
use Rattle.base.proofs.Words.{first}
use Rattle.board.specs.Verdict.{Verdict, fine, after}
use Rattle.board.specs.Record.{examined, shown}
use Rattle.board.specs.Refusal.{number_of, answered}
use Rattle.board.specs.Inner.{Sound}
use Rattle.board.specs.declared.Board.{Board}
use Rattle.board.specs.declared.Refusal.{Refusal}
use Rattle.board.proofs.Soundness.{sound_fine}
use Rattle.moves.specs.Written.{list_room}
use Rattle.replay.specs.Line.{line_from, records_in, is_line}
use Rattle.replay.specs.declared.Stopped.{Stopped}
use Rattle.sense.specs.Outcome.{Outcome, gives, refuses, refuses_at, checked, counted, checked_at}
use Rattle.writing.specs.Lines.{text_of, writable_first}
use Rattle.writing.specs.Asked.{text_room, moves_in, played_through, written_through, write_asked, text_after, Writes}
use Rattle.writing.specs.Inner.{Whole, Stops}
use Rattle.sense.specs.declared.LineError.TheVariants as line
use Rattle.writing.proofs.Lengths.{text_long}
use Rattle.writing.proofs.Looking.{moves_many}

-- ---- what is handed back

module _ {b : Board} {bytes old : List ℕ} where
  pub tells_no : {why : Refusal} → write_asked b bytes (length old) ≡ refuses (number_of why) → Writes b bytes old old (Err (line.Refused why))
  tells_no e = record { told = ap counted (sym e); room = ap (λ (o : Outcome (List ℕ)). text_after o old) (sym e) }

  pub tells_at : {why : Refusal} {p : ℕ} → write_asked b bytes (length old) ≡ refuses_at (number_of why) p → Writes b bytes old old (Err (line.At why p))
  tells_at e = record { told = ap counted (sym e); room = ap (λ (o : Outcome (List ℕ)). text_after o old) (sym e) }

  pub tells_text : {new text : List ℕ} {r : ℕ} → write_asked b bytes (length old) ≡ gives text → Puts old new 0 r text → Writes b bytes old new (Ok r)
  tells_text {new} {text} {r} e p =
      record {
        told = ap (λ (n : ℕ). gives n) (let a = p.after in let q : r ≡ length text = omega arith in q) ∙ ap counted (sym e);
        room = puts_over p ∙ ap (λ (o : Outcome (List ℕ)). text_after o old) (sym e);
      }

-- ---- the board and the list

module _ (b : Board) (bytes : List ℕ) (lent : ℕ) where
  played : Outcome (List ℕ)
  played =
      played_through (line_from b (records_in bytes))
      (written_through (moves_in bytes) (checked (unless (leb text_room lent) 21 fine) (gives (text_of (shown b) (moves_in bytes)))))

  on_verdict : {v : Verdict} → examined b ≡ v → write_asked b bytes lent ≡ checked (after v (unless (is_line bytes) 31 fine)) played
  unfolding write_asked played
  on_verdict e = ap (λ (v : Verdict). checked (after v (unless (is_line bytes) 31 fine)) played) e

  module _ {r : Result (Unit {0}) Refusal} (e : answered r ≡ examined b) where
    pub bad_board : {why : Refusal} → r ≡ Err why → write_asked b bytes lent ≡ refuses (number_of why)
    bad_board q = on_verdict (sym e ∙ ap answered q)

    pub no_list_lem : r ≡ Ok tt → is_line bytes ≡ false → write_asked b bytes lent ≡ refuses 31
    no_list_lem q n = on_verdict (sym e ∙ ap answered q) ∙ ap (λ (ok : Bool). checked (unless ok 31 fine) played) n

  -- ---- the moves

  module _ (s : Sound b) (l : is_line bytes ≡ true) where
    on_line : write_asked b bytes lent ≡ played
    on_line = on_verdict (sound_fine s) ∙ ap (λ (ok : Bool). checked (unless ok 31 fine) played) l

    module _ {x : Stopped} (e : Stops (line_from b (records_in bytes)) x) where
      pub bad_move_lem : {why : Refusal} → x.said ≡ Err why → write_asked b bytes lent ≡ refuses_at (number_of why) x.moves
      unfolding played
      bad_move_lem {why} q = on_line ∙ rw (sym e.said ∙ ap answered q, sym e.moves)

      module _ (q : x.said ≡ Ok tt) where
        plays : (line_from b (records_in bytes)).verdict ≡ fine
        plays = sym e.said ∙ ap answered q

        signs : Outcome (List ℕ)
        signs = written_through (moves_in bytes) (checked (unless (leb text_room lent) 21 fine) (gives (text_of (shown b) (moves_in bytes))))

        on_moves : write_asked b bytes lent ≡ signs
        unfolding played signs
        on_moves = on_line ∙ ap (λ (v : Verdict). checked_at v (line_from b (records_in bytes)).moves signs) plays

        pub no_sign : {place : ℕ} → (place ≡ writable_first (moves_in bytes)) × (place < length (moves_in bytes)) → write_asked b bytes lent ≡ refuses_at 43 place
        unfolding signs
        no_sign {place} p =
            let e = p.0 in
            let h = p.1 in
            on_moves
            ∙ rw (ne_eqb (writable_first (moves_in bytes)) (length (moves_in bytes)) (λ z. let w : ⊥ = omega arith in w))
            (ap (λ (k : ℕ). refuses_at 43 k) (sym e))

        module _ (h : writable_first (moves_in bytes) ≡ length (moves_in bytes)) where
          on_room : write_asked b bytes lent ≡ checked (unless (leb text_room lent) 21 fine) (gives (text_of (shown b) (moves_in bytes)))
          unfolding signs
          on_room = on_moves ∙ rw (eq-eqb (writable_first (moves_in bytes)) (length (moves_in bytes)) h)

          pub no_room_lem : lent < text_room → write_asked b bytes lent ≡ refuses 21
          no_room_lem k = on_room ∙ rw (lt-leb text_room lent k)

          module _ (k : text_room ≤ lent) where
            pub all_told : write_asked b bytes lent ≡ gives (text_of (shown b) (moves_in bytes))
            all_told = on_room ∙ rw (le-leb text_room lent k)

            pub all_ready : Whole b bytes lent
            unfolding is_line
            all_ready =
                let m = moves_many bytes in
                let long = leb-true (length bytes) list_room (first (leb (length bytes) list_room) _ l) in
                let t = text_long (shown b) (moves_in bytes) (omega arith) in
                record { sound = s; line = l; plays = plays; fits = omega arith }
