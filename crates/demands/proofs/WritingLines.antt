-- Request (iv), writing: replay's refusals first, then 43, then 21.
use Rattle.std.specs.Prelude.{Ok}
use mathlib.Core.Path.{◌≡◌, refl, sym, ap, ◌∙◌, subst}
use mathlib.Core.Bool.{Bool, true, false}
use mathlib.Core.List.{List, [], ◌∷◌}
use Prim.Native.Nat.{ℕ, ◌%◌, ◌<◌, ◌≤◌}
use native.Mathlib.Omega.{arith}
use borrow.Author.Tests.{le-leb}
use lib.Dec.{eqb, leb}
use lib.ListN.{length}
use Rattle.base.specs.Answer.{Answer, given, refused, unless}
use Rattle.base.specs.Words.{all}
use Rattle.base.specs.Put.{over}
use Rattle.base.proofs.Words.{true_or_not}
use Rattle.board.specs.Verdict.{Verdict, fine, after}
use Rattle.board.specs.Record.{examined, shown}
use Rattle.board.specs.Inner.{Sound}
use Rattle.board.specs.declared.Board.{Board}
use Rattle.board.proofs.Soundness.{sound}
use Rattle.replay.specs.Line.{Ending, line_from, records_in, is_line}
use Rattle.replay.specs.declared.Stopped.{Stopped}
use Rattle.replay.proofs.Replaying.{line_five}
use Rattle.writing.specs.Lines.{text_of, writable_first}
use Rattle.sense.specs.Outcome.{Outcome, gives, checked}
use Rattle.writing.specs.Asked.{text_room, moves_in, played_through, written_through, write_asked}
use Rattle.sense.specs.Outcome.{counted, checked_at}
use Rattle.writing.specs.Inner.{Stops}
use Rattle.paper.proofs.Sixth.{first_sixth, none_sixth}
use Rattle.writing.proofs.Telling.{no_sign, no_room_lem, all_told}
use Rattle.crossing.specs.Wire.{board_room, board_in, bytes_of}
use Rattle.crossing.specs.Crossing.{Left, left, told, crossed, asked}
use Rattle.crossing.specs.Boards.{line_left, replay_left}
use Rattle.crossing.specs.Papers.{count_left}
use Rattle.corbelnib.specs.Calls.{replay, write_line, Call, GoodBoard}
use Rattle.demands.specs.Orders.{boards, room_for}
use Rattle.demands.specs.Demand1.{is_in, of_moves, hands}
use Rattle.demands.specs.LinesOnPaper.{ReplayOf, IsSixth}
use Rattle.demands.proofs.Ordering.{numbers, boards_good}
use Rattle.demands.proofs.Refusing.{Refuses, board_refuses, apart}
use Rattle.crossing.proofs.Returning.{sized_in}
use Rattle.demands.proofs.Crossing.{good_fine, good_asked}
use Rattle.demands.proofs.Demand1.{demand1}
use Rattle.demands.proofs.Papers.{line_refuses}
use Rattle.demands.proofs.PaperCalls.{asked_on, wrote_it, write_end, write_done, write_refused, write_refused_at}

-- ---- replay's refusals

-- the numbers of a board that is refused: 12 to 15
abbrev of_boards : List ℕ
of_boards = numbers (boards [])

module _ (k p : ℕ) (o : Outcome (List ℕ)) where
  -- a bad move's number, with its place
  at_move : (v : Verdict) → (told v ≡ 0 → ⊥)
      → ((count_left (counted (checked_at v p o)) k).number ≡ told v) × (is_in (told v) of_moves ≡ true → (count_left (counted (checked_at v p o)) k).places ≡ p)
  at_move (given u) d = absurd (d refl)
  at_move (refused n) d = (refl, λ h. refl)

-- the same refusals in the same order, with room for the board where the line ends
abbrev Alike : Left (List ℕ × ℕ) → Left ℕ → Type 0
Alike x w = (x.number ≡ 0 → ⊥) → (w.number ≡ x.number) × (is_in x.number of_moves ≡ true → w.places ≡ x.places.1)

alike : (whole : Bool) (v : Verdict) (line : Bool) (e : Ending) (o : Outcome (List ℕ)) (room : List ℕ) (n k : ℕ) → Refuses of_boards v → board_room ≤ length room
    → Alike (line_left (unless whole 12 (after v (unless line 31 (given e)))) room n)
    (count_left (counted (checked (unless whole 12 fine) (checked (after v (unless line 31 fine)) (played_through e o)))) k)
unfolding line_left all
alike false v line e o room n k r h d = (refl, λ q. true_or_not false q refl)
alike true (refused m) line e o room n k r h d = (refl, λ q. true_or_not (is_in m of_moves) q (apart (λ i. is_in i of_moves) of_boards refl m r))
alike true (given u) false e o room n k r h d = (refl, λ q. true_or_not false q refl)
alike true (given u) true e o room n k r h d = by (leb board_room (length room)) (le-leb board_room (length room) h) d
  where
    by : (fits : Bool) → fits ≡ true
        → Alike (crossed (unless fits 21 (given e)) (room, n) (λ x. left (told x.verdict) (over (bytes_of x.board) room, x.moves)))
        (count_left (counted (played_through e o)) k)
    by true q b = at_move k e.moves o e.verdict b
    by false q b = true_or_not false q refl

module _ (w : Call write_line) (x : Call replay) (p : ReplayOf w x) where
  abbrev b : Board
  b = board_in w.input.0

  abbrev ending : Ending
  ending = line_from (board_in w.input.0) (records_in w.input.1)

  replay_end : left x.number x.after
      ≡ line_left (asked w.input.0 (λ d. after (examined d) (unless (is_line w.input.1) 31 (given (line_from d (records_in w.input.1)))))) x.before.0 x.before.1
  unfolding replay_left
  replay_end =
      x.keeps
      ∙ ap (λ (i : List ℕ × List ℕ). line_left (asked i.0 (λ d. after (examined d) (unless (is_line i.1) 31 (given (line_from d (records_in i.1)))))) x.before.0 x.before.1) p.input

  pub replay_first_lem : (x.number ≡ 0 → ⊥) → (w.number ≡ x.number) × (is_in x.number of_moves ≡ true → w.after.1 ≡ x.after.1)
  unfolding write_asked
  replay_first_lem =
      subst (λ (l : Left (List ℕ × ℕ)). Alike l (left w.number w.after.1)) (sym replay_end)
      (subst (λ (l : Left ℕ). Alike (line_left (asked w.input.0 (λ d. after (examined d) (unless (is_line w.input.1) 31 (given (line_from d (records_in w.input.1)))))) x.before.0 x.before.1) l)
      (sym (ap (λ (l : Left (List ℕ × ℕ)). left l.number l.places.1) (write_end w)))
      (alike (eqb (length w.input.0) board_room) (examined b) (is_line w.input.1) ending
      (written_through (moves_in w.input.1) (checked (unless (leb text_room (length w.before.0)) 21 fine) (gives (text_of (shown b) (moves_in w.input.1)))))
      x.before.0 x.before.1 w.before.1
      (board_refuses of_boards refl refl refl refl b) p.room))

  -- ---- a list that can be replayed

  module _ (done : x.number ≡ 0) where
    good : GoodBoard w.input.0
    good = subst GoodBoard (ap (λ (i : List ℕ × List ℕ). i.0) p.input) (boards_good x.input.0 ((is_line x.input.1, 31) ∷ room_for board_room x.before.0) (demand1.examines x (ap (hands replay) done))).0

    replay_good : left x.number x.after ≡ line_left (unless (is_line w.input.1) 31 (given ending)) x.before.0 x.before.1
    replay_good =
        replay_end ∙ ap (λ (a : Answer Ending). line_left a x.before.0 x.before.1) (good_asked (λ d. unless (is_line w.input.1) 31 (given (line_from d (records_in w.input.1)))) good)

    -- it is a list, and every move can be played
    plays : (is_line w.input.1 ≡ true) × (ending.verdict ≡ fine)
    unfolding line_left
    plays = by_line (is_line w.input.1) refl replay_good
      where
        number_of : {l : Left (List ℕ × ℕ)} → left x.number x.after ≡ l → l.number ≡ 0
        number_of e = sym (ap (λ (l : Left (List ℕ × ℕ)). l.number) e) ∙ done

        by_verdict : (v : Verdict) → ending.verdict ≡ v → Refuses of_moves v → told v ≡ 0 → ending.verdict ≡ fine
        by_verdict (given u) q r e = q
        by_verdict (refused n) q r e = true_or_not (is_in 0 of_moves) (subst (λ (i : ℕ). is_in i of_moves ≡ true) e r) refl

        by_room : (fits : Bool) → fits ≡ true
            → left x.number x.after
            ≡ crossed (unless fits 21 (given ending)) (x.before.0, x.before.1) (λ e. left (told e.verdict) (over (bytes_of e.board) x.before.0, e.moves))
            → ending.verdict ≡ fine
        by_room true q e = by_verdict ending.verdict refl (line_refuses (records_in w.input.1) b) (number_of e)
        by_room false q e = true_or_not false q refl

        by_line : (ok : Bool) → is_line w.input.1 ≡ ok → left x.number x.after ≡ line_left (unless ok 31 (given ending)) x.before.0 x.before.1
            → (is_line w.input.1 ≡ true) × (ending.verdict ≡ fine)
        by_line true q e = (q, by_room (leb board_room (length x.before.0)) (le-leb board_room (length x.before.0) p.room) e)
        by_line false q e = absurd (let z = number_of e in let s : ⊥ = omega arith in s)

    whole : length w.input.1 % 5 ≡ 0
    whole = line_five w.input.1 plays.0

    sound_board : Sound b
    sound_board = sound b (sized_in w.input.0 good.long) (good_fine good)

    asked_so : wrote_it w ≡ write_asked b w.input.1 (length w.before.0)
    asked_so = asked_on w.input.0 (λ d. write_asked d w.input.1 (length w.before.0)) good.long

    abbrev told_well : Stopped
    told_well = record { said = (Ok tt); moves = ending.moves }

    stops : Stops ending told_well
    stops = record { said = sym plays.1; moves = refl }

    pub no_notation : (at : ℕ) → IsSixth w.input.1 at → ((i : ℕ) → i < at → IsSixth w.input.1 i → ⊥) → (w.number ≡ 43) × (w.after.1 ≡ at)
    no_notation at six none =
        let q = first_sixth b w.input.1 whole plays.1 at six.there six.kind
        (λ i h k. none i h (record { there = (let t = six.there in omega arith); kind = k })) in
        write_refused_at w
        (asked_so
        ∙ no_sign b w.input.1 (length w.before.0) sound_board plays.0 stops refl q)

    module _ (none : (i : ℕ) → IsSixth w.input.1 i → ⊥) where
      upto : writable_first (moves_in w.input.1) ≡ length (moves_in w.input.1)
      upto = none_sixth b w.input.1 whole plays.1 (λ i h k. none i (record { there = h; kind = k }))

      pub little_text_lem : length w.before.0 < text_room → w.number ≡ 21
      little_text_lem h =
          write_refused w
          (asked_so ∙ no_room_lem b w.input.1 (length w.before.0) sound_board plays.0 stops refl upto h)

      pub all-written : text_room ≤ length w.before.0 → w.number ≡ 0
      all-written h =
          write_done w
          (asked_so ∙ all_told b w.input.1 (length w.before.0) sound_board plays.0 stops refl upto h)
