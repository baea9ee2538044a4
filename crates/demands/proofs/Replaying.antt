-- The list that a search brought, given to corbelnib_replay: it ends well, on the board after its last move.
use mathlib.Core.Path.{◌≡◌, refl, sym, ap, ap₂, ◌∙◌, subst}
use mathlib.Core.Bool.{Bool, true, false}
use mathlib.Core.List.{List}
use Prim.Native.Nat.{ℕ, ◌≤◌}
use native.Mathlib.Omega.{arith}
use lib.ListN.{length, take, drop}
use lib.Seq.{take_at}
use Rattle.base.specs.Answer.{Answer, given, unless}
use Rattle.board.specs.Table.{Table}
use Rattle.board.specs.Verdict.{fine}
use Rattle.board.specs.Record.{shapely, shown, board_of}
use Rattle.board.specs.Fair.{Fair}
use Rattle.board.specs.Inner.{Sound}
use Rattle.board.specs.declared.Board.{Board}
use Rattle.board.proofs.Soundness.{sound_shape, sound_sized}
use Rattle.board.proofs.Records.{shown_of_record}
use Rattle.board.proofs.Fair.{fair_laid, fair_sound}
use Rattle.questions.specs.Questions.{won_on}
use Rattle.moves.specs.declared.Move.{Move}
use Rattle.replay.specs.Line.{Ending, line_from, records_in, is_line}
use Rattle.replay.specs.Played.{after_moves}
use Rattle.replay.proofs.Replaying.{a_line}
use Rattle.replay.proofs.Legal.{legal_fair, records_written}
use Rattle.moves.specs.Written.{bytes_of}
use Rattle.moves.proofs.Writing.{bytes_long}
use Rattle.base.specs.Put.{over}
use Rattle.search.specs.Claims.{brings_list}
use Rattle.solver.specs.Told.{HandsOver}
use Rattle.solver.specs.Told as solver
use Rattle.solver.proofs.Calls as calls
use Rattle.crossing.specs.Wire.{board_room, board_in}
use Rattle.crossing.specs.Wire as wire
use Rattle.crossing.specs.Crossing.{Left, left, told}
use Rattle.crossing.specs.Boards.{line_left, replay_left}
use Rattle.crossing.specs.Numbers.{is_answer}
use Rattle.crossing.proofs.Handing.{line_yes}
use Rattle.corbelnib.proofs.Calls.{is_answer_lem}
use Rattle.crossing.proofs.Returning as returning
use Rattle.corbelnib.specs.Calls.{replay, judge, Call, GoodBoard}
use Rattle.demands.specs.Demand2.{Replays, table_in, handed, end_of}
use Rattle.demands.proofs.Crossing.{good_asked}
use Rattle.demands.proofs.Searching.{good_search, searching, same_number, sized}

-- ---- the bytes of a list are its records

pub is_line_lem : (ms : List Move) → length ms ≤ 200 → is_line (bytes_of ms) ≡ true
is_line_lem ms h = let l = bytes_long ms in a_line (bytes_of ms) (omega arith) (omega arith)

-- ---- a board at the start of lent room

pub over_first : (new old : List ℕ) (n : ℕ) → length new ≡ n → take n (over new old) ≡ new
unfolding over
over_first new old n e = take_at new (drop (length new) old) n e

module _ (t : Table) (f : Fair t) (room : List ℕ) where
  abbrev laid : List ℕ
  laid = take board_room (over (wire.bytes_of (board_of t)) room)

  record_sound : Sound (board_of t)
  record_sound = fair_sound t f

  laid_is : laid ≡ wire.bytes_of (board_of t)
  laid_is = over_first (wire.bytes_of (board_of t)) room board_room (returning.bytes_long (board_of t) (sound_sized record_sound))

  pub laid_board : board_in laid ≡ board_of t
  laid_board = ap board_in laid_is ∙ returning.board_back (board_of t) (sound_sized record_sound)

  pub laid_table : table_in laid ≡ t
  laid_table = ap shown laid_board ∙ shown_of_record t (fair_laid t f)

  pub laid_good : GoodBoard laid
  laid_good =
      record {
        long = ap length laid_is ∙ returning.bytes_long (board_of t) (sound_sized record_sound);
        shape = subst (λ (b : Board). shapely b ≡ true) (sym laid_board) (sound_shape record_sound);
        fair = subst Fair (sym laid_table) f;
      }

-- ---- a list replayed from a well-formed board, with room for the board where it ends

module _ (r : Call replay) (good : GoodBoard r.input.0) (line : is_line r.input.1 ≡ true) (room : board_room ≤ length r.before.0) where
  pub ends_at : {e : Ending} → line_from (board_in r.input.0) (records_in r.input.1) ≡ e
      → left r.number r.after ≡ left {A = List ℕ × ℕ} (told e.verdict) (over (wire.bytes_of e.board) r.before.0, e.moves)
  unfolding replay_left
  ends_at {e} q =
      r.keeps
      ∙ ap (λ (a : Answer Ending). line_left a r.before.0 r.before.1)
      (good_asked (λ b. unless (is_line r.input.1) 31 (given (line_from b (records_in r.input.1)))) good
      ∙ ap (λ (ok : Bool). unless ok 31 (given (line_from (board_in r.input.0) (records_in r.input.1)))) line
      ∙ ap (λ (x : Ending). given x) q)
      ∙ sym (line_yes e r.before.0 r.before.1 room)

-- ---- the replay

pub brought_answer : (n : ℕ) → brings_list n ≡ true → is_answer n ≡ true
brought_answer n e = is_answer_lem n (calls.brings_answer n e)

module _ (c : Call judge) (brought : brings_list c.number ≡ true) where
  abbrev answers : is_answer c.number ≡ true
  answers = brought_answer c.number brought

  -- the list that was brought plays
  pub list_of : HandsOver (searching c c.input.board refl answers)
  list_of =
      let s = searching c c.input.board refl answers in
      let n = same_number c c.input.board refl answers in
      calls.T1 s (sized c c.input.board refl answers) (ap brings_list n ∙ brought)

  -- the table after it
  abbrev pub last : Table
  last = after_moves (table_in c.input.board) list_of.moves

  pub last_fair : Fair last
  last_fair =
      legal_fair list_of.moves (table_in c.input.board) (good_search c c.input.board refl answers).board.fair list_of.plays.legal

  pub many : c.after.moves ≡ length list_of.moves
  unfolding searching
  many = list_of.many

  pub handed_are : handed c ≡ bytes_of list_of.moves
  unfolding searching
  handed_are = list_of.bytes

module _ (c : Call judge) (r : Call replay) (p : Replays c r) where
  abbrev moved : List Move
  moved = (list_of c p.brought).moves

  abbrev ending : Ending
  ending = record { verdict = fine; moves = length moved; board = board_of (last c p.brought) }

  whole_list : r.input.1 ≡ bytes_of moved
  whole_list = p.list ∙ handed_are c p.brought

  line_is : line_from (board_in r.input.0) (records_in r.input.1) ≡ ending
  line_is =
      ap₂ (λ (board list : List ℕ). line_from (board_in board) (records_in list)) p.board whole_list
      ∙ ap (line_from (board_in c.input.board)) (records_written moved) ∙ (list_of c p.brought).plays.replays

  pub replay_is : left r.number r.after ≡ left {A = List ℕ × ℕ} 0 (over (wire.bytes_of (board_of (last c p.brought))) r.before.0, length moved)
  replay_is =
      let good = subst GoodBoard (sym p.board) (good_search c c.input.board refl (brought_answer c.number p.brought)).board in
      ends_at r good (ap is_line whole_list ∙ is_line_lem moved (list_of c p.brought).plays.short) p.room line_is

  pub replay_number : r.number ≡ 0
  replay_number = ap (λ (l : Left (List ℕ × ℕ)). l.number) replay_is

  pub replay_many : r.after.1 ≡ c.after.moves
  replay_many = ap (λ (l : Left (List ℕ × ℕ)). l.places.1) replay_is ∙ sym (many c p.brought)

  end_is : end_of r ≡ take board_room (over (wire.bytes_of (board_of (last c p.brought))) r.before.0)
  end_is = ap (λ (l : Left (List ℕ × ℕ)). take board_room l.places.0) replay_is

  pub end_good : GoodBoard (end_of r)
  end_good = subst GoodBoard (sym end_is) (laid_good (last c p.brought) (last_fair c p.brought) r.before.0)

  pub end_table : table_in (end_of r) ≡ last c p.brought
  end_table = ap table_in end_is ∙ laid_table (last c p.brought) (last_fair c p.brought) r.before.0

  pub end_won : c.number ≡ 0 → won_on (table_in (end_of r)).foundation ≡ true
  end_won e =
      let answers = brought_answer c.number p.brought in
      ap (λ (t : Table). won_on t.foundation) end_table
      ∙ (list_of c p.brought).plays.wins (same_number c c.input.board refl answers ∙ e)

  -- the number that the search's own call has
  same_as : {n : ℕ} → c.number ≡ n → solver.number (searching c c.input.board refl (brought_answer c.number p.brought)) ≡ n
  same_as e = same_number c c.input.board refl (brought_answer c.number p.brought) ∙ e

  pub end_finished : c.number ≡ 5 → won_on (table_in (end_of r)).foundation ≡ true
  end_finished e = ap (λ (t : Table). won_on t.foundation) end_table ∙ (list_of c p.brought).plays.finishes (same_as e)

  pub end_unfinished : c.number ≡ 1 → won_on (table_in (end_of r)).foundation ≡ false
  end_unfinished e = ap (λ (t : Table). won_on t.foundation) end_table ∙ (list_of c p.brought).plays.unfinished (same_as e)
