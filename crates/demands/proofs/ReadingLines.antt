-- Request (iv), reading: the refusals in their order, and the text read move by move.
use mathlib.Core.Path.{◌≡◌, refl, sym, ap, ap₂, ◌∙◌, subst}
use mathlib.Core.Bool.{Bool, true, false}
use mathlib.Core.List.{List, [], ◌∷◌, ◌++◌, append-nil}
use Prim.Native.Nat.{ℕ, suc, ◌+◌, ◌<◌, ◌≤◌}
use native.Mathlib.Omega.{arith}
use borrow.Author.Tests.{lt-leb}
use lib.Dec.{eqb, leb}
use lib.ListN.{length, take, length-append}
use Rattle.base.specs.Answer.{Answer, given, refused, unless}
use Rattle.base.proofs.Words.{true_or_not}
use Rattle.board.specs.Table.{Table}
use Rattle.board.specs.Verdict.{Verdict, fine, after}
use Rattle.board.specs.Record.{examined, shown, board_of}
use Rattle.board.specs.Fair.{Fair}
use Rattle.board.specs.Inner.{Sound}
use Rattle.board.specs.declared.Board.{Board}
use Rattle.board.proofs.Soundness.{sound}
use Rattle.board.proofs.Records.{shown_of_record}
use Rattle.board.proofs.Fair.{fair_laid}
use Rattle.moves.specs.Move.{sayable}
use Rattle.moves.specs.Record.{record_of}
use Rattle.moves.specs.Causes.{ruling}
use Rattle.moves.specs.Written.{list_room, bytes_of}
use Rattle.moves.specs.declared.Move.{Move}
use Rattle.moves.proofs.Saying.{asked_said}
use Rattle.moves.proofs.Ruling.{fine-allowed}
use Rattle.moves.proofs.Writing.{bytes_long}
use Rattle.replay.specs.Step.{played_on, stepped}
use Rattle.replay.specs.Line.{Ending, go_on, line_from, records_in, is_line, continued}
use Rattle.replay.specs.Played.{after_moves, Legal, records_of}
use Rattle.replay.proofs.Lining.{records_append, line-append}
use Rattle.replay.proofs.Stepping.{made_yes, made_no}
use Rattle.replay.proofs.Legal.{legal_fair, records_written, line_legal}
use Rattle.notation.specs.Jot.{line_text, AllWell}
use Rattle.notation.specs.Form.{Reading, jots, wrong, line_in}
use Rattle.sense.specs.Meant.{meant}
use Rattle.reading.specs.Lines.{ruled, moves_from, line_read}
use Rattle.sense.specs.Outcome.{Outcome, gives, refuses, checked, most_moves}
use Rattle.reading.specs.Asked.{read_asked}
use Rattle.notation.specs.declared.Jot.{Jot}
use Rattle.notation.proofs.Forming.{form_forth}
use Rattle.notation.proofs.Stopping.{form_well}
use Rattle.sense.proofs.Meaning.{meant_said}
use Rattle.paper.proofs.Reading.{read_texted}
use Rattle.paper.proofs.Asking.{read_answer}
use Rattle.paper.proofs.Going.{as_many, stops_there, reads_there, text_wrong, text_moves, text_many, answered, bytes_last}
use Rattle.crossing.specs.Wire.{board_room, board_in}
use Rattle.crossing.specs.Crossing.{Left, told, asked}
use Rattle.corbelnib.specs.Calls.{examine, replay, read_line, Call, GoodBoard}
use Rattle.demands.specs.Demand1.{is_in, of_moves}
use Rattle.demands.specs.Demand2.{table_in}
use Rattle.demands.specs.WrittenMoves.{Wrong, Means}
use Rattle.demands.specs.LinesOnPaper.{records_read, InForm, Ready, ComesTo, table_then, PlaysOn}
use Rattle.demands.proofs.Refusing.{Refuses, ruling_refuses, in_moves}
use Rattle.crossing.proofs.Returning.{sized_in}
use Rattle.demands.proofs.Crossing.{good_fine}
use Rattle.demands.proofs.Replaying.{is_line_lem, ends_at, laid_table}
use Rattle.demands.proofs.PaperCalls.{asked_on, asked_gave, read, read_gave, read_done, records_are, read_refused, read_refused_at}
use Rattle.demands.proofs.WrittenMoves.{wrong_meant, means_meant}

-- ---- before the text is looked at

-- the board is refused as corbelnib_examine refuses it
pub bad_board : (r : Call read_line) (x : Call examine) → x.input ≡ r.input.0 → (x.number ≡ 0 → ⊥) → r.number ≡ x.number
unfolding read_asked
bad_board r x same bad =
    read_refused r
    (by (eqb (length r.input.0) board_room) (examined (board_in r.input.0)) (unless (leb list_room (length r.before.0)) 21 fine)
    (line_read (shown (board_in r.input.0)) r.input.1) (λ e. bad (told_same ∙ e)))
    ∙ sym told_same
  where
    told_same : x.number ≡ told (asked r.input.0 examined)
    told_same = ap (λ (l : Left (Unit {0})). l.number) x.keeps ∙ ap (λ (l : List ℕ). told (asked l examined)) same

    by : (whole : Bool) (v w : Verdict) (o : Outcome (List Move)) → (told (unless whole 12 v) ≡ 0 → ⊥)
        → checked (unless whole 12 fine) (checked (after v w) o) ≡ refuses (told (unless whole 12 v))
    by true (given u) w o d = absurd (d refl)
    by true (refused n) w o d = refl
    by false v w o d = refl

-- a board that is fine, as the laws of reading want it
good_sound : {bytes : List ℕ} → GoodBoard bytes → Sound (board_in bytes)
good_sound {bytes} g = sound (board_in bytes) (sized_in bytes g.long) (good_fine g)

pub little_room_lem : (r : Call read_line) → GoodBoard r.input.0 → length r.before.0 < list_room → r.number ≡ 21
unfolding read_asked
little_room_lem r g h =
    let q : read_asked (board_in r.input.0) r.input.1 (length r.before.0) ≡ refuses 21 = rw (good_fine g, lt-leb list_room (length r.before.0) h) in
    read_refused r (asked_on r.input.0 (λ b. read_asked b r.input.1 (length r.before.0)) g.long ∙ q)

-- ---- the text

module _ (r : Call read_line) (ok : Ready r) where
  abbrev table : Table
  table = table_in r.input.0

  ready_read : read r ≡ line_read table r.input.1
  ready_read =
      asked_on r.input.0 (λ b. read_asked b r.input.1 (length r.before.0)) ok.board.long
      ∙ read_answer r.input.1 (length r.before.0) (good_sound ok.board) ok.room

  -- outside the form
  pub no_line : (InForm r.input.1 → ⊥) → r.number ≡ 42
  no_line none = by (line_in r.input.1) refl
    where
      by : (x : Reading) → line_in r.input.1 ≡ x → r.number ≡ 42
      by (jots js) q = absurd (none (record { moves = js; well = form_well r.input.1 q; is = form_forth r.input.1 q }))
      by (wrong p) q = (read_refused_at r (ready_read ∙ text_wrong table r.input.1 q)).0

  pub past_most : (f : InForm r.input.1) → most_moves < length f.moves → r.number ≡ 31
  past_most f h = read_refused r (ready_read ∙ ap (line_read table) (sym f.is) ∙ text_many table f.moves f.well h)

  pub no_moves : r.input.1 ≡ [] → (r.number ≡ 0) × (records_read r ≡ [])
  unfolding line_text moves_from bytes_of
  no_moves e =
      let q : read r ≡ gives [] = ready_read ∙ ap (line_read table) e ∙ text_moves table [] tt (omega arith) in
      (read_done r q, records_are r q)

-- ---- the move that a text comes to

abbrev pair : List ℕ → List ℕ → List ℕ × List ℕ
pair board list = (board, list)

well_first : (ws vs : List Jot) → AllWell (ws ++ vs) → AllWell ws
well_first [] vs a = tt
well_first (w ∷ ws) vs a = (a.0, well_first ws vs a.1)

well_next : (ws : List Jot) (w : Jot) (later : List Jot) → AllWell (ws ++ (w ∷ later)) → AllWell (w ∷ [])
well_next [] w later a = (a.0, tt)
well_next (v ∷ ws) w later a = well_next ws w later a.1

module _ {r : Call read_line} {w : Jot} {later : List Jot} (c : ComesTo r w later) where
  abbrev start : Board
  start = board_in r.input.0

  abbrev begins : Table
  begins = table_in r.input.0

  fair : Fair begins
  fair = c.ready.board.fair

  -- the moves before it
  ms : List Move
  ms = (read_gave c.reads c.done).value

  earlier_read : line_read begins (line_text c.earlier) ≡ gives ms
  unfolding ms
  earlier_read =
      let a = c.reads in
      let g = asked_gave a.input.0 (λ b. read_asked b a.input.1 (length a.before.0)) (read_gave a c.done).is in
      subst (λ (i : List ℕ × List ℕ). line_read (table_in i.0) i.1 ≡ gives (read_gave a c.done).value) c.text
      (answered (board_in a.input.0) a.input.1 (length a.before.0) g.1)

  few_earlier : length c.earlier + suc (length later) ≤ 200
  few_earlier = let l = length-append c.earlier (w ∷ later) in let f = c.few in omega arith

  earlier_moves : moves_from begins 0 c.earlier ≡ gives ms
  earlier_moves =
      let f = few_earlier in
      sym (text_moves begins c.earlier (well_first c.earlier (w ∷ later) c.well) (omega arith)) ∙ earlier_read

  many : length ms ≡ length c.earlier
  many = as_many c.earlier begins 0 ms earlier_moves

  legal : Legal begins ms
  legal = (read_texted begins (line_text c.earlier) fair earlier_read).legal

  -- the table that they leave
  abbrev then : Table
  then = after_moves begins ms

  then_fair : Fair then
  then_fair = legal_fair ms begins fair legal

  records : records_read c.reads ≡ bytes_of ms
  unfolding ms
  records = records_are c.reads (read_gave c.reads c.done).is

  ends : line_from start (records_of ms) ≡ record { verdict = fine; moves = length ms; board = board_of then }
  ends = line_legal ms start (good_sound c.ready.board) legal

  table_then_lem : table_then c ≡ then
  table_then_lem =
      let p = c.plays in
      let same = c.list ∙ ap (pair r.input.0) records in
      let board = ap (λ (i : List ℕ × List ℕ). i.0) same in
      let list = ap (λ (i : List ℕ × List ℕ). i.1) same in
      let f = few_earlier in
      let m = many in
      let e = ends_at p (subst GoodBoard (sym board) c.ready.board) (ap is_line list ∙ is_line_lem ms (omega arith)) c.room
      (ap (λ (i : List ℕ × List ℕ). line_from (board_in i.0) (records_in i.1)) same ∙ ap (line_from start) (records_written ms) ∙ ends) in
      ap (λ (l : Left (List ℕ × ℕ)). table_in (take board_room l.places.0)) e ∙ laid_table then then_fair p.before.0

  -- ---- what is read

  read_on_lem : read r ≡ moves_from begins 0 (c.earlier ++ (w ∷ later))
  read_on_lem =
      ready_read r c.ready ∙ ap (line_read begins) (sym c.is) ∙ text_moves begins (c.earlier ++ (w ∷ later)) c.well c.few

  stops : {n : ℕ} → ruled then (meant then w) ≡ refused n → (r.number ≡ n) × (r.after.1 ≡ length c.earlier)
  stops q = read_refused_at r (read_on_lem ∙ stops_there begins c.earlier earlier_moves w later q)

  pub wrong_move_lem : (n : ℕ) → Wrong (table_then c) w n → (r.number ≡ n) × (r.after.1 ≡ length c.earlier)
  wrong_move_lem n x = stops (ap (ruled then) (wrong_meant then w n (subst (λ (t : Table). Wrong t w n) table_then_lem x)))

  -- ---- its own number, as a replay gives it

  module _ (m : Move) (k : Means (table_then c) w m) (x : Call replay) (p : PlaysOn c m x) where
    is_meant : meant then w ≡ given m
    is_meant = means_meant then w m (subst (λ (t : Table). Means t w m) table_then_lem k)

    said : sayable m ≡ true
    said = (meant_said then w then_fair (well_next c.earlier w later c.well).0 is_meant).said

    is_ruled : {v : Verdict} → ruling then m ≡ v → ruled then (meant then w) ≡ after v (given m)
    is_ruled q = ap (ruled then) is_meant ∙ ap (λ (v : Verdict). after v (given m)) q

    same_list_lem : x.input ≡ (r.input.0, bytes_of ms ++ record_of m)
    same_list_lem = p.input ∙ ap (λ (l : List ℕ). pair r.input.0 (l ++ record_of m)) records

    -- the record is stepped on the board that the others leave
    step_is : {a : Answer Board} → played_on (board_of then) (given m) ≡ a → stepped (board_of then) (record_of m) ≡ a
    unfolding stepped
    step_is q = ap (played_on (board_of then)) (asked_said m said) ∙ q

    one_record : records_in (record_of m) ≡ record_of m ∷ []
    unfolding bytes_of records_of
    one_record = ap records_in (sym (append-nil (record_of m))) ∙ records_written (m ∷ [])

    line_then : {a : Answer Board} → stepped (board_of then) (record_of m) ≡ a
        → line_from (board_in x.input.0) (records_in x.input.1)
        ≡ continued fine (record { verdict = fine; moves = length ms; board = board_of then }) (go_on (board_of then) a (λ b. line_from b []))
    unfolding line_from
    line_then q =
        ap (λ (i : List ℕ × List ℕ). line_from (board_in i.0) (records_in i.1)) same_list_lem
        ∙ ap (line_from start) (records_append (length ms) (bytes_of ms) (record_of m) (bytes_long ms) ∙ ap₂ (λ (a b : List (List ℕ)). a ++ b) (records_written ms) one_record)
        ∙ line-append (records_of ms) (record_of m ∷ []) start
        ∙ ap (λ (e : Ending). continued e.verdict e (line_from e.board (record_of m ∷ []))) ends
        ∙ ap (λ (a : Answer Board). continued fine (record { verdict = fine; moves = length ms; board = board_of then }) (go_on (board_of then) a (λ b. line_from b []))) q

    replayed : {e : Ending} → line_from (board_in x.input.0) (records_in x.input.1) ≡ e → (x.number ≡ told e.verdict) × (x.after.1 ≡ e.moves)
    replayed q =
        let board = ap (λ (i : List ℕ × List ℕ). i.0) same_list_lem in
        let list = ap (λ (i : List ℕ × List ℕ). i.1) same_list_lem ∙ sym (bytes_last ms m) in
        let f = few_earlier in
        let n = many in
        let l = length-append ms (m ∷ []) in
        let e = ends_at x (subst GoodBoard (sym board) c.ready.board) (ap is_line list ∙ is_line_lem (ms ++ (m ∷ [])) (omega arith)) p.room q in
        (ap (λ (y : Left (List ℕ × ℕ)). y.number) e, ap (λ (y : Left (List ℕ × ℕ)). y.places.1) e)

    shown_then : shown (board_of then) ≡ then
    shown_then = shown_of_record then (fair_laid then then_fair)

    ruled-there : {v : Verdict} → ruling then m ≡ v → ruling (shown (board_of then)) m ≡ v
    ruled-there q = ap (λ (t : Table). ruling t m) shown_then ∙ q

    -- refused there as here
    refused_so : {n : ℕ} → ruling then m ≡ refused n → (x.number ≡ n) × (x.after.1 ≡ length ms)
    unfolding line_from
    refused_so q =
        let e = replayed (line_then (step_is (made_no (board_of then) m (ruled-there q)))) in
        (e.0, e.1 ∙ (let z : length ms + 0 ≡ length ms = omega arith in z))

    allowed_so : ruling then m ≡ fine → x.number ≡ 0
    unfolding line_from
    allowed_so q = (replayed (line_then (step_is (made_yes (board_of then) m (fine-allowed (shown (board_of then)) m (ruled-there q)))))).0

    pub bad_move_lem : is_in x.number of_moves ≡ true → (r.number ≡ x.number) × (r.after.1 ≡ x.after.1)
    bad_move_lem bad = by (ruling then m) refl
      where
        by : (v : Verdict) → ruling then m ≡ v → (r.number ≡ x.number) × (r.after.1 ≡ x.after.1)
        by (given u) q = true_or_not (is_in x.number of_moves) bad (ap (λ (n : ℕ). is_in n of_moves) (allowed_so q))
        by (refused n) q =
            let here = stops (is_ruled q) in
            let there = refused_so q in
            (here.0 ∙ sym there.0, here.1 ∙ sym many ∙ sym there.1)

    pub one_more_lem : later ≡ [] → x.number ≡ 0 → (r.number ≡ 0) × (records_read r ≡ x.input.1)
    one_more_lem last done = by (ruling then m) refl (ruling_refuses of_moves in_moves then m)
      where
        by : (v : Verdict) → ruling then m ≡ v → Refuses of_moves v → (r.number ≡ 0) × (records_read r ≡ x.input.1)
        by (given u) q h =
            let e = read_on_lem ∙ ap (λ (l : List Jot). moves_from begins 0 (c.earlier ++ (w ∷ l))) last ∙ reads_there begins c.earlier earlier_moves w (is_ruled q) in
            (read_done r e, records_are r e ∙ bytes_last ms m ∙ sym (ap (λ (i : List ℕ × List ℕ). i.1) same_list_lem))
        by (refused n) q h =
            let e : n ≡ 0 = sym (refused_so q).0 ∙ done in
            true_or_not (is_in 0 of_moves) (subst (λ (k : ℕ). is_in k of_moves ≡ true) e h) refl
