-- Request (ii) holds: a number is given exactly when its cause holds and none earlier does.
use mathlib.Core.Path.{◌≡◌, refl, sym, ap, ap₂, ◌∙◌, subst}
use mathlib.Core.Bool.{Bool, true, false}
use mathlib.Core.List.{List, [], ◌∷◌, ◌++◌}
use Prim.Native.Nat.{ℕ, zero, suc, ◌*◌, ◌/◌, ◌%◌, ◌<◌, ◌≤◌}
use native.Mathlib.Omega.{arith}
use borrow.Author.Tests.{leb-true, le-leb, eqb-true}
use lib.Dec.{eqb, leb}
use lib.IntN.{ℤ}
use lib.ListN.{length, get_or, take, drop, take-append-drop}
use lib.Seq.{length-take-le, take_at}
use Rattle.base.specs.Answer.{Answer, given, refused, unless}
use Rattle.base.specs.Put.{over}
use Rattle.base.proofs.Answers.{given_by}
use Rattle.base.proofs.Words.{first, true_or_not, length-listed, get_or-listed}
use Rattle.board.specs.Verdict.{Verdict, fine, after}
use Rattle.board.specs.Record.{shown}
use Rattle.board.specs.Inner.{Sound}
use Rattle.board.specs.declared.Board.{Board}
use Rattle.board.proofs.Soundness.{sound, sound_sized}
use Rattle.moves.specs.Record.{possible, move_of, move_asked}
use Rattle.moves.specs.Causes.{Cause, own_column, source_empty, too_many, other_card, over_limit, no_run, no_fit, cell_full, not_next, cause_number, ruling}
use Rattle.moves.specs.Written.{list_room}
use Rattle.moves.proofs.Ruling.{first-ruled, ruled-first}
use Rattle.replay.specs.Step.{stepped, move_made}
use Rattle.replay.specs.Line.{Ending, one_more, go_on, line_from, records_in, is_line}
use Rattle.replay.proofs.Causes.{record_impossible, record_given, record_only, bad_place, bad_record}
use Rattle.replay.proofs.Keeping.{line-keeps}
use Rattle.replay.proofs.Lining.{records_append}
use Rattle.replay.proofs.Replaying.{a_line}
use Rattle.priority.specs.Priority.{priority_on}
use Rattle.priority.specs.Asked.{priority_by, priority_asked}
use Rattle.crossing.specs.Wire.{board_room, board_in, bytes_of}
use Rattle.crossing.specs.Crossing.{Left, left, told, crossed}
use Rattle.crossing.specs.Boards.{board_left, move_left, line_left, replay_left}
use Rattle.crossing.specs.Values.{value_left, priority_left}
use Rattle.crossing.proofs.Handing.{line_yes}
use Rattle.crossing.proofs.Returning.{bytes_long, board_back, sized_in}
use Rattle.corbelnib.specs.Calls.{Entry, examine, move, replay, priority, Call, GoodBoard}
use Rattle.demands.specs.Orders.{Test, first_failing, boards, room_for, one_move, order}
use Rattle.demands.specs.Demand1.{is_in, of_moves, Tells}
use Rattle.demands.specs.Demand2.{table_in, end_of}
use Rattle.demands.specs.WhyRefused.{Says, record_at, UpTo, EndsThere, WhyRefused}
use Rattle.demands.proofs.Crossing.{good_asked, good_fine}
use Rattle.demands.proofs.Ordering.{joined, boards_good, good_boards}
use Rattle.demands.proofs.Replaying.{over_first}
use Rattle.demands.proofs.Demand1.{bad_move_lem, demand1}

-- no cause has a number as small as those of what is done, or of too little room
large : (c : Cause) → 30 ≤ cause_number c
large own_column = omega arith
large source_empty = omega arith
large too_many = omega arith
large other_card = omega arith
large over_limit = omega arith
large no_run = omega arith
large no_fit = omega arith
large cell_full = omega arith
large not_next = omega arith

-- a number that is the refusal of the record, and comes from nothing else, says why
says : {number : ℕ} (b : Board) (bytes : List ℕ) → ((n : ℕ) → stepped b bytes ≡ refused n → number ≡ n) → (30 ≤ number → stepped b bytes ≡ refused number)
    → Says number (shown b) bytes
says {number} b bytes to back =
    record {
      impossible = λ e. to 30 (record_impossible b bytes e);
      gives = λ ok w f. to (cause_number w) (record_given b bytes ok (first-ruled (shown b) (move_of bytes) f));
      only = λ ok w e.
          let l = large w in
          ruled-first (shown b) (move_of bytes) (record_only b bytes ok (back (omega arith) ∙ ap refused e));
    }

-- ---- one move

-- with a board to hand over, only too little room is refused
given_small : (x : Board) (room : List ℕ) → (board_left (given x) room).number ≤ 21
unfolding board_left
given_small x room = by (leb board_room (length room))
  where
    by : (ok : Bool) → (crossed (unless ok 21 (given x)) room (λ b. left 0 (over (bytes_of b) room))).number ≤ 21
    by true = omega arith
    by false = omega arith

module _ (c : Call move) (good : GoodBoard c.input.0) where
  abbrev step : Answer Board
  step = stepped (board_in c.input.0) c.input.1

  move_number : {a : Answer Board} → step ≡ a → c.number ≡ (board_left a c.before).number
  unfolding move_left move_made
  move_number e =
      ap (λ (l : Left (List ℕ)). l.number)
      (c.keeps ∙ ap (λ (x : Answer Board). board_left x c.before) (good_asked (λ b. stepped b c.input.1) good ∙ e))

  move_says : Says c.number (table_in c.input.0) c.input.1
  unfolding board_left
  move_says = says (board_in c.input.0) c.input.1 (λ n e. move_number e) (λ h. by step refl h)
    where
      by : (a : Answer Board) → step ≡ a → 30 ≤ c.number → step ≡ refused c.number
      by (given x) e h = let n = move_number e in let s = given_small x c.before in absurd (let w : ⊥ = omega arith in w)
      by (refused n) e h = e ∙ ap refused (sym (move_number e))

-- ---- the priority of a move

module _ (b : Board) (bytes : List ℕ) where
  abbrev rated : Answer ℤ
  rated = priority_by (shown b) (move_asked bytes)

  -- it is refused as the move is
  rated_as : {n : ℕ} → stepped b bytes ≡ refused n → rated ≡ refused n
  unfolding move_asked
  rated_as {n} e = by (possible bytes) refl
    where
      by : (ok : Bool) → possible bytes ≡ ok → priority_by (shown b) (unless ok 30 (given (move_of bytes))) ≡ refused n
      by true q = ap (λ (v : Verdict). after v (given (priority_on (shown b) (move_of bytes)))) (record_only b bytes q e)
      by false q = let r = sym (record_impossible b bytes q) ∙ e in let same : 30 ≡ n = cc in ap refused same

  as_rated : {n : ℕ} → rated ≡ refused n → stepped b bytes ≡ refused n
  unfolding move_asked
  as_rated {n} e = by (possible bytes) refl e
    where
      refuses : (v : Verdict) → after v (given (priority_on (shown b) (move_of bytes))) ≡ refused n → v ≡ refused n
      refuses (given u) q = let z : ◌≡◌ {A = ℕ} 0 1 = cc in absurd (let w : ⊥ = omega arith in w)
      refuses (refused k) q = let same : k ≡ n = cc in ap refused same

      by : (ok : Bool) → possible bytes ≡ ok → priority_by (shown b) (unless ok 30 (given (move_of bytes))) ≡ refused n → stepped b bytes ≡ refused n
      by true q e = record_given b bytes q (refuses (ruling (shown b) (move_of bytes)) e)
      by false q e = let same : 30 ≡ n = cc in record_impossible b bytes q ∙ ap refused same

module _ (c : Call priority) (good : GoodBoard c.input.0) where
  abbrev value : Answer ℤ
  value = priority_by (shown (board_in c.input.0)) (move_asked c.input.1)

  priority_number : {a : Answer ℤ} → value ≡ a → c.number ≡ (value_left a c.before).number
  unfolding priority_left priority_asked
  priority_number e =
      ap (λ (l : Left ℤ). l.number)
      (c.keeps ∙ ap (λ (x : Answer ℤ). value_left x c.before) (good_asked (λ b. priority_by (shown b) (move_asked c.input.1)) good ∙ e))

  priority_says : Says c.number (table_in c.input.0) c.input.1
  priority_says =
      says (board_in c.input.0) c.input.1 (λ n e. priority_number (rated_as (board_in c.input.0) c.input.1 e))
      (λ h. as_rated (board_in c.input.0) c.input.1 (by value refl h))
    where
      by : (a : Answer ℤ) → value ≡ a → 30 ≤ c.number → value ≡ refused c.number
      by (given x) e h = let n = priority_number e in absurd (let w : ⊥ = omega arith in w)
      by (refused n) e h = e ∙ ap refused (sym (priority_number e))

-- ---- a list of moves

-- a replay of which no test fails hands back where the line ended
module _ (c : Call replay) (none : first_failing (order replay c.input c.before) ≡ fine) where
  abbrev list : List ℕ
  list = c.input.1

  abbrev ending : Ending
  ending = line_from (board_in c.input.0) (records_in list)

  abbrev tests : List Test
  tests = (is_line list, 31) ∷ room_for board_room c.before.0

  good : GoodBoard c.input.0
  good = (boards_good c.input.0 tests none).0

  is_line_lem : is_line list ≡ true
  is_line_lem = (given_by (is_line list) 31 _ (boards_good c.input.0 tests none).1).0

  wide : board_room ≤ length c.before.0
  wide =
      leb-true board_room (length c.before.0)
      (given_by (leb board_room (length c.before.0)) 21 fine (given_by (is_line list) 31 _ (boards_good c.input.0 tests none).1).1).0

  handed : left c.number c.after ≡ left {A = List ℕ × ℕ} (told ending.verdict) (over (bytes_of ending.board) c.before.0, ending.moves)
  unfolding replay_left
  handed =
      c.keeps
      ∙ ap (λ (a : Answer Ending). line_left a c.before.0 c.before.1)
      (good_asked (λ b. unless (is_line list) 31 (given (line_from b (records_in list)))) good ∙ ap (λ (ok : Bool). unless ok 31 (given ending)) is_line_lem)
      ∙ sym (line_yes ending c.before.0 c.before.1 wide)

  module _ (bytes : (k : ℕ) → get_or list k 0 ≤ 255) where
    sound_end : Sound ending.board
    sound_end =
        (line-keeps (length list / 5) list refl bytes (board_in c.input.0) (sound (board_in c.input.0) (sized_in c.input.0 good.long) (good_fine good))).sound

    end_bytes : end_of c ≡ bytes_of ending.board
    end_bytes =
        ap (λ (l : Left (List ℕ × ℕ)). take board_room l.places.0) handed
        ∙ over_first (bytes_of ending.board) c.before.0 board_room (bytes_long ending.board (sound_sized sound_end))

    end_board : board_in (end_of c) ≡ ending.board
    end_board = ap board_in end_bytes ∙ board_back ending.board (sound_sized sound_end)

-- all its moves were played
abbrev ended : ℕ → Board → Ending
ended n b = record { verdict = fine; moves = n; board = b }

-- the records before the place at which a line is stopped
line_before : {n : ℕ} (rs : List (List ℕ)) (b : Board) → (line_from b rs).verdict ≡ refused n
    → line_from b (take (line_from b rs).moves rs) ≡ ended (line_from b rs).moves (line_from b rs).board
unfolding line_from
line_before [] b e = let z : ◌≡◌ {A = ℕ} 0 1 = cc in absurd (let w : ⊥ = omega arith in w)
line_before {n} (r ∷ rs) b e = by (stepped b r) refl (line_before rs) e
  where
    by : (a : Answer Board) → stepped b r ≡ a
        → ((c : Board) → (line_from c rs).verdict ≡ refused n → line_from c (take (line_from c rs).moves rs) ≡ ended (line_from c rs).moves (line_from c rs).board)
        → (go_on b a (λ c. line_from c rs)).verdict ≡ refused n
        → line_from b (take (go_on b a (λ c. line_from c rs)).moves (r ∷ rs))
        ≡ ended (go_on b a (λ c. line_from c rs)).moves (go_on b a (λ c. line_from c rs)).board
    by (given c) q on e = ap (λ (a : Answer Board). go_on b a (λ d. line_from d (take (line_from c rs).moves rs))) q ∙ ap one_more (on c e)
    by (refused k) q on e = refl

-- ---- the first records of some bytes

records_many : (l : List ℕ) → length (records_in l) ≡ length l / 5
unfolding records_in
records_many l = length-listed (λ k. take 5 (drop (k * 5) l)) (length l / 5)

line_short : (l : List ℕ) → is_line l ≡ true → length l ≤ list_room
unfolding is_line
line_short l e = leb-true (length l) list_room (first (leb (length l) list_room) (eqb (length l % 5) 0) e)

bytes_take : (n : ℕ) (l : List ℕ) → ((k : ℕ) → get_or l k 0 ≤ 255) → (k : ℕ) → get_or (take n l) k 0 ≤ 255
bytes_take zero l h k = omega arith
bytes_take (suc n) [] h k = omega arith
bytes_take (suc n) (x ∷ l) h zero = h zero
bytes_take (suc n) (x ∷ l) h (suc k) = bytes_take n l (λ j. h (suc j)) k

records_take : (k : ℕ) (l : List ℕ) → k * 5 ≤ length l → records_in (take (k * 5) l) ≡ take k (records_in l)
records_take k l h =
    sym (ap (take k) (ap records_in (sym (take-append-drop (k * 5) l)) ∙ records_append k (take (k * 5) l) (drop (k * 5) l) long)
    ∙ take_at (records_in (take (k * 5) l)) (records_in (drop (k * 5) l)) k many)
  where
    long : length (take (k * 5) l) ≡ k * 5
    long = length-take-le (k * 5) l h

    many : length (records_in (take (k * 5) l)) ≡ k
    many = records_many (take (k * 5) l) ∙ ap (λ (n : ℕ). n / 5) long ∙ (let e : k * 5 / 5 ≡ k = omega arith in e)

module _ (c : Call replay) (bad : is_in c.number of_moves ≡ true) where
  passed : first_failing (order replay c.input c.before) ≡ fine
  passed = demand1.examines c (bad_move_lem c.number bad)

  abbrev rs : List (List ℕ)
  rs = records_in c.input.1

  abbrev start : Board
  start = board_in c.input.0

  -- the line was stopped
  stopped-there : (line_from start rs).verdict ≡ refused c.number
  stopped-there = by (line_from start rs).verdict refl (ap (λ (l : Left (List ℕ × ℕ)). l.number) (handed c passed))
    where
      by : (v : Verdict) → (line_from start rs).verdict ≡ v → c.number ≡ told v → v ≡ refused c.number
      by (given u) q e = true_or_not false (ap (λ (n : ℕ). is_in n of_moves) (sym e) ∙ bad) refl
      by (refused n) q e = ap refused (sym e)

  place_is : c.after.1 ≡ (line_from start rs).moves
  place_is = ap (λ (l : Left (List ℕ × ℕ)). l.places.1) (handed c passed)

  -- there is a record at the place
  within : c.after.1 < length c.input.1 / 5
  within =
      let h = bad_place rs start stopped-there in
      let l = records_many c.input.1 in
      let p = place_is in
      omega arith

  module _ (bytes : (k : ℕ) → get_or c.input.1 k 0 ≤ 255) where
    the_record : record_at c ≡ get_or rs (line_from start rs).moves []
    unfolding records_in
    the_record =
        ap (λ (k : ℕ). take 5 (drop (k * 5) c.input.1)) place_is
        ∙ sym (get_or-listed (λ k. take 5 (drop (k * 5) c.input.1)) (length c.input.1 / 5) (line_from start rs).moves []
        (let h = within in let p = place_is in omega arith))

    refused_there : stepped (board_in (end_of c)) (record_at c) ≡ refused c.number
    refused_there = ap₂ stepped (end_board c passed bytes) the_record ∙ bad_record rs start stopped-there

    replay_says : Says c.number (table_in (end_of c)) (record_at c)
    replay_says =
        says (board_in (end_of c)) (record_at c) (λ n e. let q = sym refused_there ∙ e in let same : c.number ≡ n = cc in same) (λ h. refused_there)

    -- ---- the records before the place, replayed

    module _ (d : Call replay) (u : UpTo c d) where
      fewer : c.after.1 * 5 ≤ length c.input.1
      fewer = let h = within in omega arith

      d_long : length d.input.1 ≡ c.after.1 * 5
      d_long = ap length u.list ∙ length-take-le (c.after.1 * 5) c.input.1 fewer

      d_passed : first_failing (order replay d.input d.before) ≡ fine
      d_passed =
          good_boards d.input.0 ((is_line d.input.1, 31) ∷ room_for board_room d.before.0) (subst GoodBoard (sym u.board) (good c passed))
          ∙ ap₂ (λ (line room : Bool). unless line 31 (unless room 21 fine)) d_line (le-leb board_room (length d.before.0) u.room)
        where
          d_line : is_line d.input.1 ≡ true
          d_line = let l = line_short c.input.1 (is_line_lem c passed) in let e = d_long in let f = fewer in a_line d.input.1 (omega arith) (omega arith)

      d_ending : ending d d_passed ≡ ended c.after.1 (ending c passed).board
      d_ending =
          ap₂ (λ (b : Board) (l : List ℕ). line_from b (records_in l)) (ap board_in u.board) u.list
          ∙ ap (line_from start) (records_take c.after.1 c.input.1 fewer)
          ∙ ap (λ (k : ℕ). line_from start (take k rs)) place_is
          ∙ line_before rs start stopped-there
          ∙ ap (λ (k : ℕ). ended k (line_from start rs).board) (sym place_is)

      ends_there : EndsThere c d
      ends_there =
          record {
            done = ap (λ (l : Left (List ℕ × ℕ)). l.number) (handed d d_passed) ∙ ap (λ (e : Ending). told e.verdict) d_ending;
            played = ap (λ (l : Left (List ℕ × ℕ)). l.places.1) (handed d d_passed) ∙ ap (λ (e : Ending). e.moves) d_ending;
            board = end_bytes d d_passed d_bytes ∙ ap (λ (e : Ending). bytes_of e.board) d_ending ∙ sym (end_bytes c passed bytes);
          }
        where
          d_bytes : (k : ℕ) → get_or d.input.1 k 0 ≤ 255
          d_bytes k = subst (λ (l : List ℕ). get_or l k 0 ≤ 255) (sym u.list) (bytes_take (c.after.1 * 5) c.input.1 bytes k)

-- ---- the board's own refusals come first

module _ {e : Entry} (c : Call e) (bytes : List ℕ) (ts : List Test) (same : order e c.input c.before ≡ boards bytes ++ ts) (x : Call examine) (there : x.input ≡ bytes)
    (no : x.number ≡ 0 → ⊥) where
  board_first_lem : c.number ≡ x.number
  board_first_lem = by (first_failing (boards bytes)) refl (subst (λ (b : List ℕ). Tells examine (first_failing (boards b)) x.number) there (demand1.numbered x))
    where
      by : (v : Verdict) → first_failing (boards bytes) ≡ v → Tells examine v x.number → c.number ≡ x.number
      by (given u) q t = absurd (no (eqb-true x.number 0 t))
      by (refused n) q t =
          subst (λ (v : Verdict). Tells e v c.number) (ap first_failing same ∙ joined (boards bytes) ts ∙ ap (λ (v : Verdict). after v (first_failing ts)) q) (demand1.numbered c)
          ∙ sym t

pub why_refused : WhyRefused
why_refused =
    record {
      one = move_says;
      preferred = priority_says;
      list = λ c bytes bad. replay_says c bad bytes;
      before = λ c d bytes bad u. ends_there c bad bytes d u;
      board_first = λ c x e no.
          board_first_lem c c.input.0 (one_move (shown (board_in c.input.0)) c.input.1 ++ room_for board_room c.before) refl x e no;
      board_preferred = λ c x e no. board_first_lem c c.input.0 (one_move (shown (board_in c.input.0)) c.input.1) refl x e no;
    }
