-- The calls for lines on paper: which numbers they tell, with a place or without, and their rows of the table of orders.
use mathlib.Core.Path.{◌≡◌, refl, sym, ap, ◌∙◌, subst}
use mathlib.Core.Bool.{Bool, true, false, cond, not, ◌&&◌, ◌||◌, or-true}
use mathlib.Core.List.{List, [], ◌∷◌, ◌++◌}
use Prim.Native.Nat.{ℕ, suc}
use native.Mathlib.Omega.{arith}
use lib.Dec.{eqb, leb}
use lib.ListN.{length}
use Rattle.base.specs.Answer.{Answer, given, refused, unless}
use Rattle.base.proofs.Words.{true_or_not}
use Rattle.board.specs.Table.{Table}
use Rattle.board.specs.Verdict.{Verdict, fine, after}
use Rattle.board.specs.Record.{examined, shown}
use Rattle.board.specs.declared.Board.{Board}
use Rattle.moves.specs.Play.{there, after_move}
use Rattle.moves.specs.Causes.{ruling}
use Rattle.moves.specs.Written.{list_room}
use Rattle.moves.specs.declared.Move.{Move}
use Rattle.replay.specs.Step.{stepped}
use Rattle.replay.specs.Line.{go_on, line_from, records_in, is_line}
use Rattle.notation.specs.Form.{Reading, jots, wrong, line_in}
use Rattle.sense.specs.Meant.{vacant, fitting, origin, count_goes, leaves, sense, meant}
use Rattle.writing.specs.Lines.{text_of, writable_first}
use Rattle.reading.specs.Lines.{ruled, first, read_on, moves_from, read_by, line_read}
use Rattle.sense.specs.Outcome.{Outcome, gives, refuses, refuses_at, checked, most_moves, counted, checked_at}
use Rattle.writing.specs.Asked.{text_room, moves_in, played_through, written_through, write_asked, text_after}
use Rattle.reading.specs.Asked.{read_asked, list_after}
use Rattle.notation.specs.declared.Jot.{Jot}
use Rattle.notation.specs.declared.Jot.TheVariants.{Between, Counted, ToCell, ToHome, FromCell, CellHome}
use Rattle.crossing.specs.Wire.{board_room, board_in}
use Rattle.crossing.specs.Crossing.{Left, left}
use Rattle.crossing.specs.Papers.{line_asked, count_left, with_room, line_read_left, line_written_left}
use Rattle.corbelnib.specs.Calls.{In, Places, read_line, write_line}
use Rattle.demands.specs.Orders.{Test, first_failing, boards, room_for, not_too_long, is_fine, goes_on_paper, order}
use Rattle.demands.specs.Demand1.{is_in, of_moves, hands}
use Rattle.demands.proofs.Refusing.{Refuses, by_test, by_verdict, ruling_refuses, step_refuses, in_moves, first_refuses}
use Rattle.demands.proofs.Ordering.{after-after, after_test, boards_then, Held, numbers, Ruled}

-- ---- which numbers

module _ (ns ps : List ℕ) where
  -- refused with one of the first, or with one of the others and a place
  abbrev pub Stops : {A : Type 0} → Outcome A → Type 0
  Stops (gives x) = Unit {0}
  Stops (refuses n) = is_in n ns ≡ true
  Stops (refuses_at n p) = is_in n ps ≡ true

  module _ {A : Type 0} where
    pub by_checked : (v : Verdict) (o : Outcome A) → Refuses ns v → Stops o → Stops (checked v o)
    by_checked (given u) o r s = s
    by_checked (refused n) o r s = r

    pub by_checked_at : (v : Verdict) (p : ℕ) (o : Outcome A) → Refuses ps v → Stops o → Stops (checked_at v p o)
    by_checked_at (given u) p o r s = s
    by_checked_at (refused n) p o r s = r

-- a written move: 30, 33, 38
sense_refuses : (t : Table) (j : Jot) → Refuses of_moves (sense t j)
sense_refuses t (Between i j) = by (vacant t j) _ _ (by_test of_moves (leb 1 (fitting t i j)) 38 (given _) refl tt)
  where
    by : (b : Bool) (m : Move) (a : Answer Move) → Refuses of_moves a → Refuses of_moves (cond b (given m) a)
    by true m a r = tt
    by false m a r = r
sense_refuses t (Counted i j n) = by_test of_moves (count_goes t i j n) 30 (given _) refl tt
sense_refuses t (ToCell i c) = tt
sense_refuses t (ToHome i) = tt
sense_refuses t (FromCell c j) = tt
sense_refuses t (CellHome c) = tt

meant_refuses : (t : Table) (j : Jot) → Refuses of_moves (meant t j)
unfolding meant
meant_refuses t j = by_test of_moves (leaves j) 30 _ refl (by_test of_moves (leb 1 (length (there t (origin j)))) 33 (sense t j) refl (sense_refuses t j))

-- and then the causes of request (ii)
ruled_refuses : (t : Table) (a : Answer Move) → Refuses of_moves a → Refuses of_moves (ruled t a)
ruled_refuses t (given m) r = by_verdict of_moves (ruling t m) (given m) (ruling_refuses of_moves in_moves t m) tt
ruled_refuses t (refused n) r = r

pub moves_stop : (ns : List ℕ) (js : List Jot) (t : Table) (at : ℕ) → Stops ns of_moves (moves_from t at js)
unfolding moves_from
moves_stop ns [] t at = tt
moves_stop ns (j ∷ js) t at = by (ruled t (meant t j)) (ruled_refuses t (meant t j) (meant_refuses t j)) (λ m. moves_stop ns js (after_move t m) (suc at))
  where
    on : (m : Move) (o : Outcome (List Move)) → Stops ns of_moves o → Stops ns of_moves (first m o)
    on m (gives ms) s = tt
    on m (refuses n) s = s
    on m (refuses_at n p) s = s

    by : (a : Answer Move) → Refuses of_moves a → ((m : Move) → Stops ns of_moves (moves_from (after_move t m) (suc at) js))
        → Stops ns of_moves (read_on at a (λ m. moves_from (after_move t m) (suc at) js))
    by (given m) r s = on m (moves_from (after_move t m) (suc at) js) (s m)
    by (refused n) r s = r

-- with one number more
pub wider : {A : Type 0} (ns ps : List ℕ) (k : ℕ) (o : Outcome A) → Stops ns ps o → Stops ns (k ∷ ps) o
wider ns ps k (gives x) s = tt
wider ns ps k (refuses n) s = s
wider ns ps k (refuses_at n p) s = ap (λ (b : Bool). eqb n k || b) s ∙ or-true (eqb n k)

pub refuses_more : {A : Type 0} (k : ℕ) (ps : List ℕ) (a : Answer A) → Refuses ps a → Refuses (k ∷ ps) a
refuses_more k ps (given x) r = tt
refuses_more k ps (refused n) r = ap (λ (b : Bool). eqb n k || b) r ∙ or-true (eqb n k)

-- a list that is replayed: 0, or the number of a bad move
pub line_refuses : (rs : List (List ℕ)) (b : Board) → Refuses of_moves (line_from b rs).verdict
unfolding line_from
line_refuses [] b = tt
line_refuses (r ∷ rs) b = by (stepped b r) (step_refuses of_moves in_moves b r) (line_refuses rs)
  where
    by : (a : Answer Board) → Refuses of_moves a → ((c : Board) → Refuses of_moves (line_from c rs).verdict) → Refuses of_moves (go_on b a (λ c. line_from c rs)).verdict
    by (given c) h on = on c
    by (refused n) h on = h

-- ---- what comes of each call: the tests of its row, and then what is told with a place or written

abbrev pub read_outcome : List ℕ → List ℕ → ℕ → Outcome (List Move)
read_outcome board text lent = line_asked board (λ b. read_asked b text lent)

abbrev pub write_outcome : List ℕ → List ℕ → ℕ → Outcome (List ℕ)
write_outcome board list lent = line_asked board (λ b. write_asked b list lent)

checked-checked : {A : Type 0} (v w : Verdict) (o : Outcome A) → checked v (checked w o) ≡ checked (after v w) o
checked-checked (given u) w o = refl
checked-checked (refused n) w o = refl

-- a board's tests, then others, then what is left
line_by_lem : {A : Type 0} (bytes : List ℕ) (ts : List Test) (v : Verdict) (o : Outcome A) → v ≡ first_failing ts
    → checked (unless (eqb (length bytes) board_room) 12 fine) (checked (after (examined (board_in bytes)) v) o) ≡ checked (first_failing (boards bytes ++ ts)) o
line_by_lem bytes ts v o e =
    let long = eqb (length bytes) board_room in
    checked-checked (unless long 12 fine) (after (examined (board_in bytes)) v) o
    ∙ ap (λ (w : Verdict). checked w o) (after_test long 12 (after (examined (board_in bytes)) v))
    ∙ ap (λ (w : Verdict). checked (unless long 12 (after (examined (board_in bytes)) w)) o) e ∙ ap (λ (w : Verdict). checked w o) (boards_then bytes ts)

-- what a text that is short enough is read as
abbrev read_rest : Table → Reading → Outcome (List Move)
read_rest t (wrong p) = refuses_at 42 p
read_rest t (jots js) = moves_from t 0 js

read_rest_lem : (t : Table) (r : Reading) → read_by t r ≡ checked (unless (not_too_long r) 31 fine) (read_rest t r)
read_rest_lem t (wrong p) = refl
read_rest_lem t (jots js) = refl

read_rest_stops : (t : Table) (r : Reading) → Stops [] (42 ∷ of_moves) (read_rest t r)
read_rest_stops t (wrong p) = refl
read_rest_stops t (jots js) = wider [] of_moves 42 (moves_from t 0 js) (moves_stop [] js t 0)

read_by_lem : (i : In read_line) (l : Places read_line)
    → read_outcome i.0 i.1 (length l.0) ≡ checked (first_failing (order read_line i l)) (read_rest (shown (board_in i.0)) (line_in i.1))
unfolding read_asked line_read
read_by_lem i l =
    let b = board_in i.0 in
    let room : Verdict = unless (leb list_room (length l.0)) 21 fine in
    let few : Verdict = unless (not_too_long (line_in i.1)) 31 fine in
    let rest = read_rest (shown b) (line_in i.1) in
    ap (λ (o : Outcome (List Move)). checked (unless (eqb (length i.0) board_room) 12 fine) (checked (after (examined b) room) o)) (read_rest_lem (shown b) (line_in i.1))
    ∙ ap (λ (o : Outcome (List Move)). checked (unless (eqb (length i.0) board_room) 12 fine) o)
    (checked-checked (after (examined b) room) few rest ∙ ap (λ (v : Verdict). checked v rest) (after-after (examined b) room few))
    ∙ line_by_lem i.0 (room_for list_room l.0 ++ ((not_too_long (line_in i.1), 31) ∷ [])) (after room few) rest (after_test (leb list_room (length l.0)) 21 few)

-- what a list that is one is written as, with room for it
abbrev write_rest : Board → List ℕ → Outcome (List ℕ)
write_rest b list = played_through (line_from b (records_in list)) (written_through (moves_in list) (gives (text_of (shown b) (moves_in list))))

write_rest_stops : (b : Board) (list : List ℕ) → Stops [] (43 ∷ of_moves) (write_rest b list)
write_rest_stops b list =
    let ps : List ℕ = 43 ∷ of_moves in
    let ms = moves_in list in
    let ending = line_from b (records_in list) in
    by_checked_at [] ps ending.verdict ending.moves _ (refuses_more 43 of_moves ending.verdict (line_refuses (records_in list) b))
    (by_checked_at [] ps (unless (eqb (writable_first ms) (length ms)) 43 fine) (writable_first ms) _ (by_test ps (eqb (writable_first ms) (length ms)) 43 fine refl tt) tt)

-- room is asked for last
room_last : {A : Type 0} (v : Verdict) (p : ℕ) (ok : Bool) (q : ℕ) (wide : Bool) (x : A)
    → checked_at v p (checked_at (unless ok 43 fine) q (checked (unless wide 21 fine) (gives x)))
    ≡ checked (unless (not (is_fine v && ok) || wide) 21 fine) (checked_at v p (checked_at (unless ok 43 fine) q (gives x)))
room_last (refused n) p ok q wide x = refl
room_last (given u) p false q wide x = refl
room_last (given u) p true q true x = refl
room_last (given u) p true q false x = refl

write_by : (i : In write_line) (l : Places write_line)
    → write_outcome i.0 i.1 (length l.0) ≡ checked (first_failing (order write_line i l)) (write_rest (board_in i.0) i.1)
unfolding write_asked
write_by i l =
    let b = board_in i.0 in
    let ms = moves_in i.1 in
    let ending = line_from b (records_in i.1) in
    let all-written = eqb (writable_first ms) (length ms) in
    let line : Verdict = unless (is_line i.1) 31 fine in
    let wide = not (goes_on_paper i.0 i.1) || leb text_room (length l.0) in
    let room : Verdict = unless wide 21 fine in
    let rest = write_rest b i.1 in
    ap (λ (o : Outcome (List ℕ)). checked (unless (eqb (length i.0) board_room) 12 fine) (checked (after (examined b) line) o))
    (room_last ending.verdict ending.moves all-written (writable_first ms) (leb text_room (length l.0)) (text_of (shown b) ms))
    ∙ ap (λ (o : Outcome (List ℕ)). checked (unless (eqb (length i.0) board_room) 12 fine) o)
    (checked-checked (after (examined b) line) room rest ∙ ap (λ (v : Verdict). checked v rest) (after-after (examined b) line room))
    ∙ line_by_lem i.0 ((is_line i.1, 31) ∷ (wide, 21) ∷ []) (after line room) rest (after_test (is_line i.1) 31 room)

-- ---- their rows of the table

module _ {A : Type 0} (ps : List ℕ) (old : List ℕ × ℕ) (room : Outcome (List A) → List ℕ) (same : (n : ℕ) → room (refuses n) ≡ old.0) where
  abbrev leaves_so : Outcome (List A) → Left (List ℕ × ℕ)
  leaves_so o = with_room (room o) (count_left (counted o) old.1)

  paper_held : (v : Verdict) (rest : Outcome (List A)) → Stops [] ps rest → Held (λ n. eqb n 0 || is_in n ps) old v (leaves_so (checked v rest))
  paper_held (refused n) rest s = ap (λ (l : List ℕ). left {A = List ℕ × ℕ} n (l, old.1)) (same n)
  paper_held (given u) (gives l) s = refl
  paper_held (given u) (refuses n) s = true_or_not false s refl
  paper_held (given u) (refuses_at n p) s = ap (λ (b : Bool). eqb n 0 || b) s ∙ or-true (eqb n 0)

pub read_line-ruled : (i : In read_line) (l : Places read_line) → Ruled read_line i l
unfolding line_read_left
read_line-ruled i l =
    let room : Outcome (List Move) → List ℕ = λ o. list_after o l.0 in
    subst (λ (o : Outcome (List Move)). Held (hands read_line) l (first_failing (order read_line i l)) (with_room (list_after o l.0) (count_left (counted o) l.1))) (sym (read_by_lem i l))
    (paper_held (42 ∷ of_moves) l room (λ n. refl) (first_failing (order read_line i l)) (read_rest (shown (board_in i.0)) (line_in i.1)) (read_rest_stops (shown (board_in i.0)) (line_in i.1)))

pub write_line-ruled : (i : In write_line) (l : Places write_line) → Ruled write_line i l
unfolding line_written_left
write_line-ruled i l =
    let room : Outcome (List ℕ) → List ℕ = λ o. text_after o l.0 in
    subst (λ (o : Outcome (List ℕ)). Held (hands write_line) l (first_failing (order write_line i l)) (with_room (text_after o l.0) (count_left (counted o) l.1))) (sym (write_by i l))
    (paper_held (43 ∷ of_moves) l room (λ n. refl) (first_failing (order write_line i l)) (write_rest (board_in i.0) i.1) (write_rest_stops (board_in i.0) i.1))

-- ---- so each stops with a number of its row, or with one that comes with a place

-- the numbers of the rows
abbrev pub read_refusals : List ℕ
read_refusals = numbers (order read_line ([], []) ([], 0))

abbrev pub write_refusals : List ℕ
write_refusals = numbers (order write_line ([], []) ([], 0))

bare_stops : {A : Type 0} (ns ps : List ℕ) (o : Outcome A) → Stops [] ps o → Stops ns ps o
bare_stops ns ps (gives x) s = tt
bare_stops ns ps (refuses n) s = true_or_not false s refl
bare_stops ns ps (refuses_at n p) s = s

pub read_stops : (board text lent : List ℕ) → Stops read_refusals (42 ∷ of_moves) (read_outcome board text (length lent))
read_stops board text lent =
    let i : In read_line = (board, text) in
    let l : Places read_line = (lent, 0) in
    let rest = read_rest (shown (board_in board)) (line_in text) in
    subst (Stops read_refusals (42 ∷ of_moves)) (sym (read_by_lem i l))
    (by_checked read_refusals (42 ∷ of_moves) (first_failing (order read_line i l)) rest (first_refuses (order read_line i l)) (bare_stops read_refusals (42 ∷ of_moves) rest (read_rest_stops (shown (board_in board)) (line_in text))))

pub write_stops : (board list lent : List ℕ) → Stops write_refusals (43 ∷ of_moves) (write_outcome board list (length lent))
write_stops board list lent =
    let i : In write_line = (board, list) in
    let l : Places write_line = (lent, 0) in
    let rest = write_rest (board_in board) list in
    subst (Stops write_refusals (43 ∷ of_moves)) (sym (write_by i l))
    (by_checked write_refusals (43 ∷ of_moves) (first_failing (order write_line i l)) rest (first_refuses (order write_line i l)) (bare_stops write_refusals (43 ∷ of_moves) rest (write_rest_stops (board_in board) list)))

-- ---- a call that is done gave what was asked for; one that is not wrote nothing

pub record Gave {A : Type 0} (o : Outcome A) : Type 0 where
  pub value : A
  pub is : o ≡ gives value

module _ {A : Type 0} (ns ps : List ℕ) (none : is_in 0 ns ≡ false) (nowhere : is_in 0 ps ≡ false) where
  pub zero_gave : (o : Outcome (List A)) (n : ℕ) → Stops ns ps o → (count_left (counted o) n).number ≡ 0 → Gave o
  zero_gave (gives l) n s e = record { value = l; is = refl }
  zero_gave (refuses k) n s e = absurd (true_or_not (is_in 0 ns) (subst (λ (i : ℕ). is_in i ns ≡ true) e s) none)
  zero_gave (refuses_at k p) n s e = absurd (true_or_not (is_in 0 ps) (subst (λ (i : ℕ). is_in i ps ≡ true) e s) nowhere)

module _ {A : Type 0} (room : Outcome (List A) → List ℕ) {old : List ℕ} (bare : (n : ℕ) → room (refuses n) ≡ old) (placed : (n p : ℕ) → room (refuses_at n p) ≡ old) where
  pub not_zero-keeps : (o : Outcome (List A)) (n : ℕ) → ((count_left (counted o) n).number ≡ 0 → ⊥) → room o ≡ old
  not_zero-keeps (gives l) n d = absurd (d refl)
  not_zero-keeps (refuses k) n d = bare k
  not_zero-keeps (refuses_at k p) n d = placed k p

-- a verdict that is not of this number was fine
module _ {A : Type 0} (ns : List ℕ) (k : ℕ) (none : is_in k ns ≡ false) where
  pub passed_on : (v : Verdict) (o : Outcome (List A)) (n : ℕ) → Refuses ns v → (count_left (counted (checked v o)) n).number ≡ k → checked v o ≡ o
  passed_on (given u) o n r e = refl
  passed_on (refused m) o n r e = absurd (true_or_not (is_in k ns) (subst (λ (i : ℕ). is_in i ns ≡ true) e r) none)

-- 42 is told with the place of the first wrong character, and nothing else is 42
pub forty_two : (t : Table) (r : Reading) (n : ℕ) → (count_left (counted (read_by t r)) n).number ≡ 42 → r ≡ wrong (count_left (counted (read_by t r)) n).places
forty_two t (wrong p) n e = refl
forty_two t (jots js) n e = absurd (no (leb (length js) most_moves) e)
  where
    other : (o : Outcome (List Move)) → Stops [] of_moves o → (count_left (counted o) n).number ≡ 42 → ⊥
    other (gives ms) s q = omega arith
    other (refuses k) s q = true_or_not false s refl
    other (refuses_at k p) s q = true_or_not false (subst (λ (i : ℕ). is_in i of_moves ≡ true) q s) refl

    no : (few : Bool) → (count_left (counted (checked (unless few 31 fine) (moves_from t 0 js))) n).number ≡ 42 → ⊥
    no true q = other (moves_from t 0 js) (moves_stop [] js t 0) q
    no false q = omega arith
