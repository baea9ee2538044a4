-- A call of corbelnib_judge: its row of the table of orders, and the call of the search that it is.
use mathlib.Core.Path.{◌≡◌, refl, sym, ap, ◌∙◌, subst}
use mathlib.Core.Bool.{Bool, true, false, cond, ◌||◌}
use mathlib.Core.List.{List, [], ◌∷◌, ◌++◌}
use mathlib.Core.Logic.{inl, inr}
use Prim.Native.Nat.{ℕ}
use borrow.Author.Tests.{leb-true, le-leb, eqb-true}
use lib.Dec.{eqb, leb}
use lib.ListN.{length}
use Rattle.base.specs.Answer.{given, refused, unless}
use Rattle.base.specs.Words.{all}
use Rattle.base.proofs.Answers.{given_by}
use Rattle.board.specs.Verdict.{Verdict, fine}
use Rattle.board.specs.Record.{shown}
use Rattle.board.specs.Inner.{Sized}
use Rattle.solver.specs.Searched.{Outcome, most_pops, accepted, searched_by, answered_with, searched}
use Rattle.moves.specs.Written.{list_room}
use Rattle.solver.specs.Told as solver
use Rattle.solver.proofs.Calls.{judge_answer}
use Rattle.crossing.specs.Wire.{board_room, board_in}
use Rattle.crossing.specs.Crossing.{Left, left}
use Rattle.corbelnib.specs.Judged.{leaves, pointed, judge_left}
use Rattle.crossing.specs.Numbers.{flag, is_answer}
use Rattle.corbelnib.proofs.Calls.{is_answer_lem, call_of}
use Rattle.corbelnib.specs.Calls.{Lent, search_left, In, Places, judge, Call, promise, capacity_in}
use Rattle.demands.specs.Orders.{Test, first_failing, room_for, settings, order}
use Rattle.demands.specs.Demand1.{Tells, GoodSearch}
use Rattle.demands.proofs.Ordering.{boards_then, boards_good, good_boards, passing, Held, not_handed, Ruled, Bare, call_numbered, call_examines}
use Rattle.crossing.proofs.Returning.{sized_in}

-- ---- an answer's number

pub answer_is : (n : ℕ) → is_answer n ≡ true → solver.IsAnswer n
answer_is n e = by (leb n 5) refl
  where
    by : (b : Bool) → leb n 5 ≡ b → solver.IsAnswer n
    by true q = inl (leb-true n 5 q)
    by false q = inr (eqb-true n 23 (ap (λ (b : Bool). b || eqb n 23) (sym q) ∙ e))

-- ---- its row of the table

module _ (q : In judge) (l : Places judge) where
  abbrev rows : List Test
  rows = order judge q l

  -- the search is refused, or answers
  abbrev by : Verdict → Outcome
  by v = searched_by l.nodes l.heap l.keys l.costs l.list v (board_in q.board) q.budget (flag q.partial)

  abbrev leaving : Outcome → Left Lent
  leaving o = search_left (pointed o l.pops l.moves)

  judge_is : promise judge q l ≡ leaving (by (first_failing rows))
  unfolding judge_left searched accepted
  judge_is =
      ap leaving (on (eqb (length q.board) board_room) (accepted (board_in q.board) q.budget (capacity_in l) (length l.list)))
      ∙ ap (λ (v : Verdict). leaving (by v)) (boards_then q.board (settings q.budget (room_for list_room l.list) (capacity_in l)))
    where
      on : (ok : Bool) (v : Verdict) → cond ok (by v) (by (refused 12)) ≡ by (unless ok 12 v)
      on true v = refl
      on false v = refl

  judge_bare : Bare judge q l
  unfolding all
  judge_bare = refl

  -- behind the pointers of a refusal stays what was there
  by_verdict : (v : Verdict) → first_failing rows ≡ v → Held is_answer l v (leaving (by v))
  unfolding answered_with
  by_verdict (given u) e = is_answer_lem _ (judge_answer (shown (board_in q.board)) q.budget (capacity_in l) (flag q.partial))
  by_verdict (refused n) e =
      ap (λ (told : Bool). left {A = Lent} n (record { nodes = l.nodes; heap = l.heap; keys = l.keys; costs = l.costs; list = l.list; pops = cond told 0 l.pops; moves = cond told 0 l.moves }))
      (not_handed is_answer rows judge_bare n e)

  pub judge-ruled : Ruled judge q l
  judge-ruled = subst (Held is_answer l (first_failing rows)) (sym judge_is) (by_verdict (first_failing rows) refl)

-- a search of which no test fails
pub passed_search : (c : Call judge) → first_failing (order judge c.input c.before) ≡ fine → GoodSearch c
passed_search c e =
    let b = boards_good c.input.board (settings c.input.budget (room_for list_room c.before.list) (capacity_in c.before)) e in
    let x = given_by (leb c.input.budget most_pops) 20 _ b.1 in
    let y = given_by (leb list_room (length c.before.list)) 21 _ x.1 in
    let z = given_by (leb 1 (capacity_in c.before)) 22 _ y.1 in
    record {
      board = b.0;
      budget = leb-true c.input.budget most_pops x.0;
      list = leb-true list_room (length c.before.list) y.0;
      root = leb-true 1 (capacity_in c.before) z.0;
    }

module _ (c : Call judge) where
  -- a search with a well-formed board, a budget, a list buffer and a node is answered
  pub good_answered : GoodSearch c → is_answer c.number ≡ true
  good_answered g =
      let ts = settings c.input.budget (room_for list_room c.before.list) (capacity_in c.before) in
      subst (λ (v : Verdict). Tells judge v c.number) (good_boards c.input.board ts g.board ∙ none) (call_numbered c (judge-ruled c.input c.before))
    where
      none : first_failing (settings c.input.budget (room_for list_room c.before.list) (capacity_in c.before)) ≡ fine
      none =
          passing (leb c.input.budget most_pops) 20 (room_for list_room c.before.list ++ ((leb 1 (capacity_in c.before), 22) ∷ [])) (le-leb c.input.budget most_pops g.budget)
          ∙ passing (leb list_room (length c.before.list)) 21 ((leb 1 (capacity_in c.before), 22) ∷ []) (le-leb list_room (length c.before.list) g.list)
          ∙ passing (leb 1 (capacity_in c.before)) 22 [] (le-leb 1 (capacity_in c.before) g.root)

-- ---- the call of the search

-- all that is left, as one outcome
abbrev pub left_all : Left Lent → Outcome
left_all l =
    leaves l.number l.places.pops l.places.moves l.places.nodes l.places.heap l.places.keys l.places.costs l.places.list

module _ (c : Call judge) (bytes : List ℕ) (same : c.input.board ≡ bytes) (a : is_answer c.number ≡ true) where
  pub good_search : GoodSearch c
  good_search = passed_search c (call_examines c (judge-ruled c.input c.before) (judge_bare c.input c.before) a)

  pub whole : length bytes ≡ 432
  whole = ap length (sym same) ∙ good_search.board.long

  pub leaves_all : left_all (left c.number c.after)
      ≡ judge_left c.before.nodes c.before.heap c.before.keys c.before.costs c.before.list c.before.pops c.before.moves bytes c.input.budget c.input.partial
  leaves_all =
      ap left_all c.keeps
      ∙ ap (λ (l : List ℕ). judge_left c.before.nodes c.before.heap c.before.keys c.before.costs c.before.list c.before.pops c.before.moves l c.input.budget c.input.partial) same

  unfoldable pub searching : solver.Call (board_in bytes)
  searching =
      call_of c.before.nodes c.before.heap c.before.keys c.before.costs c.before.list c.before.pops c.before.moves bytes c.input.budget c.input.partial whole leaves_all (answer_is c.number a)

  pub same_number : solver.number searching ≡ c.number
  unfolding searching
  same_number = refl

  pub answered : solver.IsAnswer (solver.number searching)
  answered = subst solver.IsAnswer (sym same_number) (answer_is c.number a)

  pub sized : Sized (board_in bytes)
  sized = sized_in bytes whole
