-- Demand 3 holds.
use mathlib.Core.Path.{◌≡◌, refl, sym, ap, ap₂, ◌∙◌, subst}
use mathlib.Core.Bool.{Bool, true, false, ◌||◌}
use mathlib.Core.List.{List}
use mathlib.Core.Logic.{◌⊎◌, inl, inr}
use Prim.Native.Nat.{ℕ, ◌≤◌}
use native.Mathlib.Omega.{arith}
use borrow.Author.Tests.{le-leb, eqb-true}
use lib.Dec.{eqb}
use lib.IntN.{ℤ}
use lib.ListN.{length}
use lib.Signed.{le_z}
use Rattle.base.proofs.Words.{not_so}
use Rattle.board.specs.Table.{Table}
use Rattle.moves.specs.declared.Move.{Move}
use Rattle.moves.specs.Written.{bytes_of}
use Rattle.features.specs.Features.{features_of}
use Rattle.score.specs.Scores.{progress}
use Rattle.search.specs.Freecell.{freecell, judge as search-of}
use Rattle.search.specs.Solve.{Answer}
use Rattle.search.specs.Claims.{brings_list, is_best}
use Rattle.search.specs.Played.{final_score}
use Rattle.solver.specs.Told as solver
use Rattle.finish.specs.Said.{moves_of}
use Rattle.solver.proofs.Calls.{answered-accepted}
use Rattle.solver.proofs.Calls as calls
use Rattle.solver.proofs.Masters as masters
use Rattle.crossing.specs.Wire.{board_in}
use Rattle.crossing.specs.Numbers.{flag, is_answer}
use Rattle.corbelnib.specs.Calls.{judge, Call, GoodBoard, capacity_in}
use Rattle.demands.specs.Demand2.{table_in, answer_to, handed}
use Rattle.demands.specs.Demand3.{is_won, is_exhausted, is_best_progress, Accepted, SameBoard, SameList, SameAnswer, NoLess, SameSettings, FinalScore, score_of, Demand3}
use Rattle.demands.proofs.Searching.{good_search, good_answered, searching, same_number, answered, sized}
use Rattle.demands.proofs.Replaying.{brought_answer, list_of, end_good, end_table}
use Rattle.demands.proofs.Demand2.{score_of_lem, answers_as}

-- ---- what the names say

won_is : (n : ℕ) → is_won n ≡ true → n ≡ 0
won_is n e = eqb-true n 0 e

one_or : (n a b : ℕ) → (eqb n a || eqb n b) ≡ true → (n ≡ a) ⊎ (n ≡ b)
one_or n a b e = by (eqb n a) refl e
  where
    by : (t : Bool) → eqb n a ≡ t → (t || eqb n b) ≡ true → (n ≡ a) ⊎ (n ≡ b)
    by true q h = inl (eqb-true n a q)
    by false q h = inr (eqb-true n b h)

fixed_is : (n : ℕ) → (is_won n || is_exhausted n) ≡ true → (n ≡ 0) ⊎ ((n ≡ 2) ⊎ (n ≡ 4))
fixed_is n e = by (is_won n) refl e
  where
    by : (t : Bool) → is_won n ≡ t → (t || is_exhausted n) ≡ true → (n ≡ 0) ⊎ ((n ≡ 2) ⊎ (n ≡ 4))
    by true q h = inl (won_is n q)
    by false q h = inr (one_or n 2 4 h)

small_answer : (n : ℕ) → n ≤ 5 → is_answer n ≡ true
small_answer n h = ap (λ (b : Bool). b || eqb n 23) (le-leb n 5 h)

won_answer : (n : ℕ) → is_won n ≡ true → is_answer n ≡ true
won_answer n e = small_answer n (let z = won_is n e in omega arith)

at_most_5 : (n : ℕ) → (n ≡ 0) ⊎ ((n ≡ 2) ⊎ (n ≡ 4)) → n ≤ 5
at_most_5 n (inl e) = omega arith
at_most_5 n (inr (inl e)) = omega arith
at_most_5 n (inr (inr e)) = omega arith

best_is : (n : ℕ) → is_best_progress n ≡ true → is_best n
best_is n e = by (eqb n 1 || eqb n 5) refl e
  where
    by : (t : Bool) → (eqb n 1 || eqb n 5) ≡ t → (t || eqb n 2) ≡ true → is_best n
    by true q h = inl (one_or n 1 5 q)
    by false q h = inr (eqb-true n 2 h)

-- ---- two calls as two calls of the search, on the second one's board

module _ (x y : Call judge) (same : SameBoard x y) (a : is_answer x.number ≡ true) (d : is_answer y.number ≡ true) where
  abbrev pub one : solver.Call (board_in y.input.board)
  one = searching x y.input.board same a

  abbrev pub other : solver.Call (board_in y.input.board)
  other = searching y y.input.board refl d

  pub list_same : solver.SameList one other → SameList x y
  unfolding searching
  list_same s = record { moves = s.many; bytes = s.bytes }

  answer_same : solver.SameAnswer one other → SameAnswer x y
  unfolding searching
  answer_same s =
      record {
        number = sym (same_number x y.input.board same a) ∙ s.number ∙ same_number y y.input.board refl d;
        pops = s.pops;
        list = list_same s.list;
      }

  pub number_one : (P : ℕ → Type 0) → P x.number → P (solver.number one)
  number_one P p = subst P (sym (same_number x y.input.board same a)) p

  number_other : (P : ℕ → Type 0) → P y.number → P (solver.number other)
  number_other P p = subst P (sym (same_number y y.input.board refl d)) p

  pub accepted_other : solver.Accepted other
  accepted_other = answered-accepted other (answered y y.input.board refl d)

  pub less : NoLess x y → solver.NoLarger one other
  unfolding searching
  less n = record { budget = n.budget; room = n.room; flag = n.flag }

one_list_lem : (x y : Call judge) → SameBoard x y → is_won x.number ≡ true → is_won y.number ≡ true → SameList x y
one_list_lem x y same e f =
    let a = won_answer x.number e in
    let d = won_answer y.number f in
    list_same x y same a d
    (masters.T2_list (one x y same a d) (other x y same a d)
    (number_one x y same a d (λ n. n ≡ 0) (won_is x.number e)) (number_other x y same a d (λ n. n ≡ 0) (won_is y.number f)))

not_both_lem : (x y : Call judge) → SameBoard x y → is_won x.number ≡ true → is_exhausted y.number ≡ false
not_both_lem x y same e =
    not_so (is_exhausted y.number)
    (λ f.
    let a = won_answer x.number e in
    let ends = one_or y.number 2 4 f in
    let d = small_answer y.number (at_most_5 y.number (inr ends)) in
    masters.T2_apart (one x y same a d) (other x y same a d)
    (number_one x y same a d (λ n. n ≡ 0) (won_is x.number e)) (number_other x y same a d (λ n. (n ≡ 2) ⊎ (n ≡ 4)) ends))

stays_so : (x y : Call judge) → NoLess x y → Accepted y → (is_won x.number || is_exhausted x.number) ≡ true → SameAnswer x y
stays_so x y n d e =
    let ends = fixed_is x.number e in
    let a = small_answer x.number (at_most_5 x.number ends) in
    let same = n.board in
    answer_same x y same a d
    (masters.T3_stays (one x y same a d) (other x y same a d) (less x y same a d n) (accepted_other x y same a d)
    (number_one x y same a d (λ k. (k ≡ 0) ⊎ ((k ≡ 2) ⊎ (k ≡ 4))) ends))

accepts_more : (x y : Call judge) → NoLess x y → Accepted x → y.input.budget ≤ 1000000 → 1000 ≤ length y.before.list → Accepted y
accepts_more x y n a h k =
    let g = good_search x x.input.board refl a in
    let one = g.root in
    let more = n.room in
    good_answered y (record { board = subst GoodBoard n.board g.board; budget = h; list = k; root = omega arith })

-- ---- the final score is the progress score of the table after the list

module _ (c : Call judge) (s : FinalScore c) where
  abbrev brought : brings_list c.number ≡ true
  brought = s.replays.brought

  score_is : score_of s ≡ final_score (table_in c.input.board) (list_of c brought).moves
  unfolding final_score
  score_is =
      let good = subst GoodBoard (sym s.there) (end_good c s.replayed s.replays) in
      ap (λ (p : ℤ × ℤ). p.1) (score_of_lem s.scored good).1
      ∙ ap (λ (l : List ℕ). progress (features_of (table_in l))) s.there
      ∙ ap (λ (t : Table). progress (features_of t)) (end_table c s.replayed s.replays)

-- whatever list the bytes of a call say, it is one list
module _ (x y : Call judge) (same : SameBoard x y) (s : FinalScore x) where
  abbrev here : is_answer x.number ≡ true
  here = brought_answer x.number s.replays.brought

  score_there : (l : solver.HandsOver (searching x y.input.board same here)) → score_of s ≡ final_score (table_in y.input.board) l.moves
  unfolding searching
  score_there l =
      let first = list_of x s.replays.brought in
      score_is x s
      ∙ ap₂ (λ (bytes : List ℕ) (ms : List Move). final_score (table_in bytes) ms) same
      (calls.one_list_lem first.moves l.moves (sym first.many ∙ l.many) (sym first.bytes ∙ l.bytes))

never_lower : (x y : Call judge) → NoLess x y → is_best_progress x.number ≡ true → is_best_progress y.number ≡ true
    → (s : FinalScore x) (t : FinalScore y) → le_z (score_of s) (score_of t) ≡ true
never_lower x y n e f s t =
    let same = n.board in
    let a = brought_answer x.number s.replays.brought in
    let d = brought_answer y.number t.replays.brought in
    let best = number_one x y same a d is_best (best_is x.number e) in
    let best2 = number_other x y same a d is_best (best_is y.number f) in
    let size = sized y y.input.board refl d in
    let l = calls.T1 (one x y same a d) size (calls.best_progress best) in
    let m = calls.T1 (other x y same a d) size (calls.best_progress best2) in
    ap₂ le_z (score_there x y same s l) (score_there y y refl t m)
    ∙ masters.T3_score (one x y same a d) (other x y same a d) (less x y same a d n) size best best2 l m

-- ---- the same settings

handed_as : (c : Call judge) (a : is_answer c.number ≡ true) → handed c ≡ bytes_of (moves_of (answer_to c).list)
unfolding searching
handed_as c a =
    let s = searching c c.input.board refl a in
    calls.handed_is s (answered-accepted s (answered c c.input.board refl a))

answers_same : (x y : Call judge) → SameSettings x y → answer_to x ≡ answer_to y
answers_same x y s =
    ap (λ (bytes : List ℕ). search-of (table_in bytes) x.input.budget (capacity_in x.before) (flag x.input.partial)) s.board
    ∙ ap (λ (n : ℕ). search-of (table_in y.input.board) n (capacity_in x.before) (flag x.input.partial)) s.budget
    ∙ ap (λ (n : ℕ). search-of (table_in y.input.board) y.input.budget n (flag x.input.partial)) s.room
    ∙ ap (λ (f : Bool). search-of (table_in y.input.board) y.input.budget (capacity_in y.before) f) s.flag

both_alike : (x y : Call judge) → SameSettings x y → Accepted x → Accepted y → SameAnswer x y
both_alike x y s a d =
    let p = answers_as x (good_search x x.input.board refl a) in
    let q = answers_as y (good_search y y.input.board refl d) in
    let e = answers_same x y s in
    record {
      number = p.number ∙ ap (λ (r : Answer freecell). r.number) e ∙ sym q.number;
      pops = p.pops ∙ ap (λ (r : Answer freecell). r.pops) e ∙ sym q.pops;
      list =
          record {
            moves = p.moves ∙ ap (λ (r : Answer freecell). length (moves_of r.list)) e ∙ sym q.moves;
            bytes = handed_as x a ∙ ap (λ (r : Answer freecell). bytes_of (moves_of r.list)) e ∙ sym (handed_as y d);
          };
    }

pub demand3 : Demand3
demand3 =
    record { one_list = one_list_lem; not_both = not_both_lem; stays = stays_so; accepted = accepts_more; score = never_lower; alike = both_alike }
