-- What the search gives `oneboard`: small numbers, and a list that holds the records of its moves.
use Rattle.std.specs.Prelude.{Result, Ok, Err}
use mathlib.Core.Path.{◌≡◌, refl, sym, ap, ap₂, ◌∙◌, subst}
use mathlib.Core.Bool.{false}
use mathlib.Core.List.{List, [], ◌∷◌, ◌++◌, append_assoc}
use Prim.Native.Nat.{ℕ, ◌+◌, ◌*◌, ◌≤◌}
use native.Mathlib.Omega.{arith}
use lib.ListN.{length, take, drop}
use lib.Seq.{take_at, drop_at}
use Rattle.board.specs.Verdict.{Verdict, fine}
use Rattle.board.specs.Record.{shown, examined}
use Rattle.board.specs.declared.Board.{Board}
use Rattle.board.specs.declared.Refusal.{Refusal}
use Rattle.intake.proofs.Accepted.{Fine, fine_sound}
use Rattle.moves.specs.Record.{record_of}
use Rattle.moves.specs.declared.Move.{Move}
use Rattle.moves.specs.Written.{bytes_of, written}
use Rattle.moves.proofs.Writing.{record_long}
use Rattle.base.specs.Put.{Puts}
use Rattle.base.proofs.Putting.{puts_more, puts_same}
use Rattle.search.specs.Freecell.{freecell, judge}
use Rattle.search.specs.Solve.{Perhaps, none, some, Answer}
use Rattle.search.proofs.Judge.{T1, T4_pops}
use Rattle.solver.specs.Capacity.{capacity_of}
use Rattle.finish.specs.Said.{said_number, moves_of, told}
use Rattle.solver.specs.Searched.{Outcome, outcome, accepted, answered_with, searched_by, searched}
use Rattle.solver.specs.Told.{IsAnswer}
use Rattle.solver.proofs.Calls.{refusal_says, judge_answer}
use Rattle.finish.specs.Inner.{Gives}
use Rattle.finish.specs.declared.Judged.{Judged}
use Rattle.onetext.specs.Text.{line, move_lines, answer_text}
use Rattle.onetext.specs.Inner.{PutsFew, record_lines, Scratch}

-- ---- the search is accepted, with capacity 64

capacity_64 : (w x y z : ℕ) → w ≡ 192 → x ≡ 64 → y ≡ 128 → z ≡ 128 → capacity_of w x y z ≡ 64
unfolding capacity_of
capacity_64 w x y z a b c d = rw (a, b, c, d)

accepts : (b : Board) (k l : ℕ) → examined b ≡ fine → k ≡ 64 → l ≡ 1000 → accepted b 100 k l ≡ fine
unfolding accepted
accepts b k l e p q = rw (e, p, q)

module _ {b : Board} (f : Fine b) {nodes heap keys costs list : List ℕ} (s : Scratch nodes heap keys costs list) where
  here : capacity_of (length nodes) (length heap) (length keys) (length costs) ≡ 64
  here = capacity_64 (length nodes) (length heap) (length keys) (length costs) s.nodes s.heap s.keys s.costs

  searched_is : searched nodes heap keys costs list b 100 false ≡ answered_with nodes heap keys costs list (judge (shown b) 100 64 false)
  unfolding searched
  searched_is =
      ap (λ (v : Verdict). searched_by nodes heap keys costs list v b 100 false)
      (accepts b (capacity_of (length nodes) (length heap) (length keys) (length costs)) (length list) f.verdict here s.list)
      ∙ ap (λ (k : ℕ). answered_with nodes heap keys costs list (judge (shown b) 100 k false)) here

  module _ (r : Result Judged Refusal) {n h k c l : List ℕ} (e : outcome (told r) n h k c l ≡ searched nodes heap keys costs list b 100 false) where
    -- no answer has a refusal's number
    pub never_refused : {why : Refusal} → r ≡ Err why → ⊥
    unfolding answered_with
    never_refused {why} q =
        refusal_says why
        (subst IsAnswer (sym (ap (λ (o : Outcome). o.number) (e ∙ searched_is)) ∙ ap (λ (x : Result Judged Refusal). (told x).number) q)
        (judge_answer (shown b) 100 64 false))

    pub gained : {j : Judged} → r ≡ Ok j → Gives (judge (shown b) 100 64 false) list l j
    unfolding answered_with
    gained p =
        let q = ap (λ (x : Result Judged Refusal). outcome (told x) n h k c l) (sym p) ∙ e ∙ searched_is in
        record {
          number = ap (λ (o : Outcome). o.number) q;
          pops = ap (λ (o : Outcome). o.pops) q;
          moves = ap (λ (o : Outcome). o.moves) q;
          list = ap (λ (o : Outcome). o.list) q;
        }

-- ---- small numbers

few_moves : (b : Board) → Fine b → length (moves_of (judge (shown b) 100 64 false).list) ≤ 200
few_moves b f = by_list (judge (shown b) 100 64 false).list refl
  where
    by_list : (l : Perhaps (List Move)) → (judge (shown b) 100 64 false).list ≡ l → length (moves_of l) ≤ 200
    by_list none e = omega arith
    by_list (some l) e = (T1 b (fine_sound f) 100 64 false l e).short

module _ {b : Board} (f : Fine b) {old new : List ℕ} {j : Judged} (g : Gives (judge (shown b) 100 64 false) old new j) where
  pub pops_100 : j.pops ≤ 100
  pops_100 = let p = g.pops in let t = T4_pops (shown b) 100 64 false in omega arith

  pub moves_200 : j.moves ≤ 200
  moves_200 = let p = g.moves in let t = few_moves b f in omega arith

-- ---- the lines of the list

lines_are : (ms : List Move) (rest : List ℕ) → record_lines (length ms) (bytes_of ms ++ rest) ≡ move_lines ms
unfolding record_lines move_lines bytes_of
lines_are [] rest = refl
lines_are (m ∷ ms) rest =
    ap₂ (λ (x y : List ℕ). line x ++ record_lines (length ms) y)
    (ap (take 5) (append_assoc (record_of m) (bytes_of ms) rest) ∙ take_at (record_of m) (bytes_of ms ++ rest) 5 (record_long m))
    (ap (drop 5) (append_assoc (record_of m) (bytes_of ms) rest) ∙ drop_at (record_of m) (bytes_of ms ++ rest) 5 (record_long m))
    ∙ ap (λ (l : List ℕ). line (record_of m) ++ l) (lines_are ms rest)

module _ {a : Answer freecell} {before list : List ℕ} {j : Judged} (g : Gives a before list j) where
  list_lines : record_lines j.moves list ≡ move_lines (moves_of a.list)
  unfolding written
  list_lines = ap₂ record_lines g.moves g.list ∙ lines_are (moves_of a.list) (drop ((0 + length (moves_of a.list)) * 5) before)

  -- the first line, and then the list's
  pub answer_puts : {old mid new : List ℕ} {at k r n p m most : ℕ} → at + most ≤ length old → n ≡ said_number j.said → p ≡ j.pops → m ≡ j.moves
      → PutsFew old mid at k most (line (n ∷ p ∷ m ∷ [])) → Puts mid new k r (record_lines j.moves list) → Puts old new at r (answer_text a)
  unfolding answer_text
  answer_puts {n = n} {p = p} {m = m} room u v w first rest =
      let x = first.few in
      let y = first.puts.after in
      puts_same (ap₂ ◌++◌ (ap line same) list_lines) (puts_more (omega arith) first.puts rest)
    where
      same : n ∷ p ∷ m ∷ [] ≡ a.number ∷ a.pops ∷ length (moves_of a.list) ∷ []
      same = let i = g.number in let q = g.pops in let o = g.moves in cc
