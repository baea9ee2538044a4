-- Request (v) holds.
use mathlib.Core.Path.{◌≡◌, refl, sym, ap, ◌∙◌, subst}
use mathlib.Core.Bool.{true}
use mathlib.Core.Logic.{inl, inr}
use borrow.Author.Tests.{eqb-true}
use Rattle.board.specs.Table.{Table}
use Rattle.questions.specs.Questions.{won_on}
use Rattle.signature.specs.Signed.{signature_of}
use Rattle.search.specs.Freecell.{freecell}
use Rattle.search.specs.Claims.{is_best_at_limit, best_of, Clash}
use Rattle.search.proofs.Judge as proved
use Rattle.solver.specs.Told as solver
use Rattle.solver.proofs.Calls as calls
use Rattle.solver.proofs.Masters as masters
use Rattle.crossing.specs.Wire.{board_in}
use Rattle.crossing.specs.Numbers.{flag, is_answer}
use Rattle.corbelnib.specs.Calls.{replay, judge, Call, capacity_in}
use Rattle.demands.specs.Demand1.{GoodSearch}
use Rattle.demands.specs.Demand2.{table_in, Answers, Replays, end_of}
use Rattle.demands.specs.Demand3.{Accepted, NoLess}
use Rattle.demands.specs.BestLine.{StruckBy, SharedSignature, Becomes, won_then, still, no_room_then, exhausted_then, BestLine}
use Rattle.demands.proofs.Searching.{searching, same_number, answered, sized}
use Rattle.demands.proofs.Replaying.{brought_answer, list_of, end_table, end_finished, end_unfinished}
use Rattle.demands.proofs.Demand2.{answers_as}
use Rattle.demands.proofs.Demand3.{one, other, list_same, number_one, accepted_other, less}

leaves_best : (c : Call judge) → GoodSearch c → (s : StruckBy c) → Answers c (best_of freecell s.state)
leaves_best c g s =
    subst (Answers c) (proved.T5_called (table_in c.input.board) c.input.budget (capacity_in c.before) (flag c.input.partial) s) (answers_as c g)

-- ---- one call, with the replay of its list

module _ (c : Call judge) (r : Call replay) (p : Replays c r) where
  abbrev here : is_answer c.number ≡ true
  here = brought_answer c.number p.brought

  abbrev asked : solver.Call (board_in c.input.board)
  asked = searching c c.input.board refl here

  numbered : solver.number asked ≡ c.number
  numbered = same_number c c.input.board refl here

  pub then_5 : StruckBy c → won_on (table_in (end_of r)).foundation ≡ true → c.number ≡ 5
  unfolding searching
  then_5 s w =
      sym numbered
      ∙ calls.T5_then asked (sized c c.input.board refl here) (calls.answered-accepted asked (answered c c.input.board refl here)) s
      (list_of c p.brought) (ap (λ (t : Table). won_on t.foundation) (sym (end_table c r p)) ∙ w)

  pub struck_by : is_best_at_limit c.number → StruckBy c
  unfolding searching
  struck_by e = calls.T5_struck asked (subst is_best_at_limit (sym numbered) e)

small : (c : Call judge) → c.number ≡ 5 → is_answer c.number ≡ true
small c e = ap is_answer e

spent_all : (c : Call judge) → c.number ≡ 5 → c.after.pops ≡ c.input.budget
unfolding searching
spent_all c e =
    let a = small c e in
    calls.T4_limit (searching c c.input.board refl a) (inl (inr (same_number c c.input.board refl a ∙ e)))

with_flag : (c : Call judge) → c.number ≡ 5 → flag c.input.partial ≡ true
unfolding searching
with_flag c e =
    let a = small c e in
    calls.T5_flag (searching c c.input.board refl a) (inr (same_number c c.input.board refl a ∙ e))

-- ---- two calls

module _ (x y : Call judge) (n : NoLess x y) (d : Accepted y) (e : x.number ≡ 5) where
  abbrev a : is_answer x.number ≡ true
  a = small x e

  shares : Clash freecell (solver.BorneBy (other x y n.board a d)) → SharedSignature y
  unfolding searching
  shares k =
      record {
        finished = k.finished;
        other = k.other;
        finished_borne = k.finished_born;
        other_borne = k.other_born;
        wins = k.wins;
        unwon = k.unwon;
        shared = eqb-true (signature_of k.finished.board) (signature_of k.other.board) k.alike;
      }

  told : solver.Becomes (one x y n.board a d) (other x y n.board a d) → Becomes x y
  told (solver.won_then k) = won_then (sym (same_number y y.input.board refl d) ∙ k)
  told (solver.still k s) = still (sym (same_number y y.input.board refl d) ∙ k) (list_same x y n.board a d s)
  told (solver.no_room_then k) = no_room_then (sym (same_number y y.input.board refl d) ∙ k)
  told (solver.exhausted_then k s c) = exhausted_then (sym (same_number y y.input.board refl d) ∙ k) (list_same x y n.board a d s) (shares c)

  pub becomes_so : Becomes x y
  becomes_so =
      told
      (masters.T5 (one x y n.board a d) (other x y n.board a d) (less x y n.board a d n) (sized y y.input.board refl d)
      (accepted_other x y n.board a d) (number_one x y n.board a d (λ k. k ≡ 5) e))

pub best_line : BestLine
best_line =
    record {
      leaves = leaves_best;
      finished = λ c r g s p w. then_5 c r p s w;
      only = λ c r p e. (struck_by c r p (inr e), end_finished c r p e);
      unfinished = λ c r p e. (struck_by c r p (inl e), end_unfinished c r p e);
      spent = spent_all;
      flagged = with_flag;
      becomes = becomes_so;
    }
