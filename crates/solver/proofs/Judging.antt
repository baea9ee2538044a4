-- An accepted search: a won start, or the root, the run and the answer.
use mathlib.Core.Path.{◌≡◌, refl, sym, ap, ◌∙◌, subst}
use mathlib.Core.Bool.{Bool, true, false}
use mathlib.Core.List.{List}
use Prim.Native.Nat.{ℕ}
use native.Mathlib.Omega.{arith}
use lib.ListN.{length, get_or}
use Rattle.board.specs.Record.{shown}
use Rattle.board.specs.declared.Board.{Board}
use Rattle.questions.specs.Questions.{won_on}
use Rattle.questions.proofs.Asking.{shown_foundation}
use Rattle.moves.proofs.Writing.{written_none}
use Rattle.base.specs.Blank.{blank}
use Rattle.base.proofs.Clearing.{blank_long, blank_reads}
use Rattle.search.specs.Freecell.{freecell, judge}
use Rattle.search.specs.Solve.{Answer, State, run, answer, solve_as, solve}
use Rattle.memory.specs.declared.Room.{Room}
use Rattle.memory.specs.declared.Counts.{Counts}
use Rattle.memory.specs.declared.Ended.{Ended}
use Rattle.memory.specs.Memory.{Memory, lent}
use Rattle.memory.specs.Steps.{Blank}
use Rattle.finish.specs.declared.Said.TheVariants.{Won}
use Rattle.finish.specs.declared.Judged.{Judged}
use Rattle.finish.specs.Inner.{Gives, answer_by}
use Rattle.turns.specs.Inner.{Seeds, Goes}
use Rattle.solver.specs.Inner.{Roomy}
use Rattle.finish.proofs.Handing.{answer_is}

-- with the cost bytes cleared
pub roomy_blank : {r : Room} {nodes heap keys costs zeros : List ℕ} → Roomy r (lent nodes heap keys costs) → zeros ≡ blank costs
    → Blank r (lent nodes heap keys zeros)
roomy_blank {costs = costs} {zeros = zeros} y e =
    record {
      room = record { few = y.room.few; words = y.room.words; waits = y.room.waits; spare = y.room.spare };
      some = y.some;
      most = y.most;
      keyed = y.keyed;
      costed = let l = ap length e ∙ blank_long costs in let c = y.costed in omega arith;
      free = λ i. ap (λ (l : List ℕ). get_or l i 0) e ∙ blank_reads costs i;
    }

module _ (root : Board) (budget capacity : ℕ) (partial : Bool) {w : Bool} (q : w ≡ won_on root.foundation) where
  won_is : won_on (shown root).foundation ≡ w
  won_is = sym (q ∙ ap won_on (shown_foundation root))

  judge_is : judge (shown root) budget capacity partial ≡ solve_as freecell w (shown root) budget capacity partial
  unfolding judge solve
  judge_is = ap (λ (x : Bool). solve_as freecell x (shown root) budget capacity partial) won_is

  pub gives_won : w ≡ true → (old : List ℕ) → Gives (judge (shown root) budget capacity partial) old old (record { said = Won; pops = 0; moves = 0 })
  gives_won h old =
      subst (λ (a : Answer freecell). Gives a old old (record { said = Won; pops = 0; moves = 0 }))
      (sym (judge_is ∙ ap (λ (x : Bool). solve_as freecell x (shown root) budget capacity partial) h))
      (record { number = refl; pops = refl; moves = refl; list = sym (written_none old 0) })

pub gives_run : (root : Board) (budget : ℕ) (partial : Bool) {w : Bool} → w ≡ won_on root.foundation → w ≡ false → {r : Room} {m new : Memory} {c : Counts} {e : Ended} {old list : List ℕ} {j : Judged}
    → Seeds root r m c → Goes root r budget m new c e → Gives (answer_by (shown root) new.nodes partial e) old list j
    → Gives (judge (shown root) budget r.capacity partial) old list j
gives_run root budget partial {w} q h {r} {m} {new} {c} {e} {old} {list} {j} s g a =
    subst (λ (x : Answer freecell). Gives x old list j)
    (sym (judge_is root budget r.capacity partial q
    ∙ ap (λ (x : Bool). solve_as freecell x (shown root) budget r.capacity partial) h
    ∙ ap (λ (x : State freecell). answer freecell partial (run freecell budget r.capacity x)) (sym s.begins)
    ∙ ap (answer freecell partial) g.ends ∙ sym (answer_is (shown root) r new partial e))) a
