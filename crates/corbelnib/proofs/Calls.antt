-- An answer that C gets is the answer of a call of the search that keeps its promise: T1 to T5
-- (search/proofs/Judge.antt) hold for it.
use mathlib.Core.Path.{◌≡◌, refl, sym, ap, ◌∙◌}
use mathlib.Core.Bool.{Bool, true, cond, ◌||◌}
use mathlib.Core.List.{List}
use mathlib.Core.Logic.{inl, inr}
use Prim.Native.Nat.{ℕ, zero, suc, ◌≤◌}
use native.Mathlib.Omega.{arith}
use borrow.Author.Tests.{eq-eqb, le-leb}
use lib.Dec.{eqb}
use lib.ListN.{length}
use Rattle.std.specs.Prelude.{Ok}
use Rattle.finish.specs.Said.{said_number, Told, told}
use Rattle.finish.specs.declared.Said.{Said}
use Rattle.finish.specs.declared.Said.TheVariants.{Won, BestAtLimit, BestExhausted, Limit, Exhausted, BestIsWon, OutOfNodes}
use Rattle.solver.specs.Searched.{Outcome, refused_with, searched}
use Rattle.solver.specs.Told.{Call, IsAnswer}
use Rattle.crossing.specs.Wire.{board_in}
use Rattle.corbelnib.specs.Judged.{leaves, pointed, judge_left}
use Rattle.crossing.specs.Numbers.{flag, is_answer}
use Rattle.memory.specs.Memory.{lent}

-- which answer has a number
pub said_by : ℕ → Said
said_by zero = Won
said_by (suc zero) = BestAtLimit
said_by (suc (suc zero)) = BestExhausted
said_by (suc (suc (suc zero))) = Limit
said_by (suc (suc (suc (suc zero)))) = Exhausted
said_by (suc (suc (suc (suc (suc zero))))) = BestIsWon
said_by (suc (suc (suc (suc (suc (suc n)))))) = OutOfNodes

said_small : (n : ℕ) → n ≤ 5 → said_number (said_by n) ≡ n
unfolding said_by
said_small zero h = refl
said_small (suc zero) h = refl
said_small (suc (suc zero)) h = refl
said_small (suc (suc (suc zero))) h = refl
said_small (suc (suc (suc (suc zero)))) h = refl
said_small (suc (suc (suc (suc (suc zero))))) h = refl
said_small (suc (suc (suc (suc (suc (suc n)))))) h = absurd (let w : ⊥ = omega arith in w)

pub said_again : (n : ℕ) → IsAnswer n → said_number (said_by n) ≡ n
unfolding said_by
said_again n (inl h) = said_small n h
said_again n (inr e) = ap (λ (k : ℕ). said_number (said_by k)) e ∙ sym e

pub is_answer_lem : (n : ℕ) → IsAnswer n → is_answer n ≡ true
is_answer_lem n (inl h) = ap (λ (x : Bool). x || eqb n 23) (le-leb n 5 h)
is_answer_lem n (inr e) = ap is_answer e

module _ (nodes heap keys costs list : List ℕ) (pops moves : ℕ) (board : List ℕ) (budget partial : ℕ) (whole : length board ≡ 432) where
  -- what the search gives for these
  abbrev pub sought : Outcome
  sought = searched nodes heap keys costs list (board_in board) budget (flag partial)

  judged_is : judge_left nodes heap keys costs list pops moves board budget partial ≡ pointed sought pops moves
  unfolding judge_left
  judged_is = ap (λ (ok : Bool). pointed (cond ok sought (refused_with nodes heap keys costs list 12)) pops moves) (eq-eqb (length board) 432 whole)

  module _ {r p m : ℕ} {n h k c l : List ℕ} (e : leaves r p m n h k c l ≡ judge_left nodes heap keys costs list pops moves board budget partial) (a : IsAnswer r) where
    answers : is_answer sought.number ≡ true
    answers = ap (λ (o : Outcome). is_answer o.number) (sym (e ∙ judged_is)) ∙ is_answer_lem r a

    pub left_is : leaves r p m n h k c l ≡ sought
    left_is =
        e ∙ judged_is
        ∙ ap (λ (x : Bool). leaves sought.number (cond x sought.pops pops) (cond x sought.moves moves) sought.nodes sought.heap sought.keys sought.costs sought.list) answers

    -- its pops and moves are what stands behind the pointers, its list what stands in the list buffer
    abbrev pub call_of : Call (board_in board)
    call_of =
        record {
          budget = budget;
          partial = flag partial;
          scratch = lent nodes heap keys costs;
          list = list;
          result = record { number = r; pops = p; moves = m };
          scratch_after = lent n h k c;
          list_after = l;
          holds = left_is;
        }

    -- it tells what the search hands back for an answer
    pub call_told : told (Ok (record { said = said_by r; pops = p; moves = m })) ≡ call_of.result
    call_told = ap (λ (x : ℕ). let t : Told = record { number = x; pops = p; moves = m } in t) (said_again r a)

    -- and its number is the number handed back
    pub call_number : call_of.result.number ≡ r
    call_number = refl
