-- One result only: what `solve` hands back and leaves is determined.
use mathlib.Core.Path.{◌≡◌, refl, sym, ap, ◌∙◌}
use mathlib.Core.Bool.{Bool, true, cond}
use mathlib.Core.List.{List}
use Prim.Native.Nat.{ℕ}
use lib.Dec.{eqb}
use Rattle.std.specs.Prelude.{Result, Ok, Err}
use Rattle.base.proofs.Unique.{told_once}
use Rattle.board.specs.Refusal.{is_said}
use Rattle.board.specs.declared.Board.{Board}
use Rattle.board.specs.declared.Refusal.{Refusal}
use Rattle.board.proofs.Unique.{why_of, why_law, never_said}
use Rattle.memory.specs.Memory.{Memory, lent}
use Rattle.finish.specs.Said.{said_number, Told, told}
use Rattle.solver.specs.Searched.{Outcome, outcome, searched}
use Rattle.finish.specs.declared.Said.{Said}
use Rattle.finish.specs.declared.Said.TheVariants.{Won, BestAtLimit, BestExhausted, Limit, Exhausted, BestIsWon, OutOfNodes}
use Rattle.finish.specs.declared.Judged.{Judged}
use Rattle.solver.specs.Told.{Call}

-- what is said with a number
said_of : ℕ → Said
said_of n = cond (eqb n 0) Won (cond (eqb n 1) BestAtLimit (cond (eqb n 2) BestExhausted (cond (eqb n 3) Limit (cond (eqb n 4) Exhausted (cond (eqb n 5) BestIsWon OutOfNodes)))))

said_law : (s : Said) → (said_of (said_number s) ≡ s) × (is_said (said_number s) ≡ true)
unfolding said_of
said_law Won = (refl, refl)
said_law BestAtLimit = (refl, refl)
said_law BestExhausted = (refl, refl)
said_law Limit = (refl, refl)
said_law Exhausted = (refl, refl)
said_law BestIsWon = (refl, refl)
said_law OutOfNodes = (refl, refl)

-- an answer's number is no refusal's
back : Told → Result Judged Refusal
back t = cond (is_said t.number) (Ok (record { said = said_of t.number; pops = t.pops; moves = t.moves })) (Err (why_of t.number))

law : (r : Result Judged Refusal) → back (told r) ≡ r
unfolding back
law (Ok j) = rw ((said_law j.said).1, (said_law j.said).0) refl
law (Err why) = rw (never_said why, why_law why) refl

-- what a caller is told says what was handed back
pub told-once : {r s : Result Judged Refusal} → told r ≡ told s → r ≡ s
told-once e = told_once told back law e refl

-- of `solve`: what is handed back and every lent byte are determined
module _ {b : Board} (x y : Call b) where
  same_outcome : x.budget ≡ y.budget → x.partial ≡ y.partial → x.scratch ≡ y.scratch → x.list ≡ y.list
      → outcome x.result x.scratch_after.nodes x.scratch_after.heap x.scratch_after.keys x.scratch_after.costs x.list_after
      ≡ outcome y.result y.scratch_after.nodes y.scratch_after.heap y.scratch_after.keys y.scratch_after.costs y.list_after
  same_outcome p q r s =
      x.holds
      ∙ ap (λ (n : ℕ). searched x.scratch.nodes x.scratch.heap x.scratch.keys x.scratch.costs x.list b n x.partial) p
      ∙ ap (λ (f : Bool). searched x.scratch.nodes x.scratch.heap x.scratch.keys x.scratch.costs x.list b y.budget f) q
      ∙ ap (λ (m : Memory). searched m.nodes m.heap m.keys m.costs x.list b y.budget y.partial) r
      ∙ ap (λ (l : List ℕ). searched y.scratch.nodes y.scratch.heap y.scratch.keys y.scratch.costs l b y.budget y.partial) s
      ∙ sym y.holds

  pub solve_once : x.budget ≡ y.budget → x.partial ≡ y.partial → x.scratch ≡ y.scratch → x.list ≡ y.list
      → ((x.result ≡ y.result) × ((r s : Result Judged Refusal) → told r ≡ x.result → told s ≡ y.result → r ≡ s)) × ((x.scratch_after ≡ y.scratch_after) × (x.list_after ≡ y.list_after))
  solve_once p q r s =
      let o = same_outcome p q r s in
      let e : x.result ≡ y.result = ap (λ (v : Outcome). let t : Told = record { number = v.number; pops = v.pops; moves = v.moves } in t) o in (
        (e, λ u v f g. told-once (f ∙ e ∙ sym g)),
        (ap (λ (v : Outcome). let m : Memory = lent v.nodes v.heap v.keys v.costs in m) o, ap (λ (v : Outcome). v.list) o),
      )
