-- What is refused, in order, and what an accepted search leaves.
use Rattle.std.specs.Prelude.{Err, Ok, Result}
use mathlib.Core.Path.{◌≡◌, sym, ap, ◌∙◌, subst}
use mathlib.Core.Bool.{Bool}
use mathlib.Core.List.{List}
use Prim.Native.Nat.{ℕ, min, ◌*◌, ◌/◌, ◌<◌, ◌≤◌}
use native.Mathlib.Nat.{min-le_left, min-le_right, le-min}
use native.Mathlib.Omega.{arith}
use borrow.Author.Tests.{le-leb, lt-leb}
use lib.Dec.{leb}
use lib.ListN.{length}
use Rattle.base.specs.Answer.{refused, unless}
use Rattle.board.specs.Verdict.{Verdict, fine}
use Rattle.board.specs.Record.{examined, shown}
use Rattle.board.specs.Inner.{Sound}
use Rattle.board.specs.Refusal.{number_of, answered}
use Rattle.board.specs.declared.Board.{Board}
use Rattle.board.specs.declared.Refusal.{Refusal}
use Rattle.questions.proofs.Asking.{after_no, after_yes}
use Rattle.base.specs.Blank.{blank}
use Rattle.base.proofs.Clearing.{blank_same}
use Rattle.search.specs.Freecell.{judge}
use Rattle.memory.specs.declared.Room.{Room}
use Rattle.solver.specs.Capacity.{capacity_of, entries_of}
use Rattle.solver.specs.Searched.{outcome, accepted, searched_by, answered_with, searched}
use Rattle.finish.specs.Said.{told}
use Rattle.finish.specs.declared.Judged.{Judged}
use Rattle.finish.specs.Inner.{Gives}
use Rattle.solver.specs.Inner.{Accepts, Roomy}
use Rattle.memory.specs.Memory.{lent}

-- ---- the order of the refusals

module _ (b : Board) (budget capacity lent : ℕ) {e : Result (Unit {0}) Refusal} (p : answered e ≡ examined b) where
  pub no_board : {why : Refusal} → e ≡ Err why → refused (number_of why) ≡ accepted b budget capacity lent
  unfolding accepted
  no_board q = after_no _ p q

  module _ (q : e ≡ Ok tt) where
    accepted_is : accepted b budget capacity lent ≡ unless (leb budget 1000000) 20 (unless (leb 1000 lent) 21 (unless (leb 1 capacity) 22 fine))
    unfolding accepted
    accepted_is = after_yes _ p q

    pub over_budget : 1000000 < budget → refused 20 ≡ accepted b budget capacity lent
    over_budget h = sym (accepted_is ∙ ap (λ (x : Bool). unless x 20 (unless (leb 1000 lent) 21 (unless (leb 1 capacity) 22 fine))) (lt-leb budget 1000000 h))

    module _ (h : budget ≤ 1000000) where
      affordable : accepted b budget capacity lent ≡ unless (leb 1000 lent) 21 (unless (leb 1 capacity) 22 fine)
      affordable = accepted_is ∙ ap (λ (x : Bool). unless x 20 (unless (leb 1000 lent) 21 (unless (leb 1 capacity) 22 fine))) (le-leb budget 1000000 h)

      pub no_list_lem : lent < 1000 → refused 21 ≡ accepted b budget capacity lent
      no_list_lem k = sym (affordable ∙ ap (λ (x : Bool). unless x 21 (unless (leb 1 capacity) 22 fine)) (lt-leb 1000 lent k))

      module _ (k : 1000 ≤ lent) where
        listed : accepted b budget capacity lent ≡ unless (leb 1 capacity) 22 fine
        listed = affordable ∙ ap (λ (x : Bool). unless x 21 (unless (leb 1 capacity) 22 fine)) (le-leb 1000 lent k)

        pub no_node : capacity ≡ 0 → refused 22 ≡ accepted b budget capacity lent
        no_node l = sym (listed ∙ ap (λ (x : Bool). unless x 22 fine) (lt-leb 1 capacity (omega arith)))

        pub all-fine : 1 ≤ capacity → accepted b budget capacity lent ≡ fine
        all-fine l = listed ∙ ap (λ (x : Bool). unless x 22 fine) (le-leb 1 capacity l)

-- ---- as it is examined

module _ (b : Board) (budget capacity lent : ℕ) where
  -- refused: nothing else is promised
  pub accepts_no : {why : Refusal} → refused (number_of why) ≡ accepted b budget capacity lent → Accepts b budget capacity lent (Err why)
  accepts_no e =
      record {
        told = e;
        sound = λ q. let z : ◌≡◌ {A = ℕ} 0 1 = cc in absurd (let w : ⊥ = omega arith in w);
        affordable = λ q. let z : ◌≡◌ {A = ℕ} 0 1 = cc in absurd (let w : ⊥ = omega arith in w);
        listed = λ q. let z : ◌≡◌ {A = ℕ} 0 1 = cc in absurd (let w : ⊥ = omega arith in w);
        some = λ q. let z : ◌≡◌ {A = ℕ} 0 1 = cc in absurd (let w : ⊥ = omega arith in w);
      }

  pub accepts_yes : accepted b budget capacity lent ≡ fine → Sound b → budget ≤ 1000000 → 1000 ≤ lent → 1 ≤ capacity → Accepts b budget capacity lent (Ok tt)
  accepts_yes e s h k l = record { told = sym e; sound = λ q. s; affordable = λ q. h; listed = λ q. k; some = λ q. l }

-- ---- the room

module _ (nodes heap keys costs : ℕ) {capacity : ℕ} (e : capacity ≡ capacity_of nodes heap keys costs) where
  unfolded : capacity ≡ min (nodes / 3) (min heap (min (keys / 2) (min (costs / 2) 4294967295)))
  unfolding capacity_of
  unfolded = e

  in_nodes : capacity ≤ nodes / 3
  in_nodes = let l = min-le_left (nodes / 3) (min heap (min (keys / 2) (min (costs / 2) 4294967295))) in let q = unfolded in omega arith

  others : capacity ≤ min heap (min (keys / 2) (min (costs / 2) 4294967295))
  others = let l = min-le_right (nodes / 3) (min heap (min (keys / 2) (min (costs / 2) 4294967295))) in let q = unfolded in omega arith

  in_heap : capacity ≤ heap
  in_heap = let l = min-le_left heap (min (keys / 2) (min (costs / 2) 4294967295)) in let q = others in omega arith

  table : capacity ≤ min (keys / 2) (min (costs / 2) 4294967295)
  table = let l = min-le_right heap (min (keys / 2) (min (costs / 2) 4294967295)) in let q = others in omega arith

  in_keys : capacity ≤ keys / 2
  in_keys = let l = min-le_left (keys / 2) (min (costs / 2) 4294967295) in let q = table in omega arith

  bytes : capacity ≤ min (costs / 2) 4294967295
  bytes = let l = min-le_right (keys / 2) (min (costs / 2) 4294967295) in let q = table in omega arith

  in_costs : capacity ≤ costs / 2
  in_costs = let l = min-le_left (costs / 2) 4294967295 in let q = bytes in omega arith

  pub in_numbers : capacity ≤ 4294967295
  in_numbers = let l = min-le_right (costs / 2) 4294967295 in let q = bytes in omega arith

twice_most : (c : ℕ) → entries_of c ≤ c * 2
unfolding entries_of
twice_most c = min-le_left (c * 2) 4294967296

entries_most : (c : ℕ) → entries_of c ≤ 4294967296
unfolding entries_of
entries_most c = min-le_right (c * 2) 4294967296

entry_spare : (c : ℕ) → 1 ≤ c → c ≤ 4294967295 → c < entries_of c
unfolding entries_of
entry_spare c h k = le-min (omega arith) (omega arith)

pub roomy : {nodes heap keys costs : List ℕ} {capacity : ℕ} {r : Room} → capacity ≡ capacity_of (length nodes) (length heap) (length keys) (length costs) → 1 ≤ capacity
    → r ≡ record { capacity = capacity; entries = entries_of capacity } → Roomy r (lent nodes heap keys costs)
roomy {nodes} {heap} {keys} {costs} {capacity} {r} e some q = subst (λ (x : Room). Roomy x (lent nodes heap keys costs)) (sym q) own
  where
    own : Roomy (record { capacity = capacity; entries = entries_of capacity }) (lent nodes heap keys costs)
    own =
        let t = twice_most capacity in
        record {
          room =
              record {
                few = let n = in_numbers (length nodes) (length heap) (length keys) (length costs) e in omega arith;
                words = let n = in_nodes (length nodes) (length heap) (length keys) (length costs) e in omega arith;
                waits = in_heap (length nodes) (length heap) (length keys) (length costs) e;
                spare = entry_spare capacity (omega arith) (in_numbers (length nodes) (length heap) (length keys) (length costs) e);
              };
          some = omega arith;
          most = entries_most capacity;
          keyed = let n = in_keys (length nodes) (length heap) (length keys) (length costs) e in omega arith;
          costed = let n = in_costs (length nodes) (length heap) (length keys) (length costs) e in omega arith;
        }

-- ---- what is left

module _ (nodes heap keys costs list : List ℕ) (b : Board) (budget : ℕ) (partial : Bool) where
  abbrev here : ℕ
  here = capacity_of (length nodes) (length heap) (length keys) (length costs)

  pub outcome_refused : (why : Refusal) → refused (number_of why) ≡ accepted b budget here (length list)
      → outcome (told (Err why)) nodes heap keys costs list ≡ searched nodes heap keys costs list b budget partial
  unfolding searched
  outcome_refused why e = ap (λ (v : Verdict). searched_by nodes heap keys costs list v b budget partial) e

  -- the parts were cleared, and the answer is given
  pub outcome_given : (n h k c : List ℕ) {r : Judged} {room : Room} {after : List ℕ} {n' h' k' c' : List ℕ} {capacity : ℕ}
      → accepted b budget here (length list) ≡ fine → capacity ≡ here → room ≡ record { capacity = capacity; entries = entries_of capacity }
      → Gives (judge (shown b) budget room.capacity partial) list after r
      → length n ≡ length nodes → n' ≡ blank n → length h ≡ length heap → h' ≡ blank h → length k ≡ length keys → k' ≡ blank k → length c ≡ length costs → c' ≡ blank c
      → outcome (told (Ok r)) n' h' k' c' after ≡ searched nodes heap keys costs list b budget partial
  unfolding searched answered_with
  outcome_given n h k c {r} {room} {after} {n'} {h'} {k'} {c'} {capacity} ok q y g ln bn lh bh lk bk lc bc =
      let cap : room.capacity ≡ here = ap (λ (x : Room). x.capacity) y ∙ q in
      given (subst (λ (x : ℕ). Gives (judge (shown b) budget x partial) list after r) cap g)
      ∙ sym (ap (λ (v : Verdict). searched_by nodes heap keys costs list v b budget partial) ok)
    where
      zn : n' ≡ blank nodes
      zn = bn ∙ blank_same n nodes ln

      zh : h' ≡ blank heap
      zh = bh ∙ blank_same h heap lh

      zk : k' ≡ blank keys
      zk = bk ∙ blank_same k keys lk

      zc : c' ≡ blank costs
      zc = bc ∙ blank_same c costs lc

      given : Gives (judge (shown b) budget here partial) list after r
          → outcome (told (Ok r)) n' h' k' c' after ≡ answered_with nodes heap keys costs list (judge (shown b) budget here partial)
      given x =
          let a = x.number in
          let p = x.pops in
          let m = x.moves in
          let l = x.list in
          let u = zn in
          let v = zh in
          let w = zk in
          let z = zc in
          cc

-- the capacity is what the parts hold
pub told_here : {b : Board} {budget capacity lent : ℕ} {r : Result (Unit {0}) Refusal} → Accepts b budget capacity lent r → {n : ℕ} → capacity ≡ n → answered r ≡ accepted b budget n lent
told_here {b} {budget} {lent = lent} x e = x.told ∙ ap (λ (c : ℕ). accepted b budget c lent) e
