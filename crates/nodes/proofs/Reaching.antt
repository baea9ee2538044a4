-- What some steps lead to: their line is legal and ends on their table, which is fair; a step has at least one move.
use mathlib.Core.Path.{◌≡◌, refl, sym, ap, ◌∙◌, subst}
use mathlib.Core.List.{List, [], ◌∷◌}
use Prim.Native.Nat.{ℕ, zero, suc, ◌-◌, ◌<◌, ◌≤◌}
use native.Mathlib.Omega.{arith}
use lib.ListN.{length, length-append}
use Rattle.board.specs.Table.{Table}
use Rattle.board.specs.Record.{shown, board_of}
use Rattle.board.proofs.Records.{shown_of_record}
use Rattle.moves.specs.Move.{count, from}
use Rattle.moves.specs.Play.{there, last_of, hand}
use Rattle.moves.specs.declared.Move.{Move}
use Rattle.moves.proofs.Records.{said_from, said_count}
use Rattle.moves.proofs.Allowing.{allowed_is}
use Rattle.moves.proofs.Fairness.{fair_cards}
use Rattle.runs.specs.Run.{run_length}
use Rattle.rules.proofs.Laying.{run_top, run_13}
use borrow.Author.Tests.{leb-true}
use Rattle.board.specs.Fair.{Fair}
use Rattle.board.proofs.Fair.{fair_laid}
use Rattle.replay.specs.Played.{after_moves, Legal}
use Rattle.replay.proofs.Legal.{after-append, legal_append}
use Rattle.candidates.specs.Children.{child_moves}
use Rattle.candidates.specs.Inner.{Playable}
use Rattle.candidates.proofs.Bearing.{child_legal, child_fair, child_reached, child_some}
use Rattle.nodes.specs.Step.{move_in, parent_at, step_at, move_at, cost_at}
use Rattle.nodes.specs.Line.{steps_to, table_by, line_by, table_to, line_to}
use Rattle.nodes.specs.Nodes.{Makes, Costs, AllSteps, AllMake, AllCost, Nodes}
use Rattle.nodes.proofs.Digits.{makes_playable}
use Rattle.nodes.proofs.Climbing.{steps_root, steps_next, line_root, line_next}

-- a move that can be played takes few cards: a step has room for their number
pub few_cards : {t : Table} {m : Move} → Fair t → Playable t m → count m < 16
unfolding hand last_of
few_cards {t} {m} f p =
    let a = allowed_is t m p.allows in
    let some = said_count m p.said in
    let here = there t (from m) in
    let most = run_13 here (fair_cards t (from m) f (said_from m p.said)) in
    let enough = a.enough in
    let run = leb-true (length here - (length here - count m)) (run_length here) (sym (run_top here (length here - count m) (omega arith)) ∙ a.run) in
    omega arith

-- ---- some steps

module _ (t : Table) where
  pub table_after : (steps : List ℕ) → table_by t steps ≡ after_moves t (line_by t steps)
  unfolding table_by line_by after_moves
  table_after [] = refl
  table_after (w ∷ steps) =
      let ms = child_moves (table_by t steps) (move_in w) in
      sym (child_reached (table_by t steps) (move_in w))
      ∙ ap (λ (u : Table). after_moves u ms) (table_after steps)
      ∙ sym (after-append (line_by t steps) ms t)

  -- each step has a move of its own
  pub steps_fewer : (steps : List ℕ) → length steps ≤ length (line_by t steps)
  unfolding line_by
  steps_fewer [] = omega arith
  steps_fewer (w ∷ steps) =
      let h = steps_fewer steps in
      let k = child_some (table_by t steps) (move_in w) in
      let l = length-append (line_by t steps) (child_moves (table_by t steps) (move_in w)) in
      omega arith

  module _ (f : Fair t) where
    pub steps_fair : (steps : List ℕ) → AllMake t steps → Fair (table_by t steps)
    unfolding table_by
    steps_fair [] a = f
    steps_fair (w ∷ steps) a = child_fair (table_by t steps) (steps_fair steps a.1) (move_in w) (makes_playable a.0)

    pub steps_legal : (steps : List ℕ) → AllMake t steps → Legal t (line_by t steps)
    unfolding line_by
    steps_legal [] a = tt
    steps_legal (w ∷ steps) a =
        legal_append (line_by t steps) (child_moves (table_by t steps) (move_in w)) t (steps_legal steps a.1)
        (subst (λ (u : Table). Legal u (child_moves (table_by t steps) (move_in w))) (table_after steps)
        (child_legal (table_by t steps) (steps_fair steps a.1) (move_in w) (makes_playable a.0)))

-- ---- the steps to a node

module _ {t : Table} {words : List ℕ} {n : ℕ} (k : Nodes t words n) where
  -- the root cost nothing
  pub root_cost : cost_at words 0 ≡ 0
  root_cost = k.cost 0 k.some ∙ ap length (line_root t words)

  -- what each node's step has after its parent's steps, all steps to a node have
  module _ (P : List ℕ → ℕ → Type 0) (own : (i : ℕ) → 0 < i → i < n → P (steps_to words (parent_at words i)) (step_at words i)) where
    upto : (most i : ℕ) → i ≤ most → i < n → AllSteps P (steps_to words i)
    upto zero zero h b = subst (AllSteps P) (sym (steps_root words)) tt
    upto zero (suc i) h b = absurd (let z : ⊥ = omega arith in z)
    upto (suc most) zero h b = subst (AllSteps P) (sym (steps_root words)) tt
    upto (suc most) (suc i) h b =
        let o = k.linked.older (suc i) (omega arith) b in
        subst (AllSteps P) (sym (steps_next k.linked (suc i) (omega arith) b))
        (own (suc i) (omega arith) b, upto most (parent_at words (suc i)) (omega arith) (omega arith))

  own_makes : (i : ℕ) → 0 < i → i < n → Makes (table_by t (steps_to words (parent_at words i))) (step_at words i)
  unfolding table_to
  own_makes = k.makes

  -- a node's line is its parent's and its own moves, and so are the costs
  own_costs : (i : ℕ) → 0 < i → i < n
      → Costs (table_by t (steps_to words (parent_at words i))) (length (line_by t (steps_to words (parent_at words i)))) (step_at words i)
  unfolding cost_at table_to line_to move_at
  own_costs i some b =
      record {
        sum =
            k.cost i b ∙ ap length (line_next k.linked i some b t)
            ∙ length-append (line_to t words (parent_at words i)) (child_moves (table_to t words (parent_at words i)) (move_at words i));
      }

  module _ (i : ℕ) (b : i < n) where
    pub node_steps : AllMake t (steps_to words i)
    node_steps = upto (λ steps w. Makes (table_by t steps) w) own_makes i i (omega arith) b

    pub node_costs : AllCost t (steps_to words i)
    node_costs = upto (λ steps w. Costs (table_by t steps) (length (line_by t steps)) w) own_costs i i (omega arith) b

    pub node_few : length (steps_to words i) ≤ 200
    unfolding line_to
    node_few = let h = steps_fewer t (steps_to words i) in let s = k.short i b in omega arith

    -- the table of a node is the one after its line
    pub node_after : table_to t words i ≡ after_moves t (line_to t words i)
    unfolding table_to line_to
    node_after = table_after t (steps_to words i)

    module _ (f : Fair t) where
      pub node_legal : Legal t (line_to t words i)
      unfolding line_to
      node_legal = steps_legal t f (steps_to words i) node_steps

      pub node_fair : Fair (table_to t words i)
      unfolding table_to
      node_fair = steps_fair t f (steps_to words i) node_steps

      -- a node's board shows its table
      pub node_shown : shown (board_of (table_to t words i)) ≡ table_to t words i
      node_shown = shown_of_record (table_to t words i) (fair_laid (table_to t words i) node_fair)
