-- A node more: the words of the others, and all that they say, stay.
use mathlib.Core.Path.{◌≡◌, sym, ap, ◌∙◌, subst}
use mathlib.Core.List.{List, ◌++◌}
use Prim.Native.Nat.{ℕ, zero, suc, ◌+◌, ◌*◌, ◌%◌, ◌<◌, ◌≤◌}
use native.Mathlib.Omega.{arith}
use native.Mathlib.Decide.{ℕ_discrete}
use lib.ListN.{length, get_or, set, length-append, length-set}
use lib.Seq.{get_or-set_same, get_or-set_other}
use Rattle.board.specs.Table.{Table}
use Rattle.moves.specs.Move.{count}
use Rattle.moves.specs.declared.Move.{Move}
use Rattle.candidates.specs.Children.{child_moves, child_table}
use Rattle.candidates.specs.Inner.{Playable}
use Rattle.nodes.specs.Step.{step_word, move_in, cost_in, parent_at, step_at, slot_at, move_at, cost_at, Puts, Added}
use Rattle.nodes.specs.Line.{table_to, line_to}
use Rattle.nodes.specs.Nodes.{Makes, Linked, Nodes}
use Rattle.nodes.proofs.Digits.{step_move, step_cost, playable_makes}
use Rattle.nodes.proofs.Climbing.{Agree, line_root, line_next, table_next, line_same, table_same}

-- ---- three words set

module _ {old new : List ℕ} {n parent step slot : ℕ} (p : Puts old new n parent step slot) where
  pub set_long : length new ≡ length old
  set_long =
      ap length p.words ∙ length-set (set (set old (n * 3) parent) (n * 3 + 1) step) (n * 3 + 2) slot
      ∙ length-set (set old (n * 3) parent) (n * 3 + 1) step ∙ length-set old (n * 3) parent

  other_word : (at : ℕ) → at < n * 3 → get_or new at 0 ≡ get_or old at 0
  other_word at h =
      ap (λ (l : List ℕ). get_or l at 0) p.words
      ∙ get_or-set_other (set (set old (n * 3) parent) (n * 3 + 1) step) (n * 3 + 2) at slot 0 (λ q. let z : ⊥ = omega arith in z)
      ∙ get_or-set_other (set old (n * 3) parent) (n * 3 + 1) at step 0 (λ q. let z : ⊥ = omega arith in z)
      ∙ get_or-set_other old (n * 3) at parent 0 (λ q. let z : ⊥ = omega arith in z)

  module _ (i : ℕ) (below : i < n) where
    pub old_parent : parent_at new i ≡ parent_at old i
    unfolding parent_at
    old_parent = other_word (i * 3) (omega arith)

    pub old_step : step_at new i ≡ step_at old i
    unfolding step_at
    old_step = other_word (i * 3 + 1) (omega arith)

    pub old_slot : slot_at new i ≡ slot_at old i
    unfolding slot_at
    old_slot = other_word (i * 3 + 2) (omega arith)

    pub old_cost : cost_at new i ≡ cost_at old i
    unfolding cost_at
    old_cost = ap cost_in old_step

  pub agrees : Agree old new n
  agrees = record { parents = λ i h. sym (old_parent i h); steps = λ i h. sym (old_step i h) }

  module _ (room : (n + 1) * 3 ≤ length old) where
    abbrev one : List ℕ
    one = set old (n * 3) parent

    abbrev two : List ℕ
    two = set one (n * 3 + 1) step

    pub new_parent : parent_at new n ≡ parent
    unfolding parent_at
    new_parent =
        ap (λ (l : List ℕ). get_or l (n * 3) 0) p.words
        ∙ get_or-set_other two (n * 3 + 2) (n * 3) slot 0 (λ q. let z : ⊥ = omega arith in z)
        ∙ get_or-set_other one (n * 3 + 1) (n * 3) step 0 (λ q. let z : ⊥ = omega arith in z)
        ∙ get_or-set_same old (n * 3) parent 0 (omega arith)

    pub new_step : step_at new n ≡ step
    unfolding step_at
    new_step =
        ap (λ (l : List ℕ). get_or l (n * 3 + 1) 0) p.words
        ∙ get_or-set_other two (n * 3 + 2) (n * 3 + 1) slot 0 (λ q. let z : ⊥ = omega arith in z)
        ∙ get_or-set_same one (n * 3 + 1) step 0 (let l = length-set old (n * 3) parent in omega arith)

    pub new_slot : slot_at new n ≡ slot
    unfolding slot_at
    new_slot =
        ap (λ (l : List ℕ). get_or l (n * 3 + 2) 0) p.words
        ∙ get_or-set_same two (n * 3 + 2) slot 0
        (let l = length-set old (n * 3) parent in let k = length-set one (n * 3 + 1) step in omega arith)

-- ---- the root

module _ (t : Table) {old new : List ℕ} {slot : ℕ} (x : Puts old new 0 0 0 slot) (room : 3 ≤ length old) where
  root_cost : cost_at new 0 ≡ 0
  unfolding cost_at cost_in
  root_cost = ap (λ (w : ℕ). w % 256) (new_step x room)

  pub nodes_root : Nodes t new 1
  nodes_root =
      record {
        some = omega arith;
        linked = record { fits = let l = set_long x in omega arith; older = λ i h b. absurd (let z : ⊥ = omega arith in z) };
        makes = λ i h b. absurd (let z : ⊥ = omega arith in z);
        cost = λ i b. at_root (λ j. cost_at new j ≡ length (line_to t new j)) (root_cost ∙ sym (ap length (line_root t new))) i b;
        short = λ i b. at_root (λ j. length (line_to t new j) ≤ 200) (let l = ap length (line_root t new) in omega arith) i b;
      }
    where
      at_root : (P : ℕ → Type 0) → P 0 → (i : ℕ) → i < 1 → P i
      at_root P p zero b = p
      at_root P p (suc i) b = absurd (let z : ⊥ = omega arith in z)

-- ---- a child

-- what holds of the others, and of the new one, holds of all
all_nodes : (n : ℕ) (P : ℕ → Type 0) → ((i : ℕ) → i < n → P i) → P n → (i : ℕ) → i < n + 1 → P i
all_nodes n P others last i b = by_place (ℕ_discrete i n)
  where
    by_place : Dec (i ≡ n) → P i
    by_place (yes e) = subst P (sym e) last
    by_place (no d) = others i (omega arith)

module _ {t : Table} {words new : List ℕ} {n parent cost slot : ℕ} {m : Move} (added : Added words new n parent m cost slot)
    (k : Nodes t words n) (room : (n + 1) * 3 ≤ length words) where
  module _ (i : ℕ) (b : i < n) where
    pub old_line : line_to t new i ≡ line_to t words i
    old_line = sym (line_same k.linked (agrees added.puts) i b t)

    pub old_table : table_to t new i ≡ table_to t words i
    old_table = sym (table_same k.linked (agrees added.puts) i b t)

  module _ (older : parent < n) where
    pub linked_added : Linked new (n + 1)
    linked_added =
        record {
          fits = let l = set_long added.puts in omega arith;
          older =
              λ i h b. all_nodes n (λ j. 0 < j → parent_at new j < j)
              (λ j l g. let o = k.linked.older j g l in let p = old_parent added.puts j l in omega arith)
              (λ g. let p = new_parent added.puts room in omega arith) i b h;
        }

    module _ (p : Playable (table_to t words parent) m) (few : count m < 16) (small : cost < 256) where
      new_move : move_at new n ≡ m
      unfolding move_at
      new_move = ap move_in (new_step added.puts room) ∙ step_move m cost p.said few small

      pub new_cost : cost_at new n ≡ cost
      unfolding cost_at
      new_cost = ap cost_in (new_step added.puts room) ∙ step_cost m cost p.said few small

      some : 0 < n
      some = omega arith

      pub new_line : line_to t new n ≡ line_to t words parent ++ child_moves (table_to t words parent) m
      new_line =
          let e = new_parent added.puts room in
          let l = old_line parent older in
          let u = old_table parent older in
          let v = new_move in
          line_next linked_added n some (omega arith) t ∙ (let z : line_to t new (parent_at new n) ++ child_moves (table_to t new (parent_at new n)) (move_at new n) ≡ line_to t words parent ++ child_moves (table_to t words parent) m = cc in z)

      pub new_table : table_to t new n ≡ child_table (table_to t words parent) m
      new_table =
          let e = new_parent added.puts room in
          let u = old_table parent older in
          let v = new_move in
          table_next linked_added n some (omega arith) t ∙ (let z : child_table (table_to t new (parent_at new n)) (move_at new n) ≡ child_table (table_to t words parent) m = cc in z)

      module _ (adds : cost ≡ length (line_to t words parent) + length (child_moves (table_to t words parent) m)) (short : cost ≤ 200) where
        new_length : cost ≡ length (line_to t new n)
        new_length = adds ∙ sym (ap length new_line ∙ length-append (line_to t words parent) (child_moves (table_to t words parent) m))

        pub nodes_added : Nodes t new (n + 1)
        nodes_added =
            record {
              some = omega arith;
              linked = linked_added;
              makes = λ i h b. all_nodes n (λ j. 0 < j → Makes (table_to t new (parent_at new j)) (step_at new j)) old_makes (λ h. new_makes) i b h;
              cost = all_nodes n (λ j. cost_at new j ≡ length (line_to t new j)) old_costs (new_cost ∙ new_length);
              short = all_nodes n (λ j. length (line_to t new j) ≤ 200) old_short (let l = new_length in omega arith);
            }
          where
            old_makes : (i : ℕ) → i < n → 0 < i → Makes (table_to t new (parent_at new i)) (step_at new i)
            old_makes i b h =
                let o = k.linked.older i h b in
                subst (λ (w : ℕ). Makes (table_to t new (parent_at new i)) w) (sym (old_step added.puts i b))
                (subst (λ (u : Table). Makes u (step_at words i)) (sym (ap (table_to t new) (old_parent added.puts i b) ∙ old_table (parent_at words i) (omega arith)))
                (k.makes i h b))

            new_makes : Makes (table_to t new (parent_at new n)) (step_at new n)
            new_makes =
                subst (λ (w : ℕ). Makes (table_to t new (parent_at new n)) w) (sym (new_step added.puts room))
                (subst (λ (u : Table). Makes u (step_word m cost)) (sym (ap (table_to t new) (new_parent added.puts room) ∙ old_table parent older))
                (playable_makes p few small))

            old_costs : (i : ℕ) → i < n → cost_at new i ≡ length (line_to t new i)
            old_costs i b = old_cost added.puts i b ∙ k.cost i b ∙ sym (ap length (old_line i b))

            old_short : (i : ℕ) → i < n → length (line_to t new i) ≤ 200
            old_short i b = let l = ap length (old_line i b) in let s = k.short i b in omega arith
