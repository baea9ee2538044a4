-- A key placed among keys is its node queued among their nodes; and what keys and numbers say stays while their nodes do.
use mathlib.Core.Path.{◌≡◌, refl, sym, ap, ap₂, ◌∙◌}
use mathlib.Core.Bool.{Bool, true, false, cond}
use mathlib.Core.List.{List, [], ◌∷◌}
use Prim.Native.Nat.{ℕ, ◌+◌, ◌%◌, ◌<◌, ◌≤◌}
use native.Mathlib.Omega.{arith}
use lib.Dec.{leb}
use lib.ListN.{length}
use Rattle.board.specs.Table.{Table}
use Rattle.base.specs.Rising.{placed}
use Rattle.frontier.proofs.Packed.{number_packed, packed-first}
use Rattle.features.specs.Features.{features_of}
use Rattle.score.specs.Scores.{heuristic_key}
use Rattle.nodes.specs.Line.{line_to, table_to}
use Rattle.search.specs.Freecell.{freecell}
use Rattle.search.specs.Solve.{Node, before, queued}
use Rattle.memory.specs.View.{node_of, key_of, nodes_by}
use Rattle.memory.specs.Machine.{Keyed, AllKeyed}

module _ (t : Table) where
  -- ---- words that agree on the nodes below n

  pub record Same (old new : List ℕ) (n : ℕ) : Type 0 where
    pub lines : (i : ℕ) → i < n → line_to t new i ≡ line_to t old i
    pub tables : (i : ℕ) → i < n → table_to t new i ≡ table_to t old i

  module _ {old new : List ℕ} {n : ℕ} (s : Same old new n) where
    pub nodes_same : (i : ℕ) → i < n → node_of t new i ≡ node_of t old i
    unfolding node_of
    nodes_same i b = let l = s.lines i b in let u = s.tables i b in cc

    pub keys_same : (i : ℕ) → i < n → key_of t new i ≡ key_of t old i
    unfolding key_of
    keys_same i b = let l = s.lines i b in let u = s.tables i b in cc

    pub waiting_same : (l : List ℕ) → AllKeyed t old n l → nodes_by t new l ≡ nodes_by t old l
    unfolding nodes_by
    waiting_same [] a = refl
    waiting_same (key ∷ l) a = ap₂ (λ (x : Node freecell) (xs : List (Node freecell)). x ∷ xs) (nodes_same (key % 4294967296) a.0.born) (waiting_same l a.1)

    pub keyed_same : (m : ℕ) → n ≤ m → (l : List ℕ) → AllKeyed t old n l → AllKeyed t new m l
    keyed_same m h [] a = tt
    keyed_same m h (key ∷ l) a =
        let b = a.0.born in
        (record { born = omega arith; own = a.0.own ∙ sym (keys_same (key % 4294967296) b) }, keyed_same m h l a.1)

  -- ---- a key among keys of older nodes

  module _ (words : List ℕ) (n : ℕ) (few : n < 4294967296) where
    pub key_number : key_of t words n % 4294967296 ≡ n
    unfolding key_of
    key_number = number_packed (length (line_to t words n) + heuristic_key (features_of (table_to t words n))) (heuristic_key (features_of (table_to t words n))) n few

    pub key_keyed : Keyed t words (n + 1) (key_of t words n)
    key_keyed = record { born = let e = key_number in omega arith; own = ap (key_of t words) (sym key_number) }

    pub placed_keyed : (l : List ℕ) → AllKeyed t words (n + 1) l → AllKeyed t words (n + 1) (placed (key_of t words n) l)
    unfolding placed
    placed_keyed [] a = (key_keyed, tt)
    placed_keyed (y ∷ l) a = by_test (leb (key_of t words n) y) (placed_keyed l a.1)
      where
        by_test : (b : Bool) → AllKeyed t words (n + 1) (placed (key_of t words n) l)
            → AllKeyed t words (n + 1) (cond b (key_of t words n ∷ y ∷ l) (y ∷ placed (key_of t words n) l))
        by_test true r = (key_keyed, a)
        by_test false r = (a.0, r)

    -- heuristics have room in a key: a key placed is a node queued
    module _ (small : (i : ℕ) → i ≤ n → heuristic_key (features_of (table_to t words i)) < 32768) where
      key_before : (i : ℕ) → i < n → leb (key_of t words n) (key_of t words i) ≡ before freecell (node_of t words n) (node_of t words i)
      unfolding key_of node_of before
      key_before i b =
          packed-first
          (length (line_to t words n) + heuristic_key (features_of (table_to t words n))) (heuristic_key (features_of (table_to t words n))) n
          (length (line_to t words i) + heuristic_key (features_of (table_to t words i))) (heuristic_key (features_of (table_to t words i))) i
          (small n (omega arith)) (small i (omega arith)) few (omega arith) (λ e. let z : ⊥ = omega arith in z)

      pub placed_queued : (l : List ℕ) → AllKeyed t words n l
          → nodes_by t words (placed (key_of t words n) l) ≡ queued freecell (node_of t words n) (nodes_by t words l)
      unfolding nodes_by placed queued
      placed_queued [] a = ap (λ (i : ℕ). node_of t words i ∷ []) key_number
      placed_queued (y ∷ l) a =
          ap (λ (b : Bool). nodes_by t words (cond b (key_of t words n ∷ y ∷ l) (y ∷ placed (key_of t words n) l)))
          (ap (leb (key_of t words n)) a.0.own ∙ key_before (y % 4294967296) a.0.born)
          ∙ by_test (before freecell (node_of t words n) (node_of t words (y % 4294967296))) (placed_queued l a.1)
        where
          by_test : (b : Bool) → nodes_by t words (placed (key_of t words n) l) ≡ queued freecell (node_of t words n) (nodes_by t words l)
              → nodes_by t words (cond b (key_of t words n ∷ y ∷ l) (y ∷ placed (key_of t words n) l))
              ≡ cond b (node_of t words n ∷ node_of t words (y % 4294967296) ∷ nodes_by t words l)
              (node_of t words (y % 4294967296) ∷ queued freecell (node_of t words n) (nodes_by t words l))
          by_test true e = ap (λ (i : ℕ). node_of t words i ∷ node_of t words (y % 4294967296) ∷ nodes_by t words l) key_number
          by_test false e = ap (λ (xs : List (Node freecell)). node_of t words (y % 4294967296) ∷ xs) e
