-- Every candidate can be said and is allowed, and there are at most 332.
use mathlib.Core.Path.{◌≡◌, refl, sym, ap, ◌∙◌, subst}
use mathlib.Core.Bool.{Bool, true, false, cond, not}
use mathlib.Core.List.{List, [], ◌∷◌, ◌++◌}
use mathlib.Core.Logic.{inl, inr}
use Prim.Native.Nat.{suc, ◌+◌, ◌≤◌}
use native.Mathlib.Omega.{arith}
use lib.Dec.{leb}
use lib.Signed.{le_z}
use lib.ListN.{length, length-append}
use Rattle.board.specs.Table.{Table}
use Rattle.board.specs.Fair.{Fair}
use Rattle.questions.specs.Questions.{home_count}
use Rattle.moves.specs.declared.Move.{Move}
use Rattle.generate.specs.Found.{found, is_in}
use Rattle.generate.specs.declared.Way.{Way}
use Rattle.generate.specs.declared.Way.TheVariants.{ColumnToColumn, ColumnToHome, ColumnToCell, CellToColumn, CellToHome, HomeToColumn}
use Rattle.generate.proofs.Members.{found-allowed, found_said}
use Rattle.generate.proofs.Sizes.{most_found_lem}
use Rattle.generate.proofs.Few.{few_runs}
use Rattle.score.specs.Weights.{ENDGAME_UNSAFE_FOUNDATION_THRESHOLD}
use Rattle.safe.specs.Safe.{chosen, is_safe, home_moves}
use Rattle.priority.specs.Priority.{priority_on}
use Rattle.candidates.specs.Candidates.{worthwhile, is_unsafe, late_moves, tried, ranked, in_order, candidates}
use Rattle.candidates.specs.Inner.{most_tried, Playable, AllPlayable}

-- ---- moves that can be played

module _ (t : Table) where
  all_in : (ms : List Move) → ((m : Move) → is_in m ms → Playable t m) → AllPlayable t ms
  all_in [] p = tt
  all_in (m ∷ ms) p = (p m (inl refl), all_in ms (λ n i. p n (inr i)))

  all_append : (ms ns : List Move) → AllPlayable t ms → AllPlayable t ns → AllPlayable t (ms ++ ns)
  all_append [] ns a b = b
  all_append (m ∷ ms) ns a b = (a.0, all_append ms ns a.1 b)

  either : (r : Bool) (ms ns : List Move) → AllPlayable t ms → AllPlayable t ns → AllPlayable t (cond r ms ns)
  either true ms ns a b = a
  either false ms ns a b = b

  pub all-chosen : (p : Move → Bool) (ms : List Move) → AllPlayable t ms → AllPlayable t (chosen p ms)
  unfolding chosen
  all-chosen p [] a = tt
  all-chosen p (m ∷ ms) a = either (p m) (m ∷ chosen p ms) (chosen p ms) (a.0, all-chosen p ms a.1) (all-chosen p ms a.1)

  all-ranked : (m : Move) (ms : List Move) → Playable t m → AllPlayable t ms → AllPlayable t (ranked t m ms)
  unfolding ranked
  all-ranked m [] p a = (p, tt)
  all-ranked m (y ∷ l) p a = either (le_z (priority_on t y) (priority_on t m)) (m ∷ y ∷ l) (y ∷ ranked t m l) (p, a) (a.0, all-ranked m l p a.1)

  all_ordered : (ms : List Move) → AllPlayable t ms → AllPlayable t (in_order t ms)
  unfolding in_order
  all_ordered [] a = tt
  all_ordered (m ∷ ms) a = all-ranked m (in_order t ms) a.0 (all_ordered ms a.1)

  -- what stands among them
  pub one_of_all : (m : Move) (ms : List Move) → is_in m ms → AllPlayable t ms → Playable t m
  one_of_all m [] i a = absurd i
  one_of_all m (x ∷ l) (inl e) a = subst (Playable t) (sym e) a.0
  one_of_all m (x ∷ l) (inr i) a = one_of_all m l i a.1

  module _ (f : Fair t) where
    pub all_found : (w : Way) → AllPlayable t (found t w)
    all_found w = all_in (found t w) (λ m i. record { said = found_said t w m f i; allows = (found-allowed t w m i).0 })

    pub all-home : AllPlayable t (home_moves t)
    unfolding home_moves
    all-home = all_append (found t ColumnToHome) (found t CellToHome) (all_found ColumnToHome) (all_found CellToHome)

    all_late : AllPlayable t (late_moves t)
    unfolding late_moves
    all_late =
        either (leb ENDGAME_UNSAFE_FOUNDATION_THRESHOLD (home_count t.foundation)) (chosen (is_unsafe t) (home_moves t)) []
        (all-chosen (is_unsafe t) (home_moves t) all-home) tt

    pub all-tried : AllPlayable t (tried t)
    unfolding tried
    all-tried =
        all_append (chosen (is_safe t) (home_moves t)) _ (all-chosen (is_safe t) (home_moves t) all-home)
        (all_append (chosen (worthwhile t) (found t HomeToColumn)) _ (all-chosen (worthwhile t) (found t HomeToColumn) (all_found HomeToColumn))
        (all_append (found t ColumnToColumn) _ (all_found ColumnToColumn)
        (all_append (found t CellToColumn) _ (all_found CellToColumn)
        (all_append (found t ColumnToCell) _ (all_found ColumnToCell) all_late))))

    pub all-candidates : AllPlayable t (candidates t)
    unfolding candidates
    all-candidates = all_ordered (tried t) all-tried

  -- ---- how many there are

  pub fewer_chosen : (p : Move → Bool) (ms : List Move) → length (chosen p ms) ≤ length ms
  unfolding chosen
  fewer_chosen p [] = omega arith
  fewer_chosen p (m ∷ ms) = by_test (p m) (fewer_chosen p ms)
    where
      by_test : (r : Bool) → length (chosen p ms) ≤ length ms → length (cond r (m ∷ chosen p ms) (chosen p ms)) ≤ suc (length ms)
      by_test true h = omega arith
      by_test false h = omega arith

  -- a move is safe or unsafe
  pub either_chosen : (ms : List Move) → length (chosen (is_safe t) ms) + length (chosen (is_unsafe t) ms) ≡ length ms
  unfolding chosen is_unsafe
  either_chosen [] = refl
  either_chosen (m ∷ ms) = by_test (is_safe t m) (either_chosen ms)
    where
      by_test : (r : Bool) → length (chosen (is_safe t) ms) + length (chosen (is_unsafe t) ms) ≡ length ms
          → length (cond r (m ∷ chosen (is_safe t) ms) (chosen (is_safe t) ms)) + length (cond (not r) (m ∷ chosen (is_unsafe t) ms) (chosen (is_unsafe t) ms)) ≡ suc (length ms)
      by_test true e = omega arith
      by_test false e = omega arith

  pub most_home : length (home_moves t) ≤ 12
  unfolding home_moves
  most_home =
      let l = length-append (found t ColumnToHome) (found t CellToHome) in
      let a = most_found_lem t ColumnToHome in
      let b = most_found_lem t CellToHome in
      omega arith

  fewer_late : length (late_moves t) ≤ length (chosen (is_unsafe t) (home_moves t))
  unfolding late_moves
  fewer_late = by_test (leb ENDGAME_UNSAFE_FOUNDATION_THRESHOLD (home_count t.foundation))
    where
      by_test : (r : Bool) → length (cond r (chosen (is_unsafe t) (home_moves t)) []) ≤ length (chosen (is_unsafe t) (home_moves t))
      by_test true = omega arith
      by_test false = omega arith

  pub most_tried_lem : length (tried t) ≤ most_tried
  unfolding tried
  most_tried_lem =
      let safes = chosen (is_safe t) (home_moves t) in
      let backs = chosen (worthwhile t) (found t HomeToColumn) in
      let runs = found t ColumnToColumn in
      let downs = found t CellToColumn in
      let ups = found t ColumnToCell in
      let l1 = length-append safes (backs ++ (runs ++ (downs ++ (ups ++ late_moves t)))) in
      let l2 = length-append backs (runs ++ (downs ++ (ups ++ late_moves t))) in
      let l3 = length-append runs (downs ++ (ups ++ late_moves t)) in
      let l4 = length-append downs (ups ++ late_moves t) in
      let l5 = length-append ups (late_moves t) in
      let h = either_chosen (home_moves t) in
      let m = most_home in
      let b = fewer_chosen (worthwhile t) (found t HomeToColumn) in
      let b2 = most_found_lem t HomeToColumn in
      let r = few_runs t in
      let d = most_found_lem t CellToColumn in
      let u = most_found_lem t ColumnToCell in
      let f = fewer_late in
      omega arith

  length-ranked : (m : Move) (ms : List Move) → length (ranked t m ms) ≡ suc (length ms)
  unfolding ranked
  length-ranked m [] = refl
  length-ranked m (y ∷ l) = by_test (le_z (priority_on t y) (priority_on t m)) (length-ranked m l)
    where
      by_test : (r : Bool) → length (ranked t m l) ≡ suc (length l) → length (cond r (m ∷ y ∷ l) (y ∷ ranked t m l)) ≡ suc (suc (length l))
      by_test true e = refl
      by_test false e = ap suc e

  pub length_ordered : (ms : List Move) → length (in_order t ms) ≡ length ms
  unfolding in_order
  length_ordered [] = refl
  length_ordered (m ∷ ms) = length-ranked m (in_order t ms) ∙ ap suc (length_ordered ms)

  -- no board has more than 332 candidates
  pub most_candidates : length (candidates t) ≤ most_tried
  unfolding candidates
  most_candidates = let l = length_ordered (tried t) in let m = most_tried_lem in omega arith
