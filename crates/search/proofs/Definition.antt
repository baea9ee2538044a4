-- The definition rule by rule, each evaluated on a tiny game. Most of these rules are held by no other theorem and no known hand.
use mathlib.Core.Path.{◌≡◌, refl, sym, subst}
use mathlib.Core.Bool.{Bool, false, true, cond}
use mathlib.Core.List.{List, [], ◌∷◌}
use Prim.Native.Nat.{ℕ, ◌%◌, ◌≤◌}
use native.Mathlib.Omega.{arith}
use borrow.Author.Tests.{eq-eqb, eqb-true}
use lib.Dec.{eqb}
use lib.ListN.{get_or, replicate}
use Rattle.search.specs.Game.{Game}
use Rattle.search.specs.Solve.{none, some, solve}
use Rattle.search.proofs.Opened.{opened}

-- ---- the game

-- a way leads to a place, in so many moves
pub record Way : Type 0 where
  pub place : ℕ
  pub moves : ℕ

abbrev far : ℕ → ℕ → Way
far place moves = record { place = place; moves = moves }

abbrev to : ℕ → Way
to place = far place 1

-- boards are places, given by the ways that lead on from 0, 1, 2, .. and their heuristics (0 where none is given). Place 4 is won;
-- places that differ by 5 count as the same; every place is better than the start, and all are equally good.
abbrev walk : List (List Way) → List ℕ → Game
walk ways hopes =
    record {
      Board = ℕ;
      Move = Way;
      same = λ b c. eqb (b % 5) (c % 5);
      won = λ b. eqb b 4;
      heuristic = λ b. get_or hopes b 0;
      progress = λ b. cond (eqb b 0) 0 1;
      candidates = λ b. get_or ways b [];
      child_moves = λ b w. replicate w.moves w;
      child_board = λ b w. w.place;
    }

-- ---- the depth

-- a child of 200 moves is borne, and if it is won it is the answer
pub child_of_200 : solve (walk ((far 4 200 ∷ []) ∷ []) []) 0 9 9 false ≡ record { number = 0; list = some (replicate 200 (far 4 200)); pops = 2 }
unfolding opened
child_of_200 = refl

-- a child of 201 moves is not
pub child_of_201 : solve (walk ((far 4 201 ∷ []) ∷ []) []) 0 9 9 false ≡ record { number = 4; list = none; pops = 1 }
unfolding opened
child_of_201 = refl

-- a node at depth 200 is taken and not expanded, though its child would need no further move
pub skipped_at_200 : solve (walk ((far 1 200 ∷ []) ∷ (far 4 0 ∷ []) ∷ []) []) 0 9 9 false ≡ record { number = 4; list = none; pops = 2 }
unfolding opened
skipped_at_200 = refl

-- ---- known boards

-- the root's board is known from the start: the way back is dropped
pub way_back : solve (walk ((to 1 ∷ []) ∷ (to 0 ∷ []) ∷ []) []) 0 9 9 false ≡ record { number = 4; list = none; pops = 2 }
unfolding opened
way_back = refl

-- a child of equal cost on a known board is dropped
pub equal_cost : solve (walk ((to 1 ∷ to 1 ∷ []) ∷ []) []) 0 9 9 false ≡ record { number = 4; list = none; pops = 2 }
unfolding opened
equal_cost = refl

-- place 1 waits at cost 3 when its like, 6, is found at cost 2: it is then taken, counted and skipped, so that 4 is never seen
pub dearer_skipped : solve (walk ((far 1 3 ∷ to 2 ∷ []) ∷ (to 4 ∷ []) ∷ (to 6 ∷ []) ∷ []) []) 0 9 9 false ≡ record { number = 4; list = none; pops = 4 }
unfolding opened
dearer_skipped = refl

-- ---- which node is taken first: with a budget of 2 the second pop has to be the win

-- the smaller sum, 1 + 3 before 4 + 1, though its heuristic is larger; 3 + 1 before 1 + 4, though its cost is larger
pub sum_not_heuristic : solve (walk ((far 1 4 ∷ to 4 ∷ []) ∷ []) (0 ∷ 1 ∷ 0 ∷ 0 ∷ 3 ∷ [])) 0 2 9 false ≡ record { number = 0; list = some (to 4 ∷ []); pops = 2 }
unfolding opened
sum_not_heuristic = refl

pub sum_not_cost : solve (walk ((to 1 ∷ far 4 3 ∷ []) ∷ []) (0 ∷ 4 ∷ 0 ∷ 0 ∷ 1 ∷ [])) 0 2 9 false ≡ record { number = 0; list = some (replicate 3 (far 4 3)); pops = 2 }
unfolding opened
sum_not_cost = refl

-- of equal sums the smaller heuristic, 2 + 2 before 1 + 3, though it is younger
pub smaller_heuristic : solve (walk ((to 1 ∷ far 4 2 ∷ []) ∷ []) (0 ∷ 3 ∷ 0 ∷ 0 ∷ 2 ∷ [])) 0 2 9 false ≡ record { number = 0; list = some (replicate 2 (far 4 2)); pops = 2 }
unfolding opened
smaller_heuristic = refl

-- of equal both the older
pub older : solve (walk ((to 4 ∷ to 1 ∷ []) ∷ []) []) 0 2 9 false ≡ record { number = 0; list = some (to 4 ∷ []); pops = 2 }
unfolding opened
older = refl

-- ---- the best progress

-- the first of equal progress stays best
pub first_best : solve (walk ((to 1 ∷ to 2 ∷ []) ∷ []) []) 0 1 9 true ≡ record { number = 1; list = some (to 1 ∷ []); pops = 1 }
unfolding opened
first_best = refl

-- where no child is better than the start there is no list, though partial is allowed
pub none_better : solve (walk ([] ∷ (to 2 ∷ []) ∷ []) []) 1 1 9 true ≡ record { number = 3; list = none; pops = 1 }
unfolding opened
none_better = refl

-- ---- a best line that finishes, and is lost: 4 is won, found at cost 2; its like, 9, which is not, is found at cost 1 after it, so that 4 is
-- skipped when it is taken

abbrev blurred : Game
blurred = walk ((far 4 2 ∷ to 9 ∷ []) ∷ []) []

pub finishing : solve blurred 0 1 9 true ≡ record { number = 5; list = some (replicate 2 (far 4 2)); pops = 1 }
unfolding opened
finishing = refl

pub finishing_lost : solve blurred 0 9 9 true ≡ record { number = 2; list = some (replicate 2 (far 4 2)); pops = 3 }
unfolding opened
finishing_lost = refl

-- though the game keeps both laws that stand behind `finishes` (Finishing.antt): a place is like itself, and none is better than 4
pub like_itself : (b : ℕ) → blurred.same b b ≡ true
like_itself b = eq-eqb (b % 5) (b % 5) refl

pub none_above : (b c : ℕ) → blurred.won b ≡ true → blurred.progress c ≤ blurred.progress b
none_above b c e =
    let q = eqb-true b 4 e in
    subst (λ (n : ℕ). blurred.progress c ≤ cond (eqb n 0) 0 1) (sym q) (at_most_lem (eqb c 0))
  where
    at_most_lem : (t : Bool) → cond t 0 1 ≤ 1
    at_most_lem true = omega arith
    at_most_lem false = omega arith

-- the flag alone brings it
pub finishing_unasked : solve blurred 0 1 9 false ≡ record { number = 3; list = none; pops = 1 }
unfolding opened
finishing_unasked = refl
