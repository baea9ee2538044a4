-- Deciding whether a move is allowed, test by test, in the order of the causes.
use mathlib.Core.Path.{◌≡◌, refl, ap, ◌∙◌}
use mathlib.Core.Bool.{true, false, ◌&&◌}
use mathlib.Core.List.{List, [], ◌∷◌}
use Prim.Native.Nat.{ℕ, ◌<◌, ◌≤◌}
use native.Mathlib.Omega.{arith}
use borrow.Author.Tests.{le-leb, lt-leb, eq-eqb}
use lib.Dec.{leb}
use lib.ListN.{length, get_or}
use Rattle.card.specs.Card.{code_of}
use Rattle.base.proofs.Words.{first_fails, second_fails}
use Rattle.board.specs.Table.{Table}
use Rattle.runs.specs.Run.{is_run}
use Rattle.moves.specs.Move.{from, to, count, card}
use Rattle.moves.specs.Play.{there, last_of, hand, elsewhere, within_limit, takes, allowed}
use Rattle.moves.specs.declared.Move.{Move}
use Rattle.moves.proofs.Allowing.{last_length}

module _ (t : Table) (m : Move) where
  pub deny_away : elsewhere (from m) (to m) ≡ false → allowed t m ≡ false
  unfolding allowed
  deny_away e = first_fails (elsewhere (from m) (to m)) _ e

  pub deny_some : length (there t (from m)) < 1 → allowed t m ≡ false
  unfolding allowed
  deny_some h = second_fails (elsewhere (from m) (to m)) _ (first_fails (leb 1 (length (there t (from m)))) _ (lt-leb 1 (length (there t (from m))) h))

  -- past the first four tests the others decide
  module _ (away : elsewhere (from m) (to m) ≡ true) (some : 1 ≤ length (there t (from m))) (enough : count m ≤ length (there t (from m)))
      (named : get_or (hand t m) 0 0 ≡ code_of (card m)) where
    pub others_decide : allowed t m
        ≡ (within_limit t (from m) (to m) (count m) && (is_run (hand t m) && takes t (to m) (code_of (card m))))
    unfolding allowed
    others_decide =
        rw (
          away,
          le-leb 1 (length (there t (from m))) some,
          le-leb (count m) (length (there t (from m))) enough,
          eq-eqb (get_or (hand t m) 0 0) (code_of (card m)) named,
        )

-- ---- moves of one card

one_run : (l : List ℕ) → length l ≡ 1 → is_run l ≡ true
unfolding is_run
one_run [] e = absurd (let z : ⊥ = omega arith in z)
one_run (x ∷ []) e = refl
one_run (x ∷ y ∷ l) e = absurd (let z : ⊥ = omega arith in z)

module _ (t : Table) (m : Move) (one : count m ≡ 1) where
  -- the card in the hand is the last one there
  pub one_named : get_or (hand t m) 0 0 ≡ get_or (last_of 1 (there t (from m))) 0 0
  unfolding hand
  one_named = ap (λ (n : ℕ). get_or (last_of n (there t (from m))) 0 0) one

  pub one_is_run : 1 ≤ length (there t (from m)) → is_run (hand t m) ≡ true
  unfolding hand
  one_is_run some = one_run (last_of (count m) (there t (from m))) (last_length (count m) (there t (from m)) (omega arith) ∙ one)

  pub one_decided : elsewhere (from m) (to m) ≡ true → within_limit t (from m) (to m) (count m) ≡ true → 1 ≤ length (there t (from m))
      → get_or (last_of 1 (there t (from m))) 0 0 ≡ code_of (card m) → allowed t m ≡ takes t (to m) (code_of (card m))
  one_decided away limit some named =
      others_decide t m away some (omega arith) (one_named ∙ named) ∙ rw (limit, one_is_run some)
