-- The safe chain: legal, of at most 52 moves, it keeps the cards, and no safe move is left after it.
use Rattle.std.specs.Prelude.{None, Some, Option}
use mathlib.Core.Path.{◌≡◌, refl, sym, ap, ◌∙◌, subst}
use mathlib.Core.List.{List, [], ◌∷◌}
use Prim.Native.Nat.{ℕ, zero, suc, ◌+◌, ◌≤◌}
use native.Mathlib.Omega.{arith}
use lib.ListN.{length}
use Rattle.base.specs.Words.{occurs}
use Rattle.board.specs.Table.{Table, cards_on}
use Rattle.board.specs.Record.{board_of}
use Rattle.board.specs.Inner.{Sound}
use Rattle.board.specs.Fair.{Fair}
use Rattle.board.proofs.Fair.{fair_sound}
use Rattle.questions.specs.Questions.{home_count}
use Rattle.moves.specs.Play.{after_move}
use Rattle.moves.specs.declared.Move.{Move}
use Rattle.replay.specs.Played.{after_moves, Legal}
use Rattle.replay.proofs.Legal.{after_none, after_next, legal_fair, legal_cards}
use Rattle.safe.specs.Safe.{first_safe}
use Rattle.safe.specs.Chain.{and_on, chain_of, chain}
use Rattle.safe.proofs.Safety.{safe_said, safe-allowed, safe_fair, one_more_home, all-home}

pub chain_next : (n : ℕ) (t : Table) {m : Move} → first_safe t ≡ Some m → chain_of (suc n) t ≡ m ∷ chain_of n (after_move t m)
unfolding chain_of
chain_next n t e = ap (λ (r : Option Move). and_on t r (chain_of n)) e

pub chain_none : (t : Table) → chain_of 0 t ≡ []
unfolding chain_of
chain_none t = refl

pub chain_stops : (n : ℕ) (t : Table) → first_safe t ≡ None → chain_of n t ≡ []
unfolding chain_of
chain_stops zero t e = refl
chain_stops (suc n) t e = ap (λ (r : Option Move). and_on t r (chain_of n)) e

-- at most n moves of it, and none is left if that is as many as can go home
record Good (n : ℕ) (t : Table) (ms : List Move) : Type 0 where
  legal : Legal t ms
  most : length ms ≤ n
  ends : 52 ≤ home_count t.foundation + n → first_safe (after_moves t ms) ≡ None

good_none : (n : ℕ) (t : Table) → (52 ≤ home_count t.foundation + n → first_safe t ≡ None) → Good n t []
good_none n t h = record { legal = tt; most = omega arith; ends = λ k. ap first_safe (after_none t) ∙ h k }

good_more : (n : ℕ) (t : Table) {m : Move} {ms : List Move} → first_safe t ≡ Some m → Fair t → Good n (after_move t m) ms → Good (suc n) t (m ∷ ms)
good_more n t {m} {ms} e f g =
    record {
      legal = (safe_said t e f, (safe-allowed t e, g.legal));
      most = let l = g.most in omega arith;
      ends = λ h. ap first_safe (after_next t m ms) ∙ g.ends (let o = one_more_home t e f in omega arith);
    }

good : (n : ℕ) (t : Table) → Fair t → Good n t (chain_of n t)
good zero t f = subst (Good 0 t) (sym (chain_none t)) (good_none 0 t (λ h. all-home t f (omega arith)))
good (suc n) t f = by_first (good n) (first_safe t) refl
  where
    by_first : ((u : Table) → Fair u → Good n u (chain_of n u)) → (r : Option Move) → first_safe t ≡ r → Good (suc n) t (chain_of (suc n) t)
    by_first on None e = subst (Good (suc n) t) (sym (chain_stops (suc n) t e)) (good_none (suc n) t (λ h. e))
    by_first on (Some m) e =
        subst (Good (suc n) t) (sym (chain_next n t e)) (good_more n t e f (on (after_move t m) (safe_fair t e f)))

module _ (t : Table) (f : Fair t) where
  pub chain_legal : Legal t (chain t)
  unfolding chain
  chain_legal = (good 52 t f).legal

  pub chain_most : length (chain t) ≤ 52
  unfolding chain
  chain_most = (good 52 t f).most

  pub chain_fair : Fair (after_moves t (chain t))
  chain_fair = legal_fair (chain t) t f chain_legal

  pub chain_ends : first_safe (after_moves t (chain t)) ≡ None
  unfolding chain
  chain_ends = (good 52 t f).ends (omega arith)

  -- every card is still there
  pub chain-cards : (x : ℕ) → occurs x (cards_on (after_moves t (chain t))) ≡ occurs x (cards_on t)
  chain-cards = legal_cards (chain t) t f chain_legal

  pub chain_sound : Sound (board_of (after_moves t (chain t)))
  chain_sound = fair_sound (after_moves t (chain t)) chain_fair
