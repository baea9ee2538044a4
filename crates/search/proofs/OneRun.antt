-- T4: the runs of one board are prefixes of one run; budget and capacity only say where it stops.
use mathlib.Core.Path.{◌≡◌, refl, sym, ap, ◌∙◌, subst}
use Prim.Native.Nat.{ℕ, ◌+◌, ◌-◌, ◌<◌, ◌≤◌}
use native.Mathlib.Omega.{arith}
use Rattle.search.specs.Game.{Game}
use Rattle.search.specs.Solve.{State, End, won, limit, exhausted, out_of_nodes_at}
use Rattle.search.specs.Solve.{run}
use Rattle.search.specs.Claims.{Follows}
use Rattle.search.proofs.Later.{Fixed, stays, goes_on}
use Rattle.search.proofs.Room.{room_when}

module _ (G : Game) where
  -- with no budget left the capacity does not matter
  at_rest : (c d : ℕ) (s : State G) → run G 0 c s ≡ run G 0 d s
  unfolding run
  at_rest c d s = refl

  -- after so many turns a run with more room is at the same state
  limit_kept : {c d : ℕ} → c ≤ d → (k : ℕ) (s u : State G) → run G k c s ≡ limit u → run G k d s ≡ limit u
  limit_kept {c} {d} more k s u e =
      let none_left : k - k ≡ 0 = omega arith in
      goes_on G more k k (omega arith) s u e
      ∙ ap (λ (j : ℕ). run G j d u) none_left
      ∙ at_rest d c u
      ∙ sym (goes_on G {c = c} {d = c} (omega arith) k k (omega arith) s u e ∙ ap (λ (j : ℕ). run G j c u) none_left)
      ∙ e

  -- T4: after so many turns every search of a board is at the same state, whatever its capacity
  pub same_state : (k c d : ℕ) (s u v : State G) → run G k c s ≡ limit u → run G k d s ≡ limit v → u ≡ v
  same_state k c d s u v e f =
      let h : c ≤ c + d = omega arith in
      let i : d ≤ c + d = omega arith in
      let same = sym (limit_kept h k s u e) ∙ limit_kept i k s v f in
      cc

  module _ {a c x y : ℕ} (h : a ≤ x) (i : c ≤ y) (s : State G) where
    -- T4: a run with larger settings ends as the smaller one does, or goes on from where that one stopped
    pub prefix : (e : End G) → run G a c s ≡ e → Follows G a c x y s e
    prefix (won l p) e = stays G i a x h s (subst (Fixed G) (sym e) tt) ∙ e
    prefix (limit u) e = goes_on G i a x h s u e
    prefix (exhausted u) e = stays G i a x h s (subst (Fixed G) (sym e) tt) ∙ e
    prefix (out_of_nodes_at p) e =
        let r = room_when G a c s p e in
        let within : r.turns < a = r.within in
        record {
          turns = r.turns;
          within = r.within;
          state = r.state;
          came = r.came;
          counted = r.counted;
          on = goes_on G i r.turns x (omega arith) s r.state r.came;
        }
