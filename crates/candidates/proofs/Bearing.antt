-- A child of a fair table: its moves are legal, there is at least one, and its table is fair.
use mathlib.Core.Path.{◌≡◌, refl, sym, ap, ◌∙◌, subst}
use mathlib.Core.List.{List, [], ◌∷◌}
use Prim.Native.Nat.{ℕ, ◌+◌, ◌≤◌}
use native.Mathlib.Omega.{arith}
use lib.ListN.{length}
use Rattle.board.specs.Table.{Table}
use Rattle.board.specs.Record.{shown, board_of}
use Rattle.board.specs.Inner.{Sound}
use Rattle.board.specs.declared.Board.{Board}
use Rattle.board.specs.Fair.{Fair}
use Rattle.board.proofs.Fair.{shows_fair}
use Rattle.moves.specs.Play.{after_move}
use Rattle.moves.specs.declared.Move.{Move}
use Rattle.moves.proofs.Fairness.{fair_after}
use Rattle.play.specs.Change.{Becomes, Ready}
use Rattle.replay.specs.Played.{after_moves, Legal}
use Rattle.replay.proofs.Stepping.{became, sound_after}
use Rattle.replay.proofs.Legal.{after_none, after_next, legal_fair}
use Rattle.safe.specs.Chain.{chain}
use Rattle.safe.specs.Asked.{Runs}
use Rattle.safe.proofs.Chaining.{chain_legal, chain_most}
use Rattle.candidates.specs.Children.{child_moves, child_table}
use Rattle.candidates.specs.Inner.{Playable, Bears}

module _ (t : Table) (f : Fair t) (m : Move) (p : Playable t m) where
  pub child_legal : Legal t (child_moves t m)
  unfolding child_moves
  child_legal = (p.said, (p.allows, chain_legal (after_move t m) (fair_after t m f p.said p.allows)))

  pub child_fair : Fair (child_table t m)
  unfolding child_table
  child_fair = legal_fair (child_moves t m) t f child_legal

pub child_reached : (t : Table) (m : Move) → after_moves t (child_moves t m) ≡ child_table t m
unfolding child_table
child_reached t m = refl

pub child_some : (t : Table) (m : Move) → 1 ≤ length (child_moves t m)
unfolding child_moves
child_some t m = omega arith

no_moves : (ms : List Move) → length ms ≡ 0 → ms ≡ []
no_moves [] e = refl
no_moves (m ∷ ms) e = absurd (let z : ⊥ = omega arith in z)

-- a child of one move has no chain
pub child_alone : (t : Table) (m : Move) → length (child_moves t m) ≡ 1 → child_table t m ≡ after_move t m
unfolding child_moves child_table
child_alone t m e =
    let rest = chain (after_move t m) in
    after_next t m rest ∙ ap (after_moves (after_move t m)) (no_moves rest (omega arith)) ∙ after_none (after_move t m)

-- ---- in code: the move, and then the chain

module _ {b : Board} {m : Move} (r : Ready b m) {next : Board} (e : Becomes next (after_move (shown b) m)) where
  pub next_sound : Sound next
  next_sound = subst Sound (became e) (sound_after b r.sound m r.said r.allows)

  module _ {last : Board} {moves : ℕ} (d : Runs next last moves) where
    pub few_moves : moves ≤ 52
    few_moves = let h = chain_most (shown next) (shows_fair next_sound) in let q = d.many in omega arith

    pub bears : Bears b m (moves + 1) last
    unfolding child_moves child_table
    bears =
        record {
          many = let q = d.many in let s = ap (λ (t : Table). length (chain t)) e.shows in omega arith;
          becomes = d.ends ∙ ap (λ (t : Table). board_of (after_moves t (chain t))) e.shows
              ∙ ap board_of (sym (after_next (shown b) m (chain (after_move (shown b) m))));
        }
