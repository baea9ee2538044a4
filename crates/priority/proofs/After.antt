-- The board after a move that can be made: it is sound, and its features are those of the table after the move.
use mathlib.Core.Path.{◌≡◌, sym, ap, ap₂, ◌∙◌, subst}
use Prim.Native.Nat.{ℕ}
use native.Mathlib.Omega.{arith}
use lib.IntN.{sub_ℕ}
use mir.Syntax.{w64}
use mir.Val.{SFits}
use Rattle.board.specs.Table.{Table}
use Rattle.board.specs.Record.{shown, board_of}
use Rattle.board.specs.Inner.{Sound}
use Rattle.board.specs.declared.Board.{Board}
use Rattle.moves.specs.Play.{after_move}
use Rattle.moves.specs.declared.Move.{Move}
use Rattle.play.specs.Change.{Becomes, Ready}
use Rattle.replay.proofs.Stepping.{became, sound_after, shown-after}
use Rattle.generate.specs.Found.{way_of}
use Rattle.generate.specs.declared.Way.{Way}
use Rattle.features.specs.Features.{Bounded, features_of}
use Rattle.features.specs.declared.Features.{Features}
use Rattle.features.proofs.Bounds.{bounded}
use Rattle.score.proofs.Signs.{sub_fits}
use Rattle.priority.specs.Priority.{priority_adds, priority_takes, priority, priority_on}
use Rattle.priority.proofs.Sizes.{priority_adds_most, priority-takes_most}

module _ {b : Board} {m : Move} (r : Ready b m) {a : Board} (e : Becomes a (after_move (shown b) m)) where
  pub sound_then : Sound a
  sound_then = subst Sound (became e) (sound_after b r.sound m r.said r.allows)

  pub features_then : {f : Features} → f ≡ features_of (shown a) → f ≡ features_of (after_move (shown b) m)
  features_then q = q ∙ ap features_of e.shows

  pub bounded_then : {f : Features} → f ≡ features_of (shown a) → Bounded f
  bounded_then q = subst Bounded (sym q) (bounded a sound_then)

-- ---- the priority of a move on a table

pub priority_is : (t : Table) (m : Move) {w : Way} {f g : Features} {adds takes : ℕ} → w ≡ way_of m → f ≡ features_of t → g ≡ features_of (after_move t m)
    → adds ≡ priority_adds w f g → takes ≡ priority_takes w f g → sub_ℕ adds takes ≡ priority_on t m
unfolding priority_on priority
priority_is t m {w} {f} {g} p q r a b =
    ap₂ sub_ℕ a b ∙ ap (λ (v : Way). sub_ℕ (priority_adds v f g) (priority_takes v f g)) p
    ∙ ap (λ (h : Features). sub_ℕ (priority_adds (way_of m) h g) (priority_takes (way_of m) h g)) q
    ∙ ap (λ (h : Features). sub_ℕ (priority_adds (way_of m) (features_of t) h) (priority_takes (way_of m) (features_of t) h)) r

-- as a signed word it fits
pub priority_fits : {b : Board} {m : Move} → Ready b m → SFits w64 (priority_on (shown b) m)
unfolding priority_on priority
priority_fits {b} {m} r =
    let before = bounded b r.sound in
    let u = board_of (after_move (shown b) m) in
    let after : Bounded (features_of (after_move (shown b) m)) =
    subst (λ (t : Table). Bounded (features_of t)) (shown-after b r.sound m r.said r.allows) (bounded u (sound_after b r.sound m r.said r.allows)) in
    let a = priority_adds_most (way_of m) (features_of (shown b)) (features_of (after_move (shown b) m)) before after in
    let t = priority-takes_most (way_of m) (features_of (shown b)) (features_of (after_move (shown b) m)) before after in
    sub_fits (priority_adds (way_of m) (features_of (shown b)) (features_of (after_move (shown b) m))) (priority_takes (way_of m) (features_of (shown b)) (features_of (after_move (shown b) m))) (omega arith) (omega arith)
