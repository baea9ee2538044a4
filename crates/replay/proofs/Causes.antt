-- Why the move of a record is refused; and the record at which a line is stopped is refused with the line's number.
use mathlib.Core.Path.{◌≡◌, refl, sym, ap, ◌∙◌}
use mathlib.Core.Bool.{true, false}
use mathlib.Core.List.{List, [], ◌∷◌}
use Prim.Native.Nat.{ℕ, suc, ◌<◌}
use native.Mathlib.Omega.{arith}
use lib.ListN.{length, get_or}
use Rattle.base.specs.Answer.{Answer, given, refused}
use Rattle.board.specs.Verdict.{Verdict, after}
use Rattle.board.specs.Record.{shown}
use Rattle.board.specs.declared.Board.{Board}
use Rattle.moves.specs.Record.{possible, move_of, move_asked}
use Rattle.moves.specs.Play.{after_move}
use Rattle.moves.specs.Causes.{ruling, played}
use Rattle.replay.specs.Step.{recorded, stepped}
use Rattle.replay.specs.Line.{go_on, line_from}

-- ---- the record of a move

module _ (b : Board) (bytes : List ℕ) where
  pub record_impossible : possible bytes ≡ false → stepped b bytes ≡ refused 30
  unfolding stepped move_asked
  record_impossible e = rw e

  module _ (ok : possible bytes ≡ true) where
    abbrev by_ruling : Verdict → Answer Board
    by_ruling v = recorded (after v (given (after_move (shown b) (move_of bytes))))

    record_ruled : stepped b bytes ≡ by_ruling (ruling (shown b) (move_of bytes))
    unfolding stepped move_asked played
    record_ruled = rw ok

    pub record_given : {n : ℕ} → ruling (shown b) (move_of bytes) ≡ refused n → stepped b bytes ≡ refused n
    record_given e = record_ruled ∙ ap by_ruling e

    pub record_only : {n : ℕ} → stepped b bytes ≡ refused n → ruling (shown b) (move_of bytes) ≡ refused n
    record_only {n} e = by (ruling (shown b) (move_of bytes)) (sym record_ruled ∙ e)
      where
        by : (v : Verdict) → by_ruling v ≡ refused n → v ≡ refused n
        by (given u) q = let z : ◌≡◌ {A = ℕ} 0 1 = cc in absurd (let w : ⊥ = omega arith in w)
        by (refused k) q = let same : k ≡ n = cc in ap refused same

-- ---- a line

module _ {n : ℕ} where
  -- a line that is stopped has a record at the place
  pub bad_place : (rs : List (List ℕ)) (b : Board) → (line_from b rs).verdict ≡ refused n → (line_from b rs).moves < length rs
  unfolding line_from
  bad_place [] b e = let z : ◌≡◌ {A = ℕ} 0 1 = cc in absurd (let w : ⊥ = omega arith in w)
  bad_place (r ∷ rs) b e = by (stepped b r) (bad_place rs) e
    where
      by : (a : Answer Board) → ((c : Board) → (line_from c rs).verdict ≡ refused n → (line_from c rs).moves < length rs)
          → (go_on b a (λ c. line_from c rs)).verdict ≡ refused n → (go_on b a (λ c. line_from c rs)).moves < suc (length rs)
      by (given c) on e = let h = on c e in omega arith
      by (refused k) on e = omega arith

  -- which is refused with the line's number, on the board where the line stopped
  pub bad_record : (rs : List (List ℕ)) (b : Board) → (line_from b rs).verdict ≡ refused n
      → stepped (line_from b rs).board (get_or rs (line_from b rs).moves []) ≡ refused n
  unfolding line_from
  bad_record [] b e = let z : ◌≡◌ {A = ℕ} 0 1 = cc in absurd (let w : ⊥ = omega arith in w)
  bad_record (r ∷ rs) b e = by (stepped b r) refl (bad_record rs) e
    where
      by : (a : Answer Board) → stepped b r ≡ a
          → ((c : Board) → (line_from c rs).verdict ≡ refused n → stepped (line_from c rs).board (get_or rs (line_from c rs).moves []) ≡ refused n)
          → (go_on b a (λ c. line_from c rs)).verdict ≡ refused n
          → stepped (go_on b a (λ c. line_from c rs)).board (get_or (r ∷ rs) (go_on b a (λ c. line_from c rs)).moves []) ≡ refused n
      by (given c) q on e = on c e
      by (refused k) q on e = let same : k ≡ n = cc in q ∙ ap refused same
