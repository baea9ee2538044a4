-- What is said and left of a sheet, as C gets it.
use Rattle.std.specs.Prelude.{Result}
use Rattle.board.specs.Refusal.{answered}
use Rattle.board.specs.declared.Refusal.{Refusal}
use mathlib.Core.Path.{◌≡◌, refl, ap, ap₂, ◌∙◌}
use mathlib.Core.List.{List}
use Prim.Native.Nat.{ℕ}
use Rattle.base.specs.Answer.{Answer, given, refused}
use Rattle.board.specs.Verdict.{Verdict}
use Rattle.sheets.specs.Adding.{add_asked}
use Rattle.sheets.specs.Promises.{said_of, left_of, Adds}
use Rattle.season.specs.Season.{Lent, filled, left_by, season_in}
use Rattle.season.specs.Inner.{Leaves}
use Rattle.crossing.specs.Crossing.{left, told, crossed}
use Rattle.crossing.specs.Values.{value_left}
use Rattle.crossing.specs.Numbers.{flag}
use Rattle.corbelnib.specs.Season.{season_left, add_left}

pub season_left_lem : {old new : Lent} {first last budget : ℕ} (partial : ℕ) {e : Result (Unit {0}) Refusal} {r : ℕ} → Leaves old new first last budget (flag partial) e
    → r ≡ told (answered e) → left r new ≡ season_left first last budget partial old
unfolding season_left
season_left_lem {old} {new} {first} {last} {budget} partial {e} l q =
    ap₂ (λ (n : ℕ) (m : Lent). left n m) (q ∙ ap (λ (v : Verdict). told v) l.said) l.left ∙ by (season_in old first last budget (flag partial))
  where
    by : (a : Answer (List ℕ)) → left (told (said_of a)) (left_by old a) ≡ crossed a old (λ words. left 0 (filled old words))
    by (given words) = refl
    by (refused n) = refl

pub add_left_lem : {a b X : List ℕ} {e : Result (Unit {0}) Refusal} {r : ℕ} → Adds a b X e → r ≡ told (answered e) → left r X ≡ add_left a b
unfolding add_left
add_left_lem {a} {b} l q =
    ap₂ (λ (n : ℕ) (m : List ℕ). left n m) (q ∙ ap (λ (v : Verdict). told v) l.said) l.left ∙ by (add_asked a b)
  where
    by : (x : Answer (List ℕ)) → left (told (said_of x)) (left_of a x) ≡ value_left x a
    by (given words) = refl
    by (refused n) = refl
