-- Seasons and their sums: every season's sheet is good, and the seasons of two runs that share no number add up to the sheet over both.
use mathlib.Core.Path.{◌≡◌, sym, ap, ap₂, ◌∙◌, fun_ext}
use mathlib.Core.Bool.{true, false, ◌&&◌, ◌||◌}
use mathlib.Core.List.{List}
use Prim.Native.Nat.{ℕ, suc, ◌+◌, ◌<◌, ◌≤◌}
use Rattle.base.specs.Answer.{given}
use Rattle.base.proofs.Unique.{once}
use Rattle.sheets.specs.Over.{Settings, sheet_over, between, zero_sheet}
use Rattle.sheets.specs.Good.{covered, good_sheet}
use Rattle.sheets.specs.Adding.{add_asked}
use Rattle.sheets.proofs.Covers.{covered_is}
use Rattle.sheets.proofs.Entered.{between_joined, between-apart}
use Rattle.sheets.proofs.Adding.{overs_asked}
use Rattle.sheets.proofs.Running.{run_start, run_good}
use Rattle.season.specs.Season.{result_of, season_asked}
use Rattle.season.proofs.Answers.{each-answered}
use Rattle.season.proofs.Leaving.{Given, given_is}

module _ (from to : ℕ) (s : Settings) (words : ℕ) (x : List ℕ) (e : season_asked from to s words ≡ given x) where
  known : Given from to s words x
  known = given_is from to s words x e

  -- no sheet of a season is ever 47
  pub season_good : good_sheet x ≡ true
  season_good = ap good_sheet known.sheet ∙ run_good s (result_of s) known.cheap (λ i l. each-answered s (suc i)) from to

  -- an empty run gives the zero sheet
  pub season_empty : to < from → x ≡ zero_sheet s
  season_empty h = known.sheet ∙ sym (run_start s (result_of s) known.cheap (λ i l. each-answered s (suc i)) from to h)

  -- it covers the run's numbers and no other
  pub season_covers : (i : ℕ) → i < 32000 → covered x (suc i) ≡ between from to (suc i)
  season_covers i l = ap (λ (a : List ℕ). covered a (suc i)) known.sheet ∙ covered_is s (result_of s) (between from to) i l

-- two seasons at the same settings over runs that share no number
module _ (a b c d : ℕ) (s : Settings) (v w : ℕ) (x y : List ℕ) (p : season_asked a b s v ≡ given x) (q : season_asked c d s w ≡ given y) where
  pub seasons_add : ((i : ℕ) → i < 32000 → (between a b (suc i) && between c d (suc i)) ≡ false)
      → add_asked x y ≡ given (sheet_over s (result_of s) (λ n. between a b n || between c d n))
  seasons_add none =
      ap₂ add_asked (given_is a b s v x p).sheet (given_is c d s w y q).sheet
      ∙ overs_asked s (result_of s) (given_is a b s v x p).cheap (between a b) (between c d) none (λ i l t. each-answered s (suc i)) (λ i l t. each-answered s (suc i))

-- a season in two parts is the season
pub season_parts : (from m to : ℕ) (s : Settings) (u v w : ℕ) (x y z : List ℕ) → from ≤ m + 1 → m ≤ to
    → season_asked from m s u ≡ given x → season_asked (m + 1) to s v ≡ given y → season_asked from to s w ≡ given z → add_asked x y ≡ given z
season_parts from m to s u v w x y z h k p q r =
    seasons_add from m (m + 1) to s u v x y p q (λ i l. between-apart from m to (suc i))
    ∙ ap given (ap (sheet_over s (result_of s)) (fun_ext (λ n. between_joined from m to h k n)) ∙ sym (given_is from to s w z r).sheet)

-- two controllers with the same settings give the same sheet, whatever room they have for it
pub seasons_agree : (from to : ℕ) (s : Settings) (v w : ℕ) (x y : List ℕ) → season_asked from to s v ≡ given x → season_asked from to s w ≡ given y → x ≡ y
seasons_agree from to s v w x y p q = once (given_is from to s v x p).sheet (given_is from to s w y q).sheet
