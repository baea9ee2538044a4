-- What the functions ask and promise, a record each.
use Rattle.board.specs.Refusal.{answered}
use Rattle.board.specs.declared.Refusal.{Refusal}
use Rattle.std.specs.Prelude.{◌≡◌, Bool, true, false, cond, List, ℕ, ◌+◌, ◌^◌, ◌<◌, ◌≤◌, eqb, ltb, length, get_or, set, Result as Outcome}
use Rattle.base.specs.Answer.{Answer, given, refused}
use Rattle.base.specs.Words.{occurs}
use Rattle.board.specs.Verdict.{Verdict, fine}
use Rattle.sheets.specs.declared.Side.{Side}
use Rattle.sheets.specs.Figures.{answers_counted, the_budget, mark_list, mark_deal, lists, place_of, told}
use Rattle.sheets.specs.Over.{Result as DealResult, key_of}
use Rattle.sheets.specs.Good.{covered, good_sheet}
use Rattle.sheets.specs.Adding.{same_settings, apart, key_in, better, add_asked}

-- ---- adding

-- two sheets that no refusal holds of
pub record Addable (a b : List ℕ) : Type 0 where
  pub one : good_sheet a ≡ true
  pub other : good_sheet b ≡ true
  pub same : same_settings a b ≡ true
  pub free : apart a b ≡ true

-- some words can be added
pub record Roomy (a b : List ℕ) (from end : ℕ) : Type 0 where
  pub rising : from ≤ end
  pub mine : end ≤ length a
  pub yours : end ≤ length b
  pub fits : (i : ℕ) → from ≤ i → i < end → get_or a i 0 + get_or b i 0 < 2 ^ 64

-- X is a with the words of b added from one place to before another
pub record Summed (a b : List ℕ) (from end : ℕ) (X : List ℕ) : Type 0 where
  pub long : length X ≡ length a
  pub below : (i : ℕ) → i < from → get_or X i 0 ≡ get_or a i 0
  pub sums : (i : ℕ) → from ≤ i → i < end → get_or X i 0 ≡ get_or a i 0 + get_or b i 0
  pub above : (i : ℕ) → end ≤ i → get_or X i 0 ≡ get_or a i 0

-- a mark whose key fits a word
pub record Small (e : Side) (a : List ℕ) : Type 0 where
  pub long : length a ≡ 716
  pub list : told a (mark_list e) ≤ 200
  pub deal : told a (mark_deal e) ≤ 32000

-- a sheet with another mark
abbrev pub mark_set : Side → List ℕ → ℕ → ℕ → List ℕ
mark_set e a m n = set (set a (place_of (mark_list e)) m) (place_of (mark_deal e)) n

-- another mark, if a test holds
abbrev pub mark_when : Side → Bool → List ℕ → ℕ → ℕ → List ℕ
mark_when e t a m n = cond t (mark_set e a m n) a

-- the better of two sheets' marks
abbrev pub mark_chosen : Side → List ℕ → List ℕ → List ℕ
mark_chosen e a b = mark_when e (better e a b) a (told b (mark_list e)) (told b (mark_deal e))

-- the better of a sheet's mark and a list of m moves for deal n
abbrev pub mark_entered : Side → List ℕ → ℕ → ℕ → List ℕ
mark_entered e a m n = mark_when e (ltb (key_of e m n) (key_in e a)) a m n

-- what is said, and what is left in the first sheet
abbrev pub said_of : Answer (List ℕ) → Verdict
said_of (given x) = fine
said_of (refused n) = refused n

abbrev pub left_of : List ℕ → Answer (List ℕ) → List ℕ
left_of a (given x) = x
left_of a (refused n) = a

pub record Adds (a b X : List ℕ) (r : Outcome (Unit {0}) Refusal) : Type 0 where
  pub said : answered r ≡ said_of (add_asked a b)
  pub left : X ≡ left_of a (add_asked a b)

-- ---- entering

-- a sheet into which a deal can be entered: it is good and lacks the deal, which gave an answer within its budget
pub record Enterable (a : List ℕ) (n : ℕ) (x : DealResult) : Type 0 where
  pub good : good_sheet a ≡ true
  pub low : 0 < n
  pub high : n ≤ 32000
  pub new : covered a n ≡ false
  pub counted : occurs x.answer answers_counted ≡ 1
  pub afforded : x.pops ≤ told a the_budget
  pub short : x.moves ≤ 200

-- X is a with a word raised
pub record Raised (a : List ℕ) (at by : ℕ) (X : List ℕ) : Type 0 where
  pub long : length X ≡ length a
  pub here : get_or X at 0 ≡ get_or a at 0 + by
  pub others : (i : ℕ) → (i ≡ at → ⊥) → get_or X i 0 ≡ get_or a i 0

-- X is a with a won list of m moves for deal n: its length counted, both marks compared, all else as it was
pub record WinNoted (a : List ℕ) (m n : ℕ) (X : List ℕ) : Type 0 where
  pub long : length X ≡ 716
  pub lengths : (k : ℕ) → k < 201 → told X (lists k) ≡ told a (lists k) + cond (eqb m k) 1 0
  pub list : (e : Side) → told X (mark_list e) ≡ cond (ltb (key_of e m n) (key_in e a)) m (told a (mark_list e))
  pub deal : (e : Side) → told X (mark_deal e) ≡ cond (ltb (key_of e m n) (key_in e a)) n (told a (mark_deal e))
  pub below : (i : ℕ) → i < 11 → get_or X i 0 ≡ get_or a i 0
  pub above : (i : ℕ) → 216 ≤ i → get_or X i 0 ≡ get_or a i 0
