-- Every promise of this crate allows one result only (see card's `Unique`).
use mathlib.Core.Path.{◌≡◌, refl, ap}
use mathlib.Core.Bool.{false, cond}
use Prim.Native.Nat.{ℕ}
use Rattle.std.specs.Prelude.{Result, Ok, Err}
use lib.Dec.{eqb}
use Rattle.base.specs.Answer.{Answer, given, refused}
use Rattle.base.proofs.Unique.{told_once}
use Rattle.board.specs.Refusal.{number_of, is_said, answered}
use Rattle.board.specs.declared.Refusal.{Refusal}
use Rattle.board.specs.declared.Refusal.TheVariants.{WrongLength, WrongVersion, WrongShape, NoCard, CardTwice, CardMissing, NoDeck, OverBudget, LittleRoom, NoNode, OutOfRange, WrongList, Unreachable, NoGame, SourceEmpty, OtherCard, TooMany, OverLimit, NoRun, NoFit, CellFull, NotNext, NoNumber, WrongText, NotWritable, CommonDeal, OtherSettings, WrongFigures, WrongSheet}

-- the refusal with a number
pub why_of : ℕ → Refusal
why_of n =
    cond (eqb n 10) WrongLength
    (cond (eqb n 11) WrongVersion
    (cond (eqb n 12) WrongShape
    (cond (eqb n 13) NoCard
    (cond (eqb n 14) CardTwice
    (cond (eqb n 15) CardMissing
    (cond (eqb n 16) NoDeck
    (cond (eqb n 20) OverBudget
    (cond (eqb n 21) LittleRoom
    (cond (eqb n 22) NoNode
    (cond (eqb n 30) OutOfRange
    (cond (eqb n 31) WrongList
    (cond (eqb n 17) Unreachable
    (cond (eqb n 18) NoGame
    (cond (eqb n 33) SourceEmpty
    (cond (eqb n 34) OtherCard
    (cond (eqb n 35) TooMany
    (cond (eqb n 36) OverLimit
    (cond (eqb n 37) NoRun
    (cond (eqb n 38) NoFit
    (cond (eqb n 39) CellFull
    (cond (eqb n 40) NotNext
    (cond (eqb n 41) NoNumber
    (cond (eqb n 42) WrongText
    (cond (eqb n 43) NotWritable
    (cond (eqb n 44) CommonDeal
    (cond (eqb n 45) OtherSettings
    (cond (eqb n 46) WrongFigures
    (WrongSheet))))))))))))))))))))))))))))

-- no two refusals have one number
pub why_law : (w : Refusal) → why_of (number_of w) ≡ w
unfolding why_of
why_law WrongLength = refl
why_law WrongVersion = refl
why_law WrongShape = refl
why_law NoCard = refl
why_law CardTwice = refl
why_law CardMissing = refl
why_law NoDeck = refl
why_law OverBudget = refl
why_law LittleRoom = refl
why_law NoNode = refl
why_law OutOfRange = refl
why_law WrongList = refl
why_law Unreachable = refl
why_law NoGame = refl
why_law SourceEmpty = refl
why_law OtherCard = refl
why_law TooMany = refl
why_law OverLimit = refl
why_law NoRun = refl
why_law NoFit = refl
why_law CellFull = refl
why_law NotNext = refl
why_law NoNumber = refl
why_law WrongText = refl
why_law NotWritable = refl
why_law CommonDeal = refl
why_law OtherSettings = refl
why_law WrongFigures = refl
why_law WrongSheet = refl

-- a refusal's number is never an answer's
pub never_said : (w : Refusal) → is_said (number_of w) ≡ false
never_said WrongLength = refl
never_said WrongVersion = refl
never_said WrongShape = refl
never_said NoCard = refl
never_said CardTwice = refl
never_said CardMissing = refl
never_said NoDeck = refl
never_said OverBudget = refl
never_said LittleRoom = refl
never_said NoNode = refl
never_said OutOfRange = refl
never_said WrongList = refl
never_said Unreachable = refl
never_said NoGame = refl
never_said SourceEmpty = refl
never_said OtherCard = refl
never_said TooMany = refl
never_said OverLimit = refl
never_said NoRun = refl
never_said NoFit = refl
never_said CellFull = refl
never_said NotNext = refl
never_said NoNumber = refl
never_said WrongText = refl
never_said NotWritable = refl
never_said CommonDeal = refl
never_said OtherSettings = refl
never_said WrongFigures = refl
never_said WrongSheet = refl

back : {A : Type 0} → Answer A → Result A Refusal
back (given a) = Ok a
back (refused n) = Err (why_of n)

law : {A : Type 0} (r : Result A Refusal) → back (answered r) ≡ r
unfolding back
law (Ok a) = refl
law (Err w) = ap Err (why_law w)

-- of every entry point that answers or refuses, and of the inner forms that do
pub answered_once : {A : Type 0} {a : Answer A} {r s : Result A Refusal} → answered r ≡ a → answered s ≡ a → r ≡ s
answered_once = told_once answered back law
