-- SCOPE.md's number for each refusal, and what an answer of the code means.
use Rattle.std.specs.Prelude.{Result, Ok, Err, Bool, ◌||◌, ℕ, eqb, leb}
use Rattle.base.specs.Answer.{Answer, given, refused}
use Rattle.board.specs.declared.Refusal.{Refusal}
use Rattle.board.specs.declared.Refusal.TheVariants.{WrongLength, WrongVersion, WrongShape, NoCard, CardTwice, CardMissing, NoDeck, OverBudget, LittleRoom, NoNode, OutOfRange, WrongList, Unreachable, NoGame, SourceEmpty, OtherCard, TooMany, OverLimit, NoRun, NoFit, CellFull, NotNext, NoNumber, WrongText, NotWritable, CommonDeal, OtherSettings, WrongFigures, WrongSheet}

abbrev pub number_of : Refusal → ℕ
number_of WrongLength = 10
number_of WrongVersion = 11
number_of WrongShape = 12
number_of NoCard = 13
number_of CardTwice = 14
number_of CardMissing = 15
number_of NoDeck = 16
number_of OverBudget = 20
number_of LittleRoom = 21
number_of NoNode = 22
number_of OutOfRange = 30
number_of WrongList = 31
-- these are the requests' (SCOPE.md says which have landed)
number_of Unreachable = 17
number_of NoGame = 18
number_of SourceEmpty = 33
number_of OtherCard = 34
number_of TooMany = 35
number_of OverLimit = 36
number_of NoRun = 37
number_of NoFit = 38
number_of CellFull = 39
number_of NotNext = 40
number_of NoNumber = 41
number_of WrongText = 42
number_of NotWritable = 43
number_of CommonDeal = 44
number_of OtherSettings = 45
number_of WrongFigures = 46
number_of WrongSheet = 47

-- the numbers of a search's answers: no refusal has one (board/proofs/Unique.antt)
abbrev pub is_said : ℕ → Bool
is_said n = leb n 5 || (eqb n 23 || eqb n 24)

-- what an answer of the code means: what was asked for, or SCOPE.md's number
abbrev pub answered : {A : Type 0} → Result A Refusal → Answer A
answered (Ok a) = given a
answered (Err why) = refused (number_of why)
