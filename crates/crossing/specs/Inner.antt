-- What the functions inside ask of each other.
use Rattle.card.specs.declared.Card.{Card}
use Rattle.moves.specs.declared.Move.{Move}
use Rattle.base.specs.Answer.{Answer, given, refused}
use Rattle.board.specs.Refusal.{number_of, answered}
use Rattle.board.specs.declared.Refusal.{Refusal}
use Rattle.replay.specs.Line.{Ending}
use Rattle.replay.specs.declared.Replayed.{Replayed}
use Rattle.std.specs.Prelude.{◌≡◌, true, Some, Err, Ok, Option, None, Result}
use Rattle.card.specs.Card.{is_value}
use Rattle.moves.specs.Move.{sayable}

-- what is shown is a card that has a code
abbrev pub Coded : Option Card → Type 0
Coded (Some c) = is_value c.value ≡ true
Coded None = Unit {0}

abbrev pub CodedAnswer : Result (Option Card) Refusal → Type 0
CodedAnswer (Ok t) = Coded t
CodedAnswer (Err why) = Unit {0}

-- the move, if there is one, has a record
abbrev pub Said : Option Move → Type 0
Said (Some m) = sayable m ≡ true
Said None = Unit {0}

abbrev pub SaidAnswer : Result (Option Move) Refusal → Type 0
SaidAnswer (Ok first) = Said first
SaidAnswer (Err why) = Unit {0}

-- where a line of moves ended
abbrev pub ended : Result Replayed Refusal → Answer Ending
ended (Ok r) = given (record { verdict = answered r.said; moves = r.moves; board = r.board })
ended (Err why) = refused (number_of why)
