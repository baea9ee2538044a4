-- `decode` allows one result only (`encode` promises `r ≡ record_of m`: card's `once`).
use Rattle.std.specs.Prelude.{Option}
use mathlib.Core.Path.{◌≡◌}
use Rattle.base.specs.Answer.{Answer, given_or}
use Rattle.base.proofs.Unique.{given_once}
use Rattle.moves.specs.declared.Move.{Move}

pub decode_once : {a : Answer Move} {r s : Option Move} → given_or 30 r ≡ a → given_or 30 s ≡ a → r ≡ s
decode_once = given_once 30
