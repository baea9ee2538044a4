-- What `answer_at` leaves to be shown: the number itself.
use native.Mathlib.Omega.{arith}
use Rattle.sheets.proofs.Entering.{answer_low}
use Rattle.entries.proofs.answer_at.Goals as goal

pub returns-in_default : goal.returns-in_default
returns-in_default c = answer_low _ _ c.requires (λ q. let w : ⊥ = omega arith in w) c.from.ensures
