-- Every promise of this crate allows one result only (the others promise `r ≡ d`), and no two answers of a line tell the same.
use Rattle.board.specs.Refusal.{answered}
use mathlib.Core.Path.{◌≡◌, refl, ap}
use Prim.Native.Nat.{ℕ}
use Rattle.std.specs.Prelude.{Result, Ok, Err}
use Rattle.base.proofs.Unique.{told_once}
use Rattle.base.specs.Answer.{Answer, given, refused}
use Rattle.board.proofs.Unique.{why_of, why_law}
use Rattle.board.specs.declared.Refusal.{Refusal}
use Rattle.moves.specs.declared.Move.{Move}
use Rattle.sense.specs.Outcome.{Outcome, gives, refuses, refuses_at, line_told}
use Rattle.sense.specs.declared.LineError.{LineError}
use Rattle.sense.specs.declared.LineError.TheVariants.{Refused, At}

line_back : Outcome ℕ → Result ℕ LineError
line_back (gives n) = Ok n
line_back (refuses n) = Err (Refused (why_of n))
line_back (refuses_at n p) = Err (At (why_of n) p)

line_law : (r : Result ℕ LineError) → line_back (line_told r) ≡ r
unfolding line_back
line_law (Ok n) = refl
line_law (Err (Refused w)) = ap (λ (v : Refusal). Err (Refused v)) (why_law w)
line_law (Err (At w p)) = ap (λ (v : Refusal). Err (At v p)) (why_law w)

pub line_once : {o : Outcome ℕ} {r s : Result ℕ LineError} → line_told r ≡ o → line_told s ≡ o → r ≡ s
line_once p q = told_once line_told line_back line_law p q

move_back : Answer Move → Result Move Refusal
move_back (given m) = Ok m
move_back (refused n) = Err (why_of n)

move_law : (r : Result Move Refusal) → move_back (answered r) ≡ r
unfolding move_back
move_law (Ok m) = refl
move_law (Err w) = ap (λ (v : Refusal). Err v) (why_law w)

-- of `meant_at`
pub meant_once : {a : Answer Move} {r s : Result Move Refusal} → answered r ≡ a → answered s ≡ a → r ≡ s
meant_once p q = told_once answered move_back move_law p q
