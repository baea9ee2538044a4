-- What `put_number` leaves to be shown: one, two or three digits are the number.
use mathlib.Core.Path.{◌≡◌, ap}
use mathlib.Core.List.{[], ◌∷◌}
use Prim.Native.Nat.{◌-◌}
use lib.ListN.{length, take, drop}
use native.Mathlib.Omega.{arith}
use Rattle.score.specs.Token.{decimal}
use Rattle.score.proofs.Digits.{shown_one, shown_two, shown_three}
use Rattle.base.proofs.Putting.{puts_same}
use Rattle.score.proofs.token.put_number.Goals as goal
use Rattle.score.proofs.token.put_number.Goals.{in-0-to-9, in-10-to-99, in_default}

pub put_bytes-requires : goal.put_bytes-requires
put_bytes-requires c =
    let e : take (3 - c.if-n-lt10.leading) (drop c.if-n-lt10.leading (c.digit.result ∷ c.digit-2.result ∷ c.digit-3.result ∷ [])) ≡ decimal c.args.n =
    elim c.if-n-lt10.branch [
      | in-0-to-9 w ↦ shown_one c.args.n c.if-n-lt10.leading c.digit.ensures c.digit-2.ensures c.digit-3.ensures w.leading-is (omega arith)
      | in-10-to-99 w ↦ shown_two c.args.n c.if-n-lt10.leading c.digit.ensures c.digit-2.ensures c.digit-3.ensures w.leading-is (omega arith) (omega arith)
      | in_default w ↦ shown_three c.args.n c.if-n-lt10.leading c.digit.ensures c.digit-2.ensures c.digit-3.ensures w.leading-is (omega arith) c.requires.n_bound
    ] in
    omega (arith, c.requires.n_in_bounds, ap length e)

pub returns : goal.returns
returns c =
    puts_same (elim c.if-n-lt10.branch [
      | in-0-to-9 w ↦ shown_one c.args.n c.if-n-lt10.leading c.digit.ensures c.digit-2.ensures c.digit-3.ensures w.leading-is (omega arith)
      | in-10-to-99 w ↦ shown_two c.args.n c.if-n-lt10.leading c.digit.ensures c.digit-2.ensures c.digit-3.ensures w.leading-is (omega arith) (omega arith)
      | in_default w ↦ shown_three c.args.n c.if-n-lt10.leading c.digit.ensures c.digit-2.ensures c.digit-3.ensures w.leading-is (omega arith) c.requires.n_bound
    ]) c.put_bytes.ensures
