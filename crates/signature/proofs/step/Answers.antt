-- What `step` leaves to be shown: the machine's exclusive or is that of the digits.
use Rattle.std.proofs.Common.{ℕ, ◌*◌, ◌%◌, ◌^◌, sym, ap, ◌∙◌}
use Rattle.signature.specs.Fnv.{prime, fnv_step}
use Rattle.signature.proofs.Digits.{xor_digits_lem}
use Rattle.signature.proofs.step.Goals as goal

pub returns : goal.returns
unfolding fnv_step
returns c =
    c.times_prime.ensures
    ∙ ap (λ (x : ℕ). x * prime % 2 ^ 64)
    (sym (xor_digits_lem 64 c.args.h c.args.x c.ranges.h.fits c.ranges.x.fits))
