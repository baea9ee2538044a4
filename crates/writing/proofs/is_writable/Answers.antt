-- What `is_writable` leaves to be shown: kind by kind.
use mathlib.Core.Bool.{◌&&◌}
use mathlib.Core.Path.{◌≡◌, ◌∙◌}
use native.Mathlib.Omega.{arith}
use lib.Dec.{leb, ltb}
use Rattle.std.proofs.lemmas.Bool.Decides.{nat_tests}
use Rattle.writing.proofs.Looking.{kind_writes}
use Rattle.writing.proofs.is_writable.Goals as goal

pub returns : goal.returns
returns c =
    let tests : c.contains.result ≡ (leb 1 c.args.kind && ltb c.args.kind 6) = grind (arith, nat_tests) in
    λ f t n code. tests ∙ kind_writes f t n code c.args.kind
