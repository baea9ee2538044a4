-- What `judge_image` leaves to be shown: 10 for too long an image, a refusal alone, or the text of the board.
use mathlib.Core.Path.{ap, ◌∙◌}
use mathlib.Core.List.{◌∷◌, []}
use Prim.Native.Nat.{ℕ}
use native.Mathlib.Omega.{arith}
use Rattle.onetext.specs.Text.{line}
use Rattle.onetext.proofs.Telling.{tells_short, tells_put, text_long, text_refused, text_given, read_board}
use Rattle.onetext.proofs.judge_image.Goals as goal

pub returns-then-out-lt4096 : goal.returns-then-out-lt4096
returns-then-out-lt4096 c = tells_short c.args.image.now c.args.out.now c.if-out-lt4096.true

pub put_line-requires : goal.put_line-requires
put_line-requires c = record { in_bounds = omega arith; numbers_in_bounds = omega (arith, c.if-out-lt4096.false) }

pub returns-then-image-gt1024 : goal.returns-then-image-gt1024
returns-then-image-gt1024 c = tells_put c.args.image.now c.if-out-lt4096.false (text_long c.args.image.now c.if-image-gt1024.true) c.put_line.ensures.puts

pub put_line-requires-in-Err : goal.put_line-requires-in-Err
put_line-requires-in-Err c = record { in_bounds = omega arith; numbers_in_bounds = omega (arith, c.if-out-lt4096.false) }

pub returns-in-Err : goal.returns-in-Err
returns-in-Err c = tells_put c.args.image.now c.if-out-lt4096.false (ap (λ (n : ℕ). line (n ∷ [])) c.number.ensures ∙ text_refused c.args.image.now c.if-image-gt1024.false c.read.ensures c.in-Err.is) c.put_line-in-Err.ensures.puts

pub put_hand-requires : goal.put_hand-requires
put_hand-requires c = record { fine = read_board c.args.image.now c.if-image-gt1024.false c.read.ensures c.in-Ok.is; in_bounds = omega (arith, c.if-out-lt4096.false) }

pub returns-in-Ok : goal.returns-in-Ok
returns-in-Ok c = tells_put c.args.image.now c.if-out-lt4096.false (text_given c.args.image.now c.if-image-gt1024.false c.read.ensures c.in-Ok.is) c.put_hand.ensures
