-- What `read` leaves to be shown: the length, the version, and then the body.
use mathlib.Core.Path.{sym, ◌∙◌}
use Rattle.intake.proofs.Imaging.{too_short, wrong_count_lem, no_version, wrong_version, to_the_body}
use Rattle.intake.proofs.image.read.Goals as goal

pub returns-then-n-lt2 : goal.returns-then-n-lt2
returns-then-n-lt2 c = sym (too_short c.args.image.now c.if-n-lt2.true)

pub returns-then-declared-n : goal.returns-then-declared-n
returns-then-declared-n c = sym (wrong_count_lem c.args.image.now (λ q. c.if-declared-n.true (c.big_endian-declared.ensures ∙ q)))

pub returns-then-n-lt3 : goal.returns-then-n-lt3
returns-then-n-lt3 c = sym (no_version c.args.image.now c.if-n-lt2.false (sym c.big_endian-declared.ensures ∙ c.if-declared-n.false) c.if-n-lt3.true)

pub returns-then-image-ne1 : goal.returns-then-image-ne1
returns-then-image-ne1 c = sym (wrong_version c.args.image.now c.if-n-lt2.false (sym c.big_endian-declared.ensures ∙ c.if-declared-n.false) c.if-image-ne1.true)

pub returns : goal.returns
returns c =
    c.read_body.ensures
    ∙ sym (to_the_body c.args.image.now c.if-n-lt2.false (sym c.big_endian-declared.ensures ∙ c.if-declared-n.false) c.if-n-lt3.false c.if-image-ne1.false)
