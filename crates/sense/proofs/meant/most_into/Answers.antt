-- What `most_into` leaves to be shown: the lesser of the two.
use mathlib.Core.Path.{◌∙◌}
use Rattle.sense.proofs.Finding.{most_is}
use Rattle.sense.proofs.meant.most_into.Goals as goal

pub returns : goal.returns
returns c = c.min.ensures ∙ most_is c.requires.sound c.args.i c.args.j c.requires.i_bound c.most_at-limit.ensures c.run_at-run.ensures
