-- What `take_home` leaves to be shown: the suit's mark, then its cards.
use Rattle.signature.specs.Signed.{home_words}
use Rattle.signature.proofs.Homes.{home_words_lem}
use Rattle.signature.proofs.take_home.Goals as goal

pub returns : goal.returns
unfolding home_words
returns c =
    home_words_lem c.args.h c.args.i c.step-marked.ensures c.from.ensures c.take_pile.ensures
