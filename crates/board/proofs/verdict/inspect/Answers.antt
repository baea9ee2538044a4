-- What `inspect` leaves to be shown: the shape first, and then what the record shows.
use mathlib.Core.Path.{sym, ◌∙◌}
use Rattle.board.proofs.Tables.{good_piles}
use Rattle.board.proofs.Verdicts.{bad_shape, bad_counts, bad_foundation, bad_spare, all-shapely, record_parts, verdict_record}
use Rattle.board.proofs.verdict.inspect.Goals as goal

pub returns-then-not-within : goal.returns-then-not-within
returns-then-not-within c = bad_shape _ (bad_counts _ (sym c.within.ensures ∙ c.if-not-within.true))

pub returns-then-not-within-2 : goal.returns-then-not-within-2
returns-then-not-within-2 c = bad_shape _ (bad_foundation _ (sym c.within-2.ensures ∙ c.if-not-within-2.true))

pub spare_is_zero-requires : goal.spare_is_zero-requires
spare_is_zero-requires c = record { counts_len = c.requires.eight; tableau_len = c.requires.full; counts_value = (sym c.within.ensures ∙ c.if-not-within.false) }

pub returns-then-not-spare_is_zero : goal.returns-then-not-spare_is_zero
returns-then-not-spare_is_zero c = bad_shape _ (bad_spare _ (sym c.spare_is_zero.ensures ∙ c.if-not-spare_is_zero.true))

pub verdict_on-requires : goal.verdict_on-requires
verdict_on-requires c = record { cells_len = c.requires.four; good_piles = good_piles c.args.foundation.now c.requires.piles (sym c.within-2.ensures ∙ c.if-not-within-2.false); parts = record_parts c.args.counts.now c.args.tableau.now c.requires.eight c.requires.full (sym c.within.ensures ∙ c.if-not-within.false) }

pub returns : goal.returns
returns c = c.verdict_on.ensures ∙ verdict_record _ (all-shapely _ (sym c.within.ensures ∙ c.if-not-within.false) (sym c.within-2.ensures ∙ c.if-not-within-2.false) (sym c.spare_is_zero.ensures ∙ c.if-not-spare_is_zero.false))
