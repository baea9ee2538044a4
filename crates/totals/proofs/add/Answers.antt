-- What `add` leaves to be shown: refusal by refusal, then the sum.
use Rattle.sheets.proofs.Answering.{good_words, says_first, says_second, says_settings, says_common, says_sum}
use Rattle.totals.proofs.add.Goals as goal

pub returns-then-not-examine : goal.returns-then-not-examine
returns-then-not-examine c = says_first c.args.into.now c.args.other.now _ c.examine.ensures c.if-not-examine.true

pub returns-then-not-examine-2 : goal.returns-then-not-examine-2
returns-then-not-examine-2 c = says_second c.args.into.now c.args.other.now _ c.examine.ensures c.if-not-examine.false _ c.examine-2.ensures c.if-not-examine-2.true

pub settings_equal-requires : goal.settings_equal-requires
settings_equal-requires c = (good_words _ _ c.examine.ensures c.if-not-examine.false, good_words _ _ c.examine-2.ensures c.if-not-examine-2.false)

pub returns-then-not-settings_equal : goal.returns-then-not-settings_equal
returns-then-not-settings_equal c = says_settings c.args.into.now c.args.other.now _ c.examine.ensures c.if-not-examine.false _ c.examine-2.ensures c.if-not-examine-2.false _ c.settings_equal.ensures c.if-not-settings_equal.true

pub none_common-requires : goal.none_common-requires
none_common-requires c = (good_words _ _ c.examine.ensures c.if-not-examine.false, good_words _ _ c.examine-2.ensures c.if-not-examine-2.false)

pub returns-then-not-none_common : goal.returns-then-not-none_common
returns-then-not-none_common c = says_common c.args.into.now c.args.other.now _ c.examine.ensures c.if-not-examine.false _ c.examine-2.ensures c.if-not-examine-2.false _ c.settings_equal.ensures c.if-not-settings_equal.false _ c.none_common.ensures c.if-not-none_common.true

pub returns : goal.returns
returns c = says_sum c.args.into.now c.args.other.now _ c.examine.ensures c.if-not-examine.false _ c.examine-2.ensures c.if-not-examine-2.false _ c.settings_equal.ensures c.if-not-settings_equal.false _ c.none_common.ensures c.if-not-none_common.false _ c.add_figures.ensures
