-- What `step_word` leaves to be shown: the numbers are small digits.
use Rattle.nodes.proofs.Digits.{small_numbers, packed_step}
use Rattle.nodes.proofs.words.step_word.Goals as goal

pub pack-requires-clause-small : goal.pack-requires-clause-small
pack-requires-clause-small c = small_numbers c.args.m c.encode-bytes.ensures c.from-kind.ensures c.from-from.ensures c.from-to.ensures c.from-count.ensures c.from-code.ensures c.requires.m_value c.requires.m_bound

pub returns : goal.returns
returns c = packed_step c.args.m c.encode-bytes.ensures c.from-kind.ensures c.from-from.ensures c.from-to.ensures c.from-count.ensures c.from-code.ensures _ c.pack.ensures
