-- What `replayed` leaves to be shown: the board is sound, and the list has whole records.
use mathlib.Core.Path.{sym, ◌∙◌}
use Rattle.board.proofs.Soundness.{sound}
use Rattle.questions.proofs.Asking.{verdict_fine}
use Rattle.replay.proofs.Replaying.{line_five}
use borrow.Author.Rules.{rules}
use Rattle.corbelnib.proofs.replayed.Goals as goal

pub replay_at-requires : goal.replay_at-requires
replay_at-requires c = record { sound = sound c.args.b (record { four = search rules; piles = search rules; eight = search rules; full = search rules }) (verdict_fine c.examine.ensures c.in_ok-examine.was); bytes_len = line_five c.args.list.now (sym c.is_line.ensures ∙ c.if-not-is_line.false) }
