-- `apply_at` allows one result only: a record with good columns is determined by what it shows.
use mathlib.Core.Path.{◌≡◌, sym, ◌∙◌}
use Rattle.board.specs.Table.{Table}
use Rattle.board.specs.declared.Board.{Board}
use Rattle.board.proofs.Records.{determined}
use Rattle.play.specs.Change.{Becomes}

pub played_once : {t : Table} {r s : Board} → Becomes r t → Becomes s t → r ≡ s
played_once {r = r} {s = s} a b = determined r s a.good b.good (a.shows ∙ sym b.shows)
