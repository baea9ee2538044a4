-- What `none_twice` leaves to be shown: a repeat was found, or none was.
use mathlib.Core.Path.{◌≡◌, sym, ◌∙◌}
use mathlib.Core.List.{List, []}
use Prim.Native.Nat.{ℕ}
use lib.Dec.{lit<}
use Rattle.std.specs.Prelude.{Option, Some, None, is_some}
use Rattle.board.specs.Inner.{Marks}
use Rattle.board.specs.Verdict.{none_twice}
use Rattle.board.proofs.Marks.{holds_none, holds_once}
use Rattle.board.proofs.verdict.none_twice.Goals as goal

shown : {s : List ℕ} (r : Option ℕ) → Marks 0 s r → is_some r ≡ none_twice s
shown (Some seen) m = sym (holds_once (m.knows [] holds_none))
shown None m = sym (m.knows [] holds_none)

pub mark_all-requires : goal.mark_all-requires
mark_all-requires c = record { seen_bound = lit< tt; s_value = c.requires }

pub returns : goal.returns
returns c = c.is_some.ensures ∙ shown c.mark_all.result c.mark_all.ensures
