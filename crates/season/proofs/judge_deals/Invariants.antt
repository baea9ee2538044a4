-- What `judge_deals` leaves to be shown: the sheet over the deals before n, one deal after the other.
use mathlib.Core.Path.{◌≡◌}
use Prim.Native.Nat.{◌-◌, ◌<◌, ◌≤◌}
use Rattle.sheets.specs.Over.{sheet_over, between}
use Rattle.season.specs.Season.{result_of}
use Rattle.season.specs.Inner.{settings_of}
use Rattle.season.proofs.judge_deals.Given as goal

abbrev pub invariant-loop-n : goal.invariant-loop-n
invariant-loop-n l =
    (l.first < l.n → l.n ≤ l.last)
    × (l.sheet ≡ sheet_over (settings_of l.budget l.room.capacity l.partial) (result_of (settings_of l.budget l.room.capacity l.partial)) (between l.first (l.n - 1)))
