-- The season's figures: the sheet over a run of hands by number, each judged at the same settings. 41, 20, 21, 22, or the sheet.
use Rattle.std.specs.Prelude.{Bool, ◌&&◌, List, ℕ, leb, length}
use Rattle.base.specs.Answer.{Answer, given, refused, unless}
use Rattle.base.specs.Blank.{blank}
use Rattle.base.specs.Put.{over}
use Rattle.shuffle.specs.Shuffle.{deck_of}
use Rattle.intake.specs.Deal.{dealt}
use Rattle.intake.specs.Number.{is_number}
use Rattle.search.specs.Solve as solve
use Rattle.search.specs.Freecell.{freecell, judge}
use Rattle.solver.specs.Capacity.{capacity_of}
use Rattle.finish.specs.Said.{moves_of}
use Rattle.solver.specs.Searched.{most_pops}
use Rattle.sheets.specs.Figures.{sheet_room}
use Rattle.sheets.specs.Over.{Settings, Result, sheet_over, between}

-- what a sheet wants to know of an answer
abbrev pub result_by : solve.Answer freecell → Result
result_by a = record { answer = a.number; pops = a.pops; moves = length (moves_of a.list) }

-- what the hand of a number gave
unfoldable pub result_of : Settings → ℕ → Result
result_of s n = result_by (judge (dealt (deck_of n)) s.budget s.capacity s.partial)

-- either end, then the settings and the room; a run whose first number is above its last has no number in it
unfoldable pub season_asked : ℕ → ℕ → Settings → ℕ → Answer (List ℕ)
season_asked first last s lent =
    unless (is_number first && is_number last) 41
    (unless (leb s.budget most_pops) 20
    (unless (leb sheet_room lent) 21
    (unless (leb 1 s.capacity) 22
    (given (sheet_over s (result_of s) (between first last))))))

-- ---- what is lent, and what is left in it

-- four parts of scratch, and the sheet's room
pub record Lent : Type 0 where
  pub nodes : List ℕ
  pub heap : List ℕ
  pub keys : List ℕ
  pub costs : List ℕ
  pub sheet : List ℕ

-- these five parts
abbrev pub lent_of : List ℕ → List ℕ → List ℕ → List ℕ → List ℕ → Lent
lent_of nodes heap keys costs sheet = record { nodes = nodes; heap = heap; keys = keys; costs = costs; sheet = sheet }

-- the capacity is counted from the scratch, as for a search
abbrev pub settings_in : Lent → ℕ → Bool → Settings
settings_in l budget partial =
    record {
      budget = budget;
      capacity = capacity_of (length l.nodes) (length l.heap) (length l.keys) (length l.costs);
      partial = partial;
    }

-- the sheet stands at the start of its room, and the scratch is left all zero
abbrev pub filled : Lent → List ℕ → Lent
filled l words =
    record {
      nodes = blank l.nodes;
      heap = blank l.heap;
      keys = blank l.keys;
      costs = blank l.costs;
      sheet = over words l.sheet;
    }

-- a refusal changes nothing
abbrev pub left_by : Lent → Answer (List ℕ) → Lent
left_by l (given words) = filled l words
left_by l (refused n) = l

unfoldable pub season_in : Lent → ℕ → ℕ → ℕ → Bool → Answer (List ℕ)
season_in l first last budget partial = season_asked first last (settings_in l budget partial) (length l.sheet)
