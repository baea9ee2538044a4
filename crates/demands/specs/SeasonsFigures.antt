-- Request (vi), sentence by sentence: "The season's figures. The organiser wants one sheet over any run of deal numbers."
use Rattle.std.specs.Prelude.{◌≡◌, Bool, true, false, ◌&&◌, ◌||◌, List, ◌⊎◌, ℕ, suc, ◌+◌, ◌<◌, ◌≤◌, length, take}
use Rattle.intake.specs.Number.{is_number}
use Rattle.solver.specs.Searched.{most_pops}
use Rattle.sheets.specs.declared.Side.{Side}
use Rattle.sheets.specs.Figures.{sheet_room, last_deal, told, mark_list, mark_deal}
use Rattle.sheets.specs.Over.{Settings, sheet_over, between, zero_sheet}
use Rattle.sheets.specs.Good.{covered, wins}
use Rattle.sheets.specs.Adding.{same_settings, apart}
use Rattle.season.specs.Season.{result_of}
use Rattle.crossing.specs.Numbers.{flag, is_answer}
use Rattle.corbelnib.specs.Calls.{number, judge, season, add, Call, capacity_in, settings_by}
use Rattle.demands.specs.Demand1.{GoodRun}
use Rattle.demands.specs.HandsByNumber.{dealt_by}
use Rattle.demands.specs.BadSheet.{Bad}

-- the sheet that a call wrote, its settings, and the numbers of its run
abbrev pub sheet_by : Call season → List ℕ
sheet_by c = take sheet_room c.after.sheet

abbrev pub settings : Call season → Settings
settings c = settings_by c.input c.before

abbrev pub run_of : Call season → ℕ → Bool
run_of c = between c.input.first c.input.last

-- the sheet over some deals, each of which gave what the judge says of it
abbrev pub figures : Settings → (ℕ → Bool) → List ℕ
figures s p = sheet_over s (result_of s) p

-- the settings of a search
abbrev pub settings_of : Call judge → Settings
settings_of c = record { budget = c.input.budget; capacity = capacity_in c.before; partial = flag c.input.partial }

-- one sheet is added to another
pub record Adds (a : Call add) (x y : List ℕ) : Type 0 where
  pub into : a.before ≡ x
  pub other : a.input ≡ y

-- the sum is given
pub record Sum (a : Call add) (x : List ℕ) : Type 0 where
  pub done : a.number ≡ 0
  pub sheet : a.after ≡ x

-- neither of the two sheets breaks a clause of 47
pub record Fine (a : Call add) : Type 0 where
  pub into : Bad a.before → ⊥
  pub other : Bad a.input → ⊥

pub record SeasonsFigures : Type 0 where
  -- "one sheet over any run of deal numbers, judged in rising order at a fixed budget, capacity and flag": the figures of its numbers, ..
  pub judges : (c : Call season) → GoodRun c → (c.number ≡ 0) × (sheet_by c ≡ figures (settings c) (run_of c))
  -- .. each of which gave what corbelnib_judge says of the board that corbelnib_number deals
  pub as_judged : (d : Call number) (j : Call judge) → d.number ≡ 0 → j.input.board ≡ dealt_by d → is_answer j.number ≡ true
      → result_of (settings_of j) d.input ≡ record { answer = j.number; pops = j.after.pops; moves = j.after.moves }
  -- "With no win these last are marked absent"
  pub absent : (c : Call season) → c.number ≡ 0 → wins (sheet_by c) ≡ 0 → (e : Side)
      → (told (sheet_by c) (mark_list e) ≡ 0) × (told (sheet_by c) (mark_deal e) ≡ 0)
  -- "A sheet keeps which numbers it covers"; "Number 23 on a deal is counted, and the sheet goes on": it has every number of the run
  pub covers_run : (c : Call season) → c.number ≡ 0 → (n : ℕ) → n < last_deal → covered (sheet_by c) (suc n) ≡ run_of c (suc n)
  -- "sheets with equal settings and no common number can be added, and the sum equals the sheet over both": the sheets over any two sets of
  -- deals, of seasons and of sums alike
  pub sums : (s : Settings) (p q : ℕ → Bool) (a : Call add) → s.budget ≤ most_pops → ((n : ℕ) → n < last_deal → (p (suc n) && q (suc n)) ≡ false)
      → Adds a (figures s p) (figures s q) → Sum a (figures s (λ n. p n || q n))
  -- so a season in two parts is the season, every word of it
  pub parts : (x y z : Call season) (a : Call add) → x.number ≡ 0 → y.number ≡ 0 → z.number ≡ 0 → settings x ≡ settings z → settings y ≡ settings z
      → x.input.first ≡ z.input.first → y.input.last ≡ z.input.last → y.input.first ≡ x.input.last + 1
      → z.input.first ≤ x.input.last + 1 → x.input.last ≤ z.input.last → Adds a (sheet_by x) (sheet_by y) → Sum a (sheet_by z)
  -- which of two is added to which does not matter, ..
  pub either_way : (a b : Call add) → Adds b a.input a.before → (a.number ≡ b.number) × (a.number ≡ 0 → a.after ≡ b.after)
  -- .. nor which two of three are added first
  pub any_order : (ab abc bc a-bc : Call add) → ab.number ≡ 0 → abc.number ≡ 0 → Adds abc ab.after abc.input → Adds bc ab.input abc.input
      → Adds a-bc ab.before bc.after → (bc.number ≡ 0) × Sum a-bc abc.after
  -- "A range whose first number is above its last is empty and gives a zero sheet"
  pub empty : (c : Call season) → GoodRun c → c.input.last < c.input.first → sheet_by c ≡ zero_sheet (settings c)
  -- "Refusals: 41 for either end, ..
  pub no_begin : (c : Call season) → is_number c.input.first ≡ false → c.number ≡ 41
  pub no_end : (c : Call season) → is_number c.input.last ≡ false → c.number ≡ 41
  -- .. then 20 to 22"
  pub dear : (c : Call season) → is_number c.input.first ≡ true → is_number c.input.last ≡ true → most_pops < c.input.budget → c.number ≡ 20
  pub narrow : (c : Call season) → is_number c.input.first ≡ true → is_number c.input.last ≡ true → c.input.budget ≤ most_pops
      → length c.before.sheet < sheet_room → c.number ≡ 21
  pub rootless : (c : Call season) → is_number c.input.first ≡ true → is_number c.input.last ≡ true → c.input.budget ≤ most_pops
      → sheet_room ≤ length c.before.sheet → (settings c).capacity ≡ 0 → c.number ≡ 22
  -- "adding, 47 for a sheet ..": exactly if one of the two breaks a clause (BadSheet.antt)
  pub bad : (a : Call add) → Bad a.before ⊎ Bad a.input → a.number ≡ 47
  pub only_bad : (a : Call add) → a.number ≡ 47 → Bad a.before ⊎ Bad a.input
  -- "then 45 unequal settings, then 44 common number"; and with neither of them they are added
  pub unequal : (a : Call add) → Fine a → same_settings a.before a.input ≡ false → a.number ≡ 45
  pub common : (a : Call add) → Fine a → same_settings a.before a.input ≡ true → apart a.before a.input ≡ false → a.number ≡ 44
  pub accepted : (a : Call add) → Fine a → same_settings a.before a.input ≡ true → apart a.before a.input ≡ true → a.number ≡ 0
  -- no sheet of a season is 47, nor is a sum that is given
  pub good : (c : Call season) → c.number ≡ 0 → Bad (sheet_by c) → ⊥
  pub good_sum : (a : Call add) → a.number ≡ 0 → Bad a.after → ⊥
  -- two controllers that judge the same run at the same settings give the same sheet, whatever was lent to them
  pub two_masters : (x y : Call season) → x.number ≡ 0 → y.number ≡ 0 → x.input.first ≡ y.input.first → x.input.last ≡ y.input.last
      → settings x ≡ settings y → sheet_by x ≡ sheet_by y
