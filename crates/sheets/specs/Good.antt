-- What is asked of a sheet that comes from outside (47). Sums are exact, whatever stands in the words.
use Rattle.std.specs.Prelude.{Bool, cond, ◌&&◌, ◌||◌, List, ℕ, ◌*◌, ◌-◌, ◌^◌, ◌/◌, ◌%◌, eqb, leb, ltb, length}
use Rattle.base.specs.Words.{every, sum}
use Rattle.sheets.specs.declared.Side.{Side}
use Rattle.sheets.specs.declared.Side.TheVariants.{Shortest as shortest, Longest as longest}
use Rattle.sheets.specs.Figures.{longest_list, last_deal, the_budget, answers, all_pops, mark_list, mark_deal, lists, covers, sheet_room, told}
use Rattle.sheets.specs.Over.{over, behind}

-- the sheet covers deal number n, which is at least 1: bit (n - 1) % 64 of its word (n - 1) / 64
unfoldable pub covered : List ℕ → ℕ → Bool
covered sheet n = eqb (told sheet (covers ((n - 1) / 64)) / 2 ^ ((n - 1) % 64) % 2) 1

-- how many deals it covers, and how many of them it calls won
unfoldable pub deals : List ℕ → ℕ
deals sheet = over (covered sheet) (λ n. 1)

abbrev pub wins : List ℕ → ℕ
wins sheet = told sheet (answers 0)

-- the mark is absent
unfoldable pub is_absent : Side → List ℕ → Bool
is_absent e sheet = eqb (told sheet (mark_list e)) 0 && eqb (told sheet (mark_deal e)) 0

-- a won list has the mark's length, and none is better
unfoldable pub is_best : Side → List ℕ → Bool
is_best e sheet =
    leb (told sheet (mark_list e)) longest_list
    && (ltb 0 (told sheet (lists (told sheet (mark_list e))))
    && every 201 (λ m. eqb (told sheet (lists m)) 0 || leb (behind e (told sheet (mark_list e))) (behind e m)))

-- the mark names a deal that the sheet has
unfoldable pub has_deal : Side → List ℕ → Bool
has_deal e sheet = leb 1 (told sheet (mark_deal e)) && (leb (told sheet (mark_deal e)) last_deal && covered sheet (told sheet (mark_deal e)))

unfoldable pub good_mark : Side → List ℕ → Bool
good_mark e sheet = cond (eqb (wins sheet) 0) (is_absent e sheet) (is_best e sheet && has_deal e sheet)

abbrev pub most_budget : ℕ
most_budget = 1000000

unfoldable pub good_sheet : List ℕ → Bool
good_sheet sheet =
    eqb (length sheet) sheet_room
    && (leb (told sheet the_budget) most_budget
    && (eqb (sum 7 (λ k. told sheet (answers k))) (deals sheet)
    && (eqb (sum 201 (λ m. told sheet (lists m))) (wins sheet)
    && (good_mark shortest sheet
    && (good_mark longest sheet
    && leb (told sheet all_pops) (told sheet the_budget * deals sheet))))))
