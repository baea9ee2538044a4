-- One deal's result entered into a sheet.
use Rattle.std.specs.Prelude.{Bool, cond, ◌&&◌, List, ℕ, ◌+◌, ◌-◌, ◌^◌, ◌/◌, ◌%◌, eqb, ltb, get_or}
use Rattle.sheets.specs.declared.Side.{Side}
use Rattle.sheets.specs.Figures.{answers_counted, Figure, the_budget, the_capacity, the_flag, answers, all_pops, mark_list, mark_deal, lists, covers, told, words_of}
use Rattle.sheets.specs.Over.{Result, won, key_of}
use Rattle.sheets.specs.Adding.{key_in}

-- deal n is won, by a list that is better than the sheet's mark
abbrev pub leads : Side → List ℕ → ℕ → Result → Bool
leads e sheet n x = won x && ltb (key_of e x.moves n) (key_in e sheet)

unfoldable pub noted_figure : List ℕ → ℕ → Result → Figure → ℕ
noted_figure a n x the_budget = told a the_budget
noted_figure a n x the_capacity = told a the_capacity
noted_figure a n x the_flag = told a the_flag
noted_figure a n x (answers k) = told a (answers k) + cond (eqb x.answer (get_or answers_counted k 0)) 1 0
noted_figure a n x all_pops = told a all_pops + x.pops
noted_figure a n x (mark_list e) = cond (leads e a n x) x.moves (told a (mark_list e))
noted_figure a n x (mark_deal e) = cond (leads e a n x) n (told a (mark_deal e))
noted_figure a n x (lists m) = told a (lists m) + cond (won x && eqb x.moves m) 1 0
noted_figure a n x (covers w) = told a (covers w) + cond (eqb ((n - 1) / 64) w) (2 ^ ((n - 1) % 64)) 0

-- deal n, which the sheet lacks, gave x
unfoldable pub noted : List ℕ → ℕ → Result → List ℕ
noted a n x = words_of (noted_figure a n x)
