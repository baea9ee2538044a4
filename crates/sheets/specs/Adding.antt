-- Two sheets added: 47, 45, 44, or the sheet over both.
use Rattle.std.specs.Prelude.{Bool, cond, not, ◌&&◌, List, ℕ, suc, ◌+◌, eqb, ltb}
use Rattle.base.specs.Words.{every}
use Rattle.base.specs.Answer.{Answer, given, unless}
use Rattle.sheets.specs.declared.Side.{Side}
use Rattle.sheets.specs.Figures.{last_deal, Figure, the_budget, the_capacity, the_flag, answers, all_pops, mark_list, mark_deal, lists, covers, told, words_of}
use Rattle.sheets.specs.Over.{key_of, no_key}
use Rattle.sheets.specs.Good.{covered, good_sheet}

-- a flag is 0 for no, and any other number for yes, which comes out as 1
abbrev pub flag_of : ℕ → ℕ
flag_of x = cond (eqb x 0) 0 1

unfoldable pub same_settings : List ℕ → List ℕ → Bool
same_settings a b =
    eqb (told a the_budget) (told b the_budget)
    && (eqb (told a the_capacity) (told b the_capacity) && eqb (flag_of (told a the_flag)) (flag_of (told b the_flag)))

-- no deal number is in both
unfoldable pub apart : List ℕ → List ℕ → Bool
apart a b = every last_deal (λ i. not (covered a (suc i) && covered b (suc i)))

-- the key of a sheet's mark
unfoldable pub key_in : Side → List ℕ → ℕ
key_in e sheet = cond (eqb (told sheet (mark_deal e)) 0) no_key (key_of e (told sheet (mark_list e)) (told sheet (mark_deal e)))

-- b's mark is better than a's
abbrev pub better : Side → List ℕ → List ℕ → Bool
better e a b = ltb (key_in e b) (key_in e a)

unfoldable pub added_figure : List ℕ → List ℕ → Figure → ℕ
added_figure a b the_budget = told a the_budget
added_figure a b the_capacity = told a the_capacity
added_figure a b the_flag = flag_of (told a the_flag)
added_figure a b (answers k) = told a (answers k) + told b (answers k)
added_figure a b all_pops = told a all_pops + told b all_pops
added_figure a b (mark_list e) = cond (better e a b) (told b (mark_list e)) (told a (mark_list e))
added_figure a b (mark_deal e) = cond (better e a b) (told b (mark_deal e)) (told a (mark_deal e))
added_figure a b (lists m) = told a (lists m) + told b (lists m)
added_figure a b (covers w) = told a (covers w) + told b (covers w)

unfoldable pub added : List ℕ → List ℕ → List ℕ
added a b = words_of (added_figure a b)

unfoldable pub add_asked : List ℕ → List ℕ → Answer (List ℕ)
add_asked a b = unless (good_sheet a && good_sheet b) 47 (unless (same_settings a b) 45 (unless (apart a b) 44 (given (added a b))))
