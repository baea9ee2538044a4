-- The sheet over some deal numbers: sums and leasts over 1 to 32,000 of what each deal gave.
use Rattle.std.specs.Prelude.{Bool, cond, ◌&&◌, List, ℕ, zero, suc, min, ◌+◌, ◌*◌, ◌-◌, ◌^◌, ◌/◌, ◌%◌, eqb, leb, ltb, get_or}
use Rattle.base.specs.Words.{sum}
use Rattle.sheets.specs.declared.Side.{Side}
use Rattle.sheets.specs.declared.Side.TheVariants.{Shortest as shortest, Longest as longest}
use Rattle.sheets.specs.Figures.{answers_counted, longest_list, last_deal, Figure, the_budget, the_capacity, the_flag, answers, all_pops, mark_list, mark_deal, lists, covers, words_of}

pub record Settings : Type 0 where
  pub budget : ℕ
  pub capacity : ℕ
  pub partial : Bool

-- what a deal gave: the number of the answer, the pops, and how many moves the list has
pub record Result : Type 0 where
  pub answer : ℕ
  pub pops : ℕ
  pub moves : ℕ

-- answer 0 alone is a win
abbrev pub won : Result → Bool
won x = eqb x.answer 0

-- f added up over the deals that p holds of
unfoldable pub over : (ℕ → Bool) → (ℕ → ℕ) → ℕ
over p f = sum last_deal (λ i. cond (p (suc i)) (f (suc i)) 0)

-- ---- the shortest and the longest

-- how far a list is behind the best that its side can have
abbrev pub behind : Side → ℕ → ℕ
behind shortest m = m
behind longest m = longest_list - m

-- marks are compared as numbers: the least key is the best list's, and of equal lists' the lowest deal's
abbrev pub key_of : Side → ℕ → ℕ → ℕ
key_of e m n = behind e m * 32768 + n

-- no list: above every key
abbrev pub no_key : ℕ
no_key = 201 * 32768

unfoldable pub least : ℕ → (ℕ → ℕ) → ℕ
least zero f = no_key
least (suc n) f = min (least n f) (f n)

-- the least key among the deals that p holds of
unfoldable pub best_key : Side → (ℕ → Result) → (ℕ → Bool) → ℕ
best_key e r p = least last_deal (λ i. cond (p (suc i) && won (r (suc i))) (key_of e (r (suc i)).moves (suc i)) no_key)

-- a key's list and deal; 0 and 0 if there is none
unfoldable pub key_list : Side → ℕ → ℕ
key_list e k = cond (ltb k no_key) (behind e (k / 32768)) 0

unfoldable pub key_deal : ℕ → ℕ
key_deal k = cond (ltb k no_key) (k % 32768) 0

-- ---- the sheet

unfoldable pub figure_over : Settings → (ℕ → Result) → (ℕ → Bool) → Figure → ℕ
figure_over s r p the_budget = s.budget
figure_over s r p the_capacity = s.capacity
figure_over s r p the_flag = cond s.partial 1 0
figure_over s r p (answers k) = over p (λ n. cond (eqb (r n).answer (get_or answers_counted k 0)) 1 0)
figure_over s r p all_pops = over p (λ n. (r n).pops)
figure_over s r p (mark_list e) = key_list e (best_key e r p)
figure_over s r p (mark_deal e) = key_deal (best_key e r p)
figure_over s r p (lists m) = over p (λ n. cond (won (r n) && eqb (r n).moves m) 1 0)
figure_over s r p (covers w) = sum 64 (λ b. cond (p (suc (64 * w + b))) (2 ^ b) 0)

-- the sheet over the deal numbers that p holds of, each of which gave what r tells
unfoldable pub sheet_over : Settings → (ℕ → Result) → (ℕ → Bool) → List ℕ
sheet_over s r p = words_of (figure_over s r p)

-- the numbers of a run of deals: none, if the first is above the last
unfoldable pub between : ℕ → ℕ → ℕ → Bool
between low high n = leb low n && leb n high

-- ---- the sheet over no deal

-- all zero but for its settings
unfoldable pub no_figure : Settings → Figure → ℕ
no_figure s the_budget = s.budget
no_figure s the_capacity = s.capacity
no_figure s the_flag = cond s.partial 1 0
no_figure s (answers k) = 0
no_figure s all_pops = 0
no_figure s (mark_list e) = 0
no_figure s (mark_deal e) = 0
no_figure s (lists m) = 0
no_figure s (covers w) = 0

unfoldable pub zero_sheet : Settings → List ℕ
zero_sheet s = words_of (no_figure s)
