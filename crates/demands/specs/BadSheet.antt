-- Number 47, clause by clause, over the words of a sheet: "47 for a sheet whose ..", from the request's sentence alone.
use Rattle.std.specs.Prelude.{◌≡◌, false, cond, ◌&&◌, List, ◌⊎◌, ℕ, suc, ◌*◌, ◌<◌, ◌≤◌, length}
use Rattle.base.specs.Words.{sum}
use Rattle.intake.specs.Number.{is_number}
use Rattle.sheets.specs.declared.Side.{Side}
use Rattle.sheets.specs.declared.Side.TheVariants.{Shortest as shortest, Longest as longest}
use Rattle.sheets.specs.Figures.{sheet_room, last_deal, longest_list, told, the_budget, answers, all_pops, mark_list, mark_deal, lists}
use Rattle.sheets.specs.Good.{covered, wins}

-- how many deals a sheet has
abbrev pub deals_of : List ℕ → ℕ
deals_of w = sum last_deal (λ i. cond (covered w (suc i)) 1 0)

-- a list of m moves is shorter, or longer, than one of l moves
abbrev pub Beats : Side → ℕ → ℕ → Type 0
Beats shortest m l = m < l
Beats longest m l = l < m

pub data Bad (w : List ℕ) : Type 0 where
  -- it has not the words of a sheet
  other_length : (length w ≡ sheet_room → ⊥) → Bad w
  -- "whose budget is above 1,000,000, ..
  dear : 1000000 < told w the_budget → Bad w
  -- .. whose answers don't add up to its deals ..
  answers_off : (sum 7 (λ k. told w (answers k)) ≡ deals_of w → ⊥) → Bad w
  -- .. or won lengths to its wins, ..
  lengths_off : (sum 201 (λ m. told w (lists m)) ≡ wins w → ⊥) → Bad w
  -- .. whose shortest or longest isn't that of its lengths ..": it is marked though there is no win, ..
  unwon : (e : Side) → wins w ≡ 0 → (0 < told w (mark_list e)) ⊎ (0 < told w (mark_deal e)) → Bad w
  -- .. or no won list has its length, ..
  no_list : (e : Side) → 0 < wins w → (longest_list < told w (mark_list e)) ⊎ (told w (lists (told w (mark_list e))) ≡ 0) → Bad w
  -- .. or a won list beats it
  beaten : (e : Side) (m : ℕ) → m ≤ longest_list → 0 < told w (lists m) → Beats e m (told w (mark_list e)) → Bad w
  -- ".. or names a deal it lacks, ..
  lacks : (e : Side) → 0 < wins w → (is_number (told w (mark_deal e)) && covered w (told w (mark_deal e))) ≡ false → Bad w
  -- .. or whose pops exceed budget times deals"
  overspent : told w the_budget * deals_of w < told w all_pops → Bad w
