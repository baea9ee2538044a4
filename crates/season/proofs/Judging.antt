-- Deal after deal: the sheet over those so far.
use mathlib.Core.Path.{◌≡◌, sym, ap, ◌∙◌, subst}
use mathlib.Core.Bool.{Bool}
use mathlib.Core.List.{List}
use Prim.Native.Nat.{ℕ, suc, ◌+◌, ◌-◌, ◌<◌, ◌≤◌}
use native.Mathlib.Omega.{arith}
use Rattle.memory.specs.declared.Room.{Room}
use Rattle.sheets.specs.Over.{Settings, sheet_over, between, zero_sheet}
use Rattle.sheets.specs.Noted.{noted}
use Rattle.sheets.specs.Promises.{Enterable}
use Rattle.sheets.proofs.Running.{run_start, run_enterable, run_next}
use Rattle.season.specs.Season.{result_of}
use Rattle.season.specs.Inner.{Playable, settings_of}
use Rattle.season.proofs.Answers.{each-answered}

module _ {first last budget : ℕ} {r : Room} {nodes heap keys costs : List ℕ} (partial : Bool) (p : Playable first last budget r nodes heap keys costs) where
  abbrev s : Settings
  s = settings_of budget r.capacity partial

  -- the sheet over the deals from the first to one
  abbrev pub upto : ℕ → List ℕ
  upto n = sheet_over s (result_of s) (between first n)

  empty : (n : ℕ) → n < first → zero_sheet s ≡ upto n
  empty n h = run_start s (result_of s) p.cheap (λ i l. each-answered s (suc i)) first n h

  pub none_yet : {sheet : List ℕ} → sheet ≡ zero_sheet s → sheet ≡ upto (first - 1)
  none_yet e = e ∙ empty (first - 1) (let l = p.low in omega arith)

  module _ {n : ℕ} {sheet : List ℕ} (e : sheet ≡ upto (n - 1)) (low : first ≤ n) where
    module _ (high : n ≤ last) where
      before : n - 1 + 1 ≡ n
      before = let l = p.low in omega arith

      few : n - 1 < 32000
      few = let l = p.low in let m = p.high in omega arith

      pub next_enterable : Enterable sheet n (result_of s n)
      next_enterable =
          subst (λ (x : List ℕ). Enterable x n (result_of s n)) (sym e)
          (subst (λ (y : ℕ). Enterable (upto (n - 1)) y (result_of s y)) before (run_enterable s (result_of s) p.cheap (λ i l. each-answered s (suc i)) first (n - 1) few))

      pub one_more : {after : List ℕ} → after ≡ noted sheet n (result_of s n) → after ≡ upto n
      one_more f =
          f ∙ ap (λ (x : List ℕ). noted x n (result_of s n)) e
          ∙ subst (λ (y : ℕ). noted (upto (n - 1)) y (result_of s y) ≡ upto y) before
          (run_next s (result_of s) p.cheap (λ i l. each-answered s (suc i)) first (n - 1) (omega arith) few)

    -- a run whose first number is above its last
    pub none_at_all : (first < n → n ≤ last) → last < n → sheet ≡ upto last
    none_at_all f h =
        let l = p.low in
        let q : n ≡ first = grind arith in
        e ∙ sym (empty (n - 1) (omega arith)) ∙ empty last (omega arith)
