-- How few runs there can be between the columns of a table: of one length onto an occupied column, of thirteen into an empty one.
use mathlib.Core.Path.{◌≡◌, refl, sym, ap, ◌∙◌}
use mathlib.Core.Bool.{Bool, true, false, cond}
use mathlib.Core.List.{List, []}
use Prim.Native.Nat.{ℕ, zero, suc, ◌+◌, ◌-◌, ◌*◌, ◌<◌, ◌≤◌}
use native.Mathlib.Nat.{suc-mul}
use native.Mathlib.Numerals.{add-one}
use native.Mathlib.Omega.{arith}
use native.Mathlib.Decide.{dec_le, dec_lt}
use borrow.Author.Tests.{eqb-true, eqb-false}
use lib.Dec.{eqb}
use lib.ListN.{length, get_or}
use Rattle.base.specs.Words.{sum}
use Rattle.base.proofs.Words.{not_so}
use Rattle.base.proofs.Sums.{sum_ones}
use Rattle.card.specs.Card.{card_of}
use Rattle.board.specs.Table.{Table}
use Rattle.runs.specs.Follows.{follows}
use Rattle.rules.specs.Fit.{fits_on}
use Rattle.rules.specs.Inner.{top_value}
use Rattle.rules.proofs.Laying.{fits_top}
use Rattle.rules.proofs.Lengths.{under, only_length}
use Rattle.moves.specs.declared.Place.TheVariants.{Column as column}
use Rattle.moves.specs.Play.{there, last_of, hand, allowed}
use Rattle.moves.specs.declared.Move.{Move}
use Rattle.moves.proofs.Allowing.{allowed_is, last_first}
use Rattle.moves.proofs.Deciding.{deny_some}
use Rattle.generate.specs.Found.{offered, gather, found_between, found_from, found}
use Rattle.generate.specs.Inner.{tried_run}
use Rattle.generate.specs.declared.Way.TheVariants.{ColumnToColumn}
use Rattle.generate.proofs.Gathering.{gather_none, gather_long, gather_nothing, gather_only}
use Rattle.generate.proofs.Columns.{run_bounds}
use Rattle.generate.proofs.Offering.{if_allowed_lem}
use Rattle.generate.proofs.Sizes.{most_one, most_between}

-- ---- between two columns: at most one length is allowed onto an occupied one

module _ (t : Table) (i j : ℕ) (occupied : 0 < length (there t (column j))) where
  allowed_only : (k : ℕ) → allowed t (offered t ColumnToColumn i j (suc k)) ≡ true → top_value (there t (column j)) ≡ top_value (there t (column i)) + suc k
  unfolding offered hand top_value
  allowed_only k e =
      let l = there t (column i) in
      let x = get_or (last_of (suc k) l) 0 0 in
      let a = allowed_is t (offered t ColumnToColumn i j (suc k)) e in
      let within = run_bounds t i j (suc k) (card_of x) (omega arith) e in
      let long = within.run in
      let follow : follows (get_or (there t (column j)) (length (there t (column j)) - 1) 0) (under l (suc k)) ≡ true =
      sym (fits_top (there t (column j)) (under l (suc k)) (length (there t (column j)) - 1) (omega arith))
      ∙ ap (fits_on (there t (column j))) (sym (last_first (suc k) l) ∙ a.named) ∙ a.fit in
      only_length l (get_or (there t (column j)) (length (there t (column j)) - 1) 0) k (omega arith) follow

  none_else : (k : ℕ) → (top_value (there t (column j)) ≡ top_value (there t (column i)) + suc k → ⊥) → tried_run t i j k ≡ []
  none_else k d = if_allowed_lem t (offered t ColumnToColumn i j (suc k)) false (not_so (allowed t (offered t ColumnToColumn i j (suc k))) (λ e. d (allowed_only k e)))

  abbrev onto : List ℕ
  onto = there t (column j)

  abbrev away : List ℕ
  away = there t (column i)

  nothing : ((k : ℕ) → k < 13 → top_value onto ≡ top_value away + suc k → ⊥) → length (gather 13 (tried_run t i j)) ≤ 1
  nothing f = let e = ap length (gather_nothing (tried_run t i j) 13 (λ k h. none_else k (f k h))) in omega arith

  pub one_between : length (found_between t ColumnToColumn i j) ≤ 1
  unfolding found_between
  one_between = by_side (dec_le (top_value onto) (top_value away)) (dec_lt 13 (top_value onto - top_value away))
    where
      by_side : Dec (top_value onto ≤ top_value away) → Dec (13 < top_value onto - top_value away) → length (gather 13 (tried_run t i j)) ≤ 1
      by_side (yes h) d = nothing (λ k l q. let z : ⊥ = omega arith in z)
      by_side (no h) (yes d) = nothing (λ k l q. let z : ⊥ = omega arith in z)
      by_side (no h) (no d) =
          let only : ℕ = top_value onto - top_value away - 1 in
          let e = ap length (gather_only (tried_run t i j) 13 only (omega arith) (λ k l q. none_else k (λ s. q (let z : k ≡ only = omega arith in z)))) in
          let m = most_one t (offered t ColumnToColumn i j (suc only)) in
          omega arith

-- ---- all columns

-- a gathered list is no longer than its lists are together
gather-sum : (f : ℕ → List Move) (g : ℕ → ℕ) (n : ℕ) → ((k : ℕ) → k < n → length (f k) ≤ g k) → length (gather n f) ≤ sum n g
unfolding sum
gather-sum f g zero h = let e = ap length (gather_none f) in omega arith
gather-sum f g (suc n) h =
    let b = gather-sum f g n (λ k l. h k (omega arith)) in
    let l = gather_long f n in
    let w = h n (omega arith) in
    omega arith

module _ (p : ℕ → Bool) where
  abbrev many : ℕ → ℕ
  many n = sum n (λ k. cond (p k) 1 0)

  thirteen_or_one : (n : ℕ) → sum n (λ k. cond (p k) 13 1) ≡ many n * 12 + n
  unfolding sum
  thirteen_or_one zero = omega arith
  thirteen_or_one (suc n) = by (p n) (thirteen_or_one n)
    where
      by : (b : Bool) → sum n (λ k. cond (p k) 13 1) ≡ many n * 12 + n → sum n (λ k. cond (p k) 13 1) + cond b 13 1 ≡ (many n + cond b 1 0) * 12 + suc n
      by true e = omega arith
      by false e = omega arith

  some_or_none : (c n : ℕ) → sum n (λ k. cond (p k) 0 c) + many n * c ≡ n * c
  unfolding sum
  some_or_none c zero = omega arith
  some_or_none c (suc n) = by (p n) (some_or_none c n)
    where
      by : (b : Bool) → sum n (λ k. cond (p k) 0 c) + many n * c ≡ n * c → sum n (λ k. cond (p k) 0 c) + cond b 0 c + (many n + cond b 1 0) * c ≡ suc n * c
      by true e =
          let m = suc-mul n c in
          let o = ap (λ (k : ℕ). k * c) (add-one (many n)) ∙ suc-mul (many n) c in
          omega arith
      by false e =
          let m = suc-mul n c in
          let o = ap (λ (k : ℕ). k * c) (let q : many n + 0 ≡ many n = omega arith in q) in
          omega arith

  many_most : (n : ℕ) → many n ≤ n
  many_most n = sum_ones (λ k. cond (p k) 1 0) n (λ k h. by (p k))
    where
      by : (b : Bool) → cond b 1 0 ≤ 1
      by true = omega arith
      by false = omega arith

positive : (n : ℕ) → (n ≡ 0 → ⊥) → 0 < n
positive n d = omega arith

-- with e of eight columns empty
by_count : (e s c : ℕ) → e ≤ 8 → s + e * c ≡ 8 * c → c ≡ e * 12 + 8 → s ≤ 224
by_count zero s c h q d = omega arith
by_count (suc zero) s c h q d = omega arith
by_count (suc (suc zero)) s c h q d = omega arith
by_count (suc (suc (suc zero))) s c h q d = omega arith
by_count (suc (suc (suc (suc zero)))) s c h q d = omega arith
by_count (suc (suc (suc (suc (suc zero))))) s c h q d = omega arith
by_count (suc (suc (suc (suc (suc (suc zero)))))) s c h q d = omega arith
by_count (suc (suc (suc (suc (suc (suc (suc zero))))))) s c h q d = omega arith
by_count (suc (suc (suc (suc (suc (suc (suc (suc zero)))))))) s c h q d = omega arith
by_count (suc (suc (suc (suc (suc (suc (suc (suc (suc e))))))))) s c h q d = absurd (let z : ⊥ = omega arith in z)

module _ (t : Table) where
  abbrev bare : ℕ → Bool
  bare i = eqb (length (there t (column i))) 0

  from_bare : (i : ℕ) → bare i ≡ true → found_from t ColumnToColumn i ≡ []
  unfolding found_from found_between offered
  from_bare i e =
      gather_nothing (found_between t ColumnToColumn i) 8
      (λ j h. gather_nothing (tried_run t i j) 13
      (λ k l. if_allowed_lem t (offered t ColumnToColumn i j (suc k)) false
      (deny_some t (offered t ColumnToColumn i j (suc k)) (let z = eqb-true (length (there t (column i))) 0 e in omega arith))))

  between : (i j : ℕ) → length (found_between t ColumnToColumn i j) ≤ cond (bare j) 13 1
  between i j = by (bare j) refl
    where
      by : (b : Bool) → bare j ≡ b → length (found_between t ColumnToColumn i j) ≤ cond b 13 1
      by true e = let m = most_between t ColumnToColumn i j in omega arith
      by false e = one_between t i j (positive (length (there t (column j))) (eqb-false (length (there t (column j))) 0 e))

  all_from : (i : ℕ) → length (found_from t ColumnToColumn i) ≤ many bare 8 * 12 + 8
  unfolding found_from
  all_from i =
      let g = gather-sum (found_between t ColumnToColumn i) (λ j. cond (bare j) 13 1) 8 (λ j h. between i j) in
      let e = thirteen_or_one bare 8 in
      omega arith

  from_any : (i : ℕ) → length (found_from t ColumnToColumn i) ≤ cond (bare i) 0 (many bare 8 * 12 + 8)
  from_any i = by (bare i) refl
    where
      by : (b : Bool) → bare i ≡ b → length (found_from t ColumnToColumn i) ≤ cond b 0 (many bare 8 * 12 + 8)
      by true e = let z = ap length (from_bare i e) in omega arith
      by false e = all_from i

  -- no table has more runs
  pub few_runs : length (found t ColumnToColumn) ≤ 224
  unfolding found
  few_runs =
      let c : ℕ = many bare 8 * 12 + 8 in
      let g = gather-sum (found_from t ColumnToColumn) (λ i. cond (bare i) 0 c) 8 (λ i h. from_any i) in
      let b = by_count (many bare 8) (sum 8 (λ i. cond (bare i) 0 c)) c (many_most bare 8) (some_or_none bare c 8) refl in
      omega arith
