-- On well-formed boards the search's order by raised scores is the order by the signed scores themselves.
use mathlib.Core.Path.{◌≡◌, refl, sym, ap, ap₂, ◌∙◌}
use mathlib.Core.Bool.{not, ◌&&◌}
use Prim.Native.Nat.{ℕ, suc, ◌+◌, ◌-◌, ◌<◌}
use native.Mathlib.Omega.{arith}
use native.Mathlib.Decide.{dec_lt}
use borrow.Author.Tests.{eqb-true, eq-eqb, lt-ltb, le-ltb, lt-leb, le-leb, leb-true}
use lib.Dec.{eqb, leb, ltb}
use lib.IntN.{ℤ, pos, negsuc, sub_ℕ, ◌+ℤ◌}
use lib.Signed.{le_z, lt_z}
use Rattle.base.proofs.Words.{first, second, both, same_test}
use Rattle.board.specs.Fair.{Fair}
use Rattle.features.specs.Features.{Bounded, features_of}
use Rattle.score.specs.Scores.{heuristic, heuristic_bias, heuristic_key, progress_key}
use Rattle.features.specs.declared.Features.{Features}
use Rattle.features.proofs.Bounds.{fair_bounded}
use Rattle.score.proofs.Keys.{sub_below, sub_above, raised, compared, heuristic_key_lem, heuristic-order, progress-order}
use Rattle.search.specs.Solve.{Node, cost, before, better}
use Rattle.search.specs.Freecell.{freecell}
use Rattle.search.specs.Signed.{equal, hope_of, sum_of, before_signed, progress_of, better_signed}

-- ---- tests of order

below : (m n : ℕ) → ltb m n ≡ not (leb n m)
below m n = by_side (dec_lt m n)
  where
    by_side : Dec (m < n) → ltb m n ≡ not (leb n m)
    by_side (yes h) = lt-ltb m n h ∙ ap not (sym (lt-leb n m h))
    by_side (no h) = le-ltb m n (omega arith) ∙ ap not (sym (le-leb n m (omega arith)))

below_z : (x y : ℤ) → lt_z x y ≡ not (le_z y x)
below_z (pos a) (pos b) = below a b
below_z (pos a) (negsuc b) = refl
below_z (negsuc a) (pos b) = refl
below_z (negsuc a) (negsuc b) = below b a

same : (m n : ℕ) → eqb m n ≡ (leb m n && leb n m)
same m n =
    same_test (eqb m n) (leb m n && leb n m)
    (λ e. let q = eqb-true m n e in both (le-leb m n (omega arith)) (le-leb n m (omega arith)))
    (λ e. let h = leb-true m n (first (leb m n) (leb n m) e) in let k = leb-true n m (second (leb m n) (leb n m) e) in eq-eqb m n (omega arith))

-- two numbers compare as two signed ones do
record Alike (m n : ℕ) (x y : ℤ) : Type 0 where
  forth : leb m n ≡ le_z x y
  back : leb n m ≡ le_z y x

module _ {m n : ℕ} {x y : ℤ} (o : Alike m n x y) where
  below_as : ltb m n ≡ lt_z x y
  below_as = below m n ∙ ap not o.back ∙ sym (below_z x y)

  same_as : eqb m n ≡ equal x y
  same_as = same m n ∙ ap₂ ◌&&◌ o.forth o.back

-- ---- a cost added to a raised score

sum_raised : (c m k : ℕ) → sub_ℕ (c + m) k ≡ pos c +ℤ sub_ℕ m k
sum_raised c m k = by_side (dec_lt m k)
  where
    by_side : Dec (m < k) → sub_ℕ (c + m) k ≡ pos c +ℤ sub_ℕ m k
    by_side (yes h) =
        ap (λ (x : ℕ). sub_ℕ x k) (let q : c + m ≡ c + k - suc (k - suc m) = omega arith in q)
        ∙ raised c (suc (k - suc m)) k (omega arith)
        ∙ ap (λ (z : ℤ). pos c +ℤ z) (sym (sub_below m k h))
    by_side (no h) =
        sub_above (c + m) k (omega arith)
        ∙ ap pos (let q : c + m - k ≡ c + (m - k) = omega arith in q)
        ∙ ap (λ (z : ℤ). pos c +ℤ z) (sym (sub_above m k (omega arith)))

sum-order : (c d : ℕ) (f g : Features) → Bounded f → Bounded g
    → leb (c + heuristic_key f) (d + heuristic_key g) ≡ le_z (pos c +ℤ heuristic f) (pos d +ℤ heuristic g)
sum-order c d f g b e =
    compared (c + heuristic_key f) (d + heuristic_key g) heuristic_bias
    ∙ ap₂ le_z (sum_raised c (heuristic_key f) heuristic_bias ∙ ap (λ (z : ℤ). pos c +ℤ z) (heuristic_key_lem f b))
    (sum_raised d (heuristic_key g) heuristic_bias ∙ ap (λ (z : ℤ). pos d +ℤ z) (heuristic_key_lem g e))

-- ---- the two orders

module _ (a b : Node freecell) (p : Fair a.board) (q : Fair b.board) where
  abbrev f : Features
  f = features_of a.board

  abbrev g : Features
  g = features_of b.board

  u : Bounded f
  u = fair_bounded a.board p

  v : Bounded g
  v = fair_bounded b.board q

  sums : Alike (cost freecell a + heuristic_key f) (cost freecell b + heuristic_key g) (sum_of a) (sum_of b)
  unfolding sum_of hope_of
  sums = record { forth = sum-order (cost freecell a) (cost freecell b) f g u v; back = sum-order (cost freecell b) (cost freecell a) g f v u }

  hopes : Alike (heuristic_key f) (heuristic_key g) (hope_of a) (hope_of b)
  unfolding hope_of
  hopes = record { forth = heuristic-order f g u v; back = heuristic-order g f v u }

  progresses : Alike (progress_key g) (progress_key f) (progress_of b) (progress_of a)
  unfolding progress_of
  progresses = record { forth = progress-order g f v u; back = progress-order f g u v }

  -- (cost + key, key, number) compares as (cost + heuristic, heuristic, number)
  pub before_signed_lem : before freecell a b ≡ before_signed a b
  unfolding before before_signed
  before_signed_lem = rw (below_as sums, same_as sums, below_as hopes, same_as hopes)

  -- and the best progress moves as the signed score says
  pub better-signed : better freecell a b ≡ better_signed a b
  unfolding better better_signed
  better-signed = rw (below_as progresses)
