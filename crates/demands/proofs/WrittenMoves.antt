-- What request (iv) says of a written move is what the reader makes of it.
use mathlib.Core.Path.{◌≡◌, refl, sym, ap, ◌∙◌}
use mathlib.Core.Bool.{Bool, true, false, not}
use mathlib.Core.Logic.{inl, inr}
use mathlib.Core.List.{List, [], ◌∷◌}
use Prim.Native.Nat.{ℕ, zero, suc, ◌<◌, ◌≤◌}
use native.Mathlib.Omega.{arith}
use borrow.Author.Tests.{eq-eqb, ne_eqb, leb-true, leb-false}
use lib.Dec.{leb}
use lib.ListN.{length}
use Rattle.base.specs.Answer.{Answer, given, refused}
use Rattle.board.specs.Table.{Table}
use Rattle.moves.specs.Play.{there}
use Rattle.moves.specs.declared.Place.TheVariants.{Column as column}
use Rattle.moves.specs.declared.Move.{Move}
use Rattle.generate.specs.Found.{offered}
use Rattle.generate.specs.declared.Way.TheVariants.{ColumnToColumn, ColumnToHome, ColumnToCell, CellToColumn, CellToHome}
use Rattle.sense.specs.Meant.{most_into, origin, leaves, meant}
use Rattle.notation.specs.declared.Jot.{Jot}
use Rattle.notation.specs.declared.Jot.TheVariants.{Between, Counted, ToCell, ToHome, FromCell, CellHome}
use Rattle.sense.proofs.Meaning.{meant-sense}
use Rattle.paper.proofs.Slipping.{own_column_lem, no_card_lem, count_occupied, count_none, count_most, count_means, most_means, fit_means, none_fits_lem}
use Rattle.demands.specs.WrittenMoves.{OwnColumn, WrongCount, NoneFits, Wrong, own_column, no_card, wrong_count, none_fits, Means}

-- ---- tests, and what they say

leaves_not : (w : Jot) → OwnColumn w → leaves w ≡ false
leaves_not (Between i j) e = ap not (eq-eqb i j e)
leaves_not (Counted i j n) e = ap not (eq-eqb i j e)
leaves_not (ToCell i c) e = absurd e
leaves_not (ToHome i) e = absurd e
leaves_not (FromCell c j) e = absurd e
leaves_not (CellHome c) e = absurd e

leaves_so : (w : Jot) → (OwnColumn w → ⊥) → leaves w ≡ true
leaves_so (Between i j) d = ap not (ne_eqb i j d)
leaves_so (Counted i j n) d = ap not (ne_eqb i j d)
leaves_so (ToCell i c) d = refl
leaves_so (ToHome i) d = refl
leaves_so (FromCell c j) d = refl
leaves_so (CellHome c) d = refl

some : (l : List ℕ) → (l ≡ [] → ⊥) → 1 ≤ length l
some [] d = absurd (d refl)
some (x ∷ l) d = omega arith

no_more : (l : List ℕ) → (1 ≤ length l → ⊥) → length l ≡ 0
no_more [] d = refl
no_more (x ∷ l) d = absurd (d (omega arith))

not_none : (n : ℕ) → (n ≡ 0 → ⊥) → 1 ≤ n
not_none zero d = absurd (d refl)
not_none (suc n) d = omega arith

below : (most n : ℕ) → (most ≤ n → ⊥) → n < most
below most n d = by (leb most n) refl
  where
    by : (b : Bool) → leb most n ≡ b → n < most
    by true q = absurd (d (leb-true most n q))
    by false q = let l = leb-false most n q in omega arith

-- ---- what is wrong with it

module _ (t : Table) where
  count_wrong : (w : Jot) → leaves w ≡ true → 1 ≤ length (there t (origin w)) → WrongCount t w → meant t w ≡ refused 30
  count_wrong (Between i j) a s x = absurd x
  count_wrong (Counted i j n) a s (inl o) = count_occupied t i j a s n o
  count_wrong (Counted i j n) a s (inr (inl e)) = count_none t i j a s n e
  count_wrong (Counted i j n) a s (inr (inr h)) = count_most t i j a s n h
  count_wrong (ToCell i c) a s x = absurd x
  count_wrong (ToHome i) a s x = absurd x
  count_wrong (FromCell c j) a s x = absurd x
  count_wrong (CellHome c) a s x = absurd x

  fits_nowhere : (w : Jot) → leaves w ≡ true → 1 ≤ length (there t (origin w)) → NoneFits t w → meant t w ≡ refused 38
  fits_nowhere (Between i j) a s x =
      none_fits_lem t i j a s x.0 (λ n one run fits. x.1 n (record { some = one; run = run; fits = fits }))
  fits_nowhere (Counted i j n) a s x = absurd x
  fits_nowhere (ToCell i c) a s x = absurd x
  fits_nowhere (ToHome i) a s x = absurd x
  fits_nowhere (FromCell c j) a s x = absurd x
  fits_nowhere (CellHome c) a s x = absurd x

  pub wrong_meant : (w : Jot) (n : ℕ) → Wrong t w n → meant t w ≡ refused n
  wrong_meant w n (own_column o e) = own_column_lem t w (leaves_not w o) ∙ ap refused (sym e)
  wrong_meant w n (no_card a c e) = no_card_lem t w (leaves_so w a) (let l = ap length c in omega arith) ∙ ap refused (sym e)
  wrong_meant w n (wrong_count a c x e) = count_wrong w (leaves_so w a) (some (there t (origin w)) c) x ∙ ap refused (sym e)
  wrong_meant w n (none_fits a c g x e) = fits_nowhere w (leaves_so w a) (some (there t (origin w)) c) x ∙ ap refused (sym e)

  -- ---- which move it is

  is_move : (f : ℕ → Move) {m : Move} {n k : ℕ} → m ≡ f n → n ≡ k → ◌≡◌ {A = Answer Move} (given (f k)) (given m)
  is_move f e q = ap (λ (m : Move). given m) (ap f (sym q) ∙ sym e)

  between_means : (i j : ℕ) {m : Move} → Means t (Between i j) m → (l : List ℕ) → there t (column j) ≡ l → meant t (Between i j) ≡ given m
  between_means i j k [] q =
      most_means t i j (leaves_so (Between i j) k.away) (some (there t (column i)) k.some) (ap length q)
      ∙ is_move (offered t ColumnToColumn i j) k.is (k.counts.0 q)
  between_means i j k (x ∷ l) q =
      let laid : 1 ≤ length (there t (column j)) = (let n = ap length q in omega arith) in
      let f = k.counts.1 laid in
      fit_means t i j (leaves_so (Between i j) k.away) (some (there t (column i)) k.some) laid k.count f.some f.run f.fits
      ∙ is_move (offered t ColumnToColumn i j) k.is refl

  pub means_meant : (w : Jot) (m : Move) → Means t w m → meant t w ≡ given m
  means_meant (Between i j) m k = between_means i j k (there t (column j)) refl
  means_meant (Counted i j n) m k =
      count_means t i j (leaves_so (Counted i j n) k.away) (some (there t (column i)) k.some) n
      (no_more (there t (column j)) (λ h. k.goes (inl h)))
      (not_none n (λ e. k.goes (inr (inl e))))
      (below (most_into t i j) n (λ h. k.goes (inr (inr h))))
      ∙ is_move (offered t ColumnToColumn i j) k.is k.counts
  means_meant (ToCell i c) m k = meant-sense t (ToCell i c) refl (some (there t (origin (ToCell i c))) k.some) ∙ is_move (offered t ColumnToCell i c) k.is k.counts
  means_meant (ToHome i) m k = meant-sense t (ToHome i) refl (some (there t (origin (ToHome i))) k.some) ∙ is_move (offered t ColumnToHome i 0) k.is k.counts
  means_meant (FromCell c j) m k = meant-sense t (FromCell c j) refl (some (there t (origin (FromCell c j))) k.some) ∙ is_move (offered t CellToColumn c j) k.is k.counts
  means_meant (CellHome c) m k = meant-sense t (CellHome c) refl (some (there t (origin (CellHome c))) k.some) ∙ is_move (offered t CellToHome c 0) k.is k.counts
