-- The moves found are exactly the allowed moves of their kind, and each can be said.
use mathlib.Core.Path.{◌≡◌, refl, sym, ap, ◌∙◌, subst}
use mathlib.Core.Bool.{Bool, true, false, cond}
use mathlib.Core.List.{[], ◌∷◌}
use mathlib.Core.Logic.{inl, inr}
use Prim.Native.Nat.{ℕ, suc, ◌-◌, ◌<◌, ◌≤◌}
use native.Mathlib.Omega.{arith}
use borrow.Author.Tests.{ltb-true}
use lib.ListN.{length, get_or}
use Rattle.card.specs.Suit.{suit_number}
use Rattle.card.specs.Card.{is_card, card_of}
use Rattle.card.specs.declared.Suit.{Suit}
use Rattle.card.specs.declared.Card.{Card}
use Rattle.base.proofs.Words.{all_at}
use Rattle.card.proofs.Codes.{suit_below, suit_at_number, card_code, value_of_card}
use Rattle.board.specs.Table.{Table}
use Rattle.board.specs.Fair.{Fair}
use Rattle.rules.proofs.Laying.{run_13}
use Rattle.moves.specs.Move.{from, count, card, sayable}
use Rattle.moves.specs.declared.Place.{Place}
use Rattle.moves.specs.declared.Place.TheVariants.{Column as column}
use Rattle.moves.specs.Play.{there, last_of, hand, allowed}
use Rattle.moves.specs.declared.Move.{Move}
use Rattle.moves.specs.declared.Move.TheVariants.{TableauToTableau, TableauToFoundation, TableauToFreeCell, FreeCellToTableau, FreeCellToFoundation, FoundationToTableau}
use Rattle.moves.proofs.Records.{said_from, said_to, said_count}
use Rattle.moves.proofs.Allowing.{allowed_is, last_first}
use Rattle.moves.proofs.Fairness.{fair_cards}
use Rattle.generate.specs.Found.{source_count, source, target_count, length_count, move_from, offered, if_allowed, found_between, found_from, found, way_of, is_in}
use Rattle.generate.specs.declared.Way.{Way}
use Rattle.generate.specs.declared.Way.TheVariants.{ColumnToColumn, ColumnToHome, ColumnToCell, CellToColumn, CellToHome, HomeToColumn}
use Rattle.generate.proofs.Gathering.{gather_in, gather_by}
use Rattle.generate.proofs.Places.{source-there}
use Rattle.generate.proofs.Offering.{comes_from, said_way, if_allowed_lem}
use Rattle.generate.proofs.Columns.{run_bounds}

-- ---- a move that is found is allowed, and of its kind

kind_of : (w : Way) (i j n : ℕ) (c : Card) → way_of (move_from w i j n c) ≡ w
kind_of ColumnToColumn i j n c = refl
kind_of ColumnToHome i j n c = refl
kind_of ColumnToCell i j n c = refl
kind_of CellToColumn i j n c = refl
kind_of CellToHome i j n c = refl
kind_of HomeToColumn i j n c = refl

one_allowed : (t : Table) (w : Way) (m x : Move) → way_of x ≡ w → is_in m (if_allowed t x) → (allowed t m ≡ true) × (way_of m ≡ w)
unfolding if_allowed
one_allowed t w m x k i = by_test (allowed t x) refl i
  where
    by_test : (a : Bool) → allowed t x ≡ a → is_in m (cond a (x ∷ []) []) → (allowed t m ≡ true) × (way_of m ≡ w)
    by_test true e (inl q) = (ap (allowed t) q ∙ e, ap way_of q ∙ k)
    by_test true e (inr z) = absurd z
    by_test false e z = absurd z

-- what holds of each move offered that is allowed holds of each move found
module _ (t : Table) (w : Way) (m : Move) {P : Type 0} where
  found_by_lem : ((i j k : ℕ) → i < source_count w → j < target_count w → k < length_count w → is_in m (if_allowed t (offered t w i j (suc k))) → P) → is_in m (found t w) → P
  unfolding found found_from found_between
  found_by_lem h =
      gather_by m (found_from t w) (source_count w)
      (λ i a. gather_by m (found_between t w i) (target_count w)
      (λ j b. gather_by m (λ k. if_allowed t (offered t w i j (suc k))) (length_count w) (λ k c. h i j k a b c)))

pub found-allowed : (t : Table) (w : Way) (m : Move) → is_in m (found t w) → (allowed t m ≡ true) × (way_of m ≡ w)
unfolding offered
found-allowed t w m =
    found_by_lem t w m
    (λ i j k a b c. one_allowed t w m (offered t w i j (suc k)) (kind_of w i j (suc k) (card_of (get_or (last_of (suc k) (there t (source w i))) 0 0))))

-- ---- it can be said

card_moved : (w : Way) (i j n : ℕ) (c : Card) → card (move_from w i j n c) ≡ c
card_moved ColumnToColumn i j n c = refl
card_moved ColumnToHome i j n c = refl
card_moved ColumnToCell i j n c = refl
card_moved CellToColumn i j n c = refl
card_moved CellToHome i j n c = refl
card_moved HomeToColumn i j n c = refl

-- as many cards as are tried
count_moved : (w : Way) (i j k : ℕ) (c : Card) → k < length_count w → count (move_from w i j (suc k) c) ≡ suc k
count_moved ColumnToColumn i j k c h = refl
count_moved ColumnToHome i j k c h = omega arith
count_moved ColumnToCell i j k c h = omega arith
count_moved CellToColumn i j k c h = omega arith
count_moved CellToHome i j k c h = omega arith
count_moved HomeToColumn i j k c h = omega arith

most_tried_lem : (w : Way) → length_count w ≤ 13
most_tried_lem ColumnToColumn = omega arith
most_tried_lem ColumnToHome = omega arith
most_tried_lem ColumnToCell = omega arith
most_tried_lem CellToColumn = omega arith
most_tried_lem CellToHome = omega arith
most_tried_lem HomeToColumn = omega arith

-- the card there is one, if there are so many
offered_said : (t : Table) (w : Way) (i j k : ℕ) → Fair t → i < source_count w → j < target_count w → k < length_count w
    → allowed t (offered t w i j (suc k)) ≡ true → sayable (offered t w i j (suc k)) ≡ true
unfolding offered
offered_said t w i j k f a b h e =
    let l = there t (source w i) in
    let x = get_or (last_of (suc k) l) 0 0 in
    let m = move_from w i j (suc k) (card_of x) in
    let many = (allowed_is t m e).enough in
    let n = count_moved w i j k (card_of x) h in
    let q = ap (λ (p : Place). length (there t p)) (comes_from w i j (suc k) (card_of x) a) in
    let most = most_tried_lem w in
    let cards = fair_cards t (source w i) f (source-there w i a) in
    said_way w i j (suc k) (card_of x) a b (omega arith) (omega arith)
    (value_of_card x
    (subst (λ (y : ℕ). is_card y ≡ true) (sym (last_first (suc k) l)) (all_at is_card l cards (length l - suc k) (omega arith))))

one_said : (t : Table) (m x : Move) → (allowed t x ≡ true → sayable x ≡ true) → is_in m (if_allowed t x) → sayable m ≡ true
unfolding if_allowed
one_said t m x s i = by_test (allowed t x) refl i
  where
    by_test : (a : Bool) → allowed t x ≡ a → is_in m (cond a (x ∷ []) []) → sayable m ≡ true
    by_test true e (inl q) = ap sayable q ∙ s e
    by_test true e (inr z) = absurd z
    by_test false e z = absurd z

pub found_said : (t : Table) (w : Way) (m : Move) → Fair t → is_in m (found t w) → sayable m ≡ true
found_said t w m f = found_by_lem t w m (λ i j k a b c. one_said t m (offered t w i j (suc k)) (offered_said t w i j k f a b c))

-- ---- an allowed move is found

-- the place of a move among those of its kind
abbrev source_of : Move → ℕ
source_of (TableauToTableau s d n c) = s
source_of (TableauToFoundation s c) = s
source_of (TableauToFreeCell s i c) = s
source_of (FreeCellToTableau i d c) = i
source_of (FreeCellToFoundation i c) = i
source_of (FoundationToTableau s d c) = suit_number s

abbrev target_of : Move → ℕ
target_of (TableauToTableau s d n c) = d
target_of (TableauToFoundation s c) = 0
target_of (TableauToFreeCell s i c) = i
target_of (FreeCellToTableau i d c) = d
target_of (FreeCellToFoundation i c) = 0
target_of (FoundationToTableau s d c) = d

record Placed (m : Move) : Type 0 where
  from_where : source_of m < source_count (way_of m)
  to_where : target_of m < target_count (way_of m)
  comes : source (way_of m) (source_of m) ≡ from m
  named : move_from (way_of m) (source_of m) (target_of m) (count m) (card m) ≡ m

placed : (m : Move) → sayable m ≡ true → Placed m
placed (TableauToTableau s d n c) e =
    record { from_where = ltb-true s 8 (said_from _ e); to_where = ltb-true d 8 (said_to _ e); comes = refl; named = refl }
placed (TableauToFoundation s c) e =
    record { from_where = ltb-true s 8 (said_from _ e); to_where = omega arith; comes = refl; named = refl }
placed (TableauToFreeCell s i c) e =
    record { from_where = ltb-true s 8 (said_from _ e); to_where = ltb-true i 4 (said_to _ e); comes = refl; named = refl }
placed (FreeCellToTableau i d c) e =
    record { from_where = ltb-true i 4 (said_from _ e); to_where = ltb-true d 8 (said_to _ e); comes = refl; named = refl }
placed (FreeCellToFoundation i c) e =
    record { from_where = ltb-true i 4 (said_from _ e); to_where = omega arith; comes = refl; named = refl }
placed (FoundationToTableau s d c) e =
    record {
      from_where = suit_below s;
      to_where = ltb-true d 8 (said_to _ e);
      comes = refl;
      named = ap (λ (k : Suit). FoundationToTableau k d c) (suit_at_number s);
    }

-- no more cards than are tried: a run of cards has at most 13
few : (t : Table) (m : Move) → Fair t → sayable m ≡ true → allowed t m ≡ true → count m ≤ length_count (way_of m)
few t (TableauToTableau s d n c) f e a =
    let cards = fair_cards t (column s) f (said_from (TableauToTableau s d n c) e) in
    let b = run_bounds t s d n c (said_count (TableauToTableau s d n c) e) a in
    let most = run_13 (there t (column s)) cards in
    let r = b.run in
    omega arith
few t (TableauToFoundation s c) f e a = omega arith
few t (TableauToFreeCell s i c) f e a = omega arith
few t (FreeCellToTableau i d c) f e a = omega arith
few t (FreeCellToFoundation i c) f e a = omega arith
few t (FoundationToTableau s d c) f e a = omega arith

-- the move offered there, of so many cards, is the allowed one: it names the card that lies there
offered_is : (t : Table) (m : Move) (n : ℕ) → n ≡ count m → sayable m ≡ true → allowed t m ≡ true
    → offered t (way_of m) (source_of m) (target_of m) n ≡ m
unfolding offered hand
offered_is t m n q e a =
    let p = placed m e in
    ap (λ (k : ℕ). offered t (way_of m) (source_of m) (target_of m) k) q
    ∙ ap (λ (c : Card). move_from (way_of m) (source_of m) (target_of m) (count m) c)
    (ap (λ (k : Place). card_of (get_or (last_of (count m) (there t k)) 0 0)) p.comes ∙ ap card_of (allowed_is t m a).named ∙ card_code (card m))
    ∙ p.named

-- `Fair` tells that only cards lie in the columns: other codes could make a run of 14
pub allowed-found : (t : Table) (m : Move) → Fair t → sayable m ≡ true → allowed t m ≡ true → is_in m (found t (way_of m))
unfolding found found_from found_between
allowed-found t m f e a =
    let p = placed m e in
    let w = way_of m in
    let i = source_of m in
    let j = target_of m in
    let k = count m - 1 in
    let one = said_count m e in
    let most = few t m f e a in
    gather_in m (found_from t w) (source_count w) i p.from_where
    (gather_in m (found_between t w i) (target_count w) j p.to_where
    (gather_in m (λ k. if_allowed t (offered t w i j (suc k))) (length_count w) k (omega arith)
    (subst (is_in m) (sym (ap (if_allowed t) (offered_is t m (suc k) (omega arith) e a) ∙ if_allowed_lem t m true a)) (inl refl))))
