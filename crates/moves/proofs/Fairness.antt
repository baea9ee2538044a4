-- An allowed move on a well-formed table leaves a well-formed table.
use mathlib.Core.Path.{◌≡◌, refl, sym, ap, ◌∙◌}
use mathlib.Core.Bool.{Bool, true, ◌&&◌, ◌||◌, or-true}
use mathlib.Core.List.{List, [], ◌∷◌, ◌++◌}
use Prim.Native.Nat.{ℕ, zero, suc, ◌+◌, ◌-◌, ◌*◌, ◌<◌, ◌≤◌}
use native.Mathlib.Omega.{arith}
use native.Mathlib.Decide.{ℕ_discrete}
use borrow.Author.Tests.{ltb-true}
use lib.Dec.{eqb, leb}
use lib.ListN.{length, get_or, take, drop, set, length-take, length-append, take-append-drop, length-set}
use lib.Seq.{get_or-set_same, get_or-set_other}
use Rattle.base.specs.Words.{all, listed, concat}
use Rattle.card.specs.Suit.{suit_number}
use Rattle.card.specs.Card.{is_card, is_value, code_of}
use Rattle.card.specs.Pack.{card_at}
use Rattle.card.specs.declared.Card.{Card}
use Rattle.base.proofs.Words.{first, second, both, all_append, all_at, length-listed}
use Rattle.card.proofs.Codes.{value_is, suit_below}
use Rattle.board.specs.Table.{Table, pile}
use Rattle.board.specs.Verdict.{is_cell, only_cards}
use Rattle.board.specs.Inner.{GoodPiles}
use Rattle.board.proofs.Fitting.{pile-cards, held-cards}
use Rattle.board.specs.Fair.{Seats, Fair}
use Rattle.board.proofs.Fair.{fair_piles}
use Rattle.rules.specs.Fit.{home_takes}
use Rattle.moves.specs.Move.{from, to, count, card, is_place, sayable}
use Rattle.moves.specs.declared.Place.{Place}
use Rattle.moves.specs.declared.Place.TheVariants.{Column as column, Cell as cell, Home as home}
use Rattle.moves.specs.Play.{there, cell_code, put, last_of, others_of, hand, without, after_move, allowed}
use Rattle.moves.specs.declared.Move.{Move}
use Rattle.moves.specs.declared.Move.TheVariants.{TableauToTableau, TableauToFoundation, TableauToFreeCell, FreeCellToTableau, FreeCellToFoundation, FoundationToTableau}
use Rattle.moves.proofs.Keeping.{seats_put}
use Rattle.moves.proofs.Allowing.{Allowed, allowed_is, allowed-keeps, one_card, code_high, next_code}

-- ---- tests over lists of which one element changes

module _ (p : ℕ → Bool) where
  all_set : (s : List ℕ) (i v : ℕ) → all p s ≡ true → p v ≡ true → all p (set s i v) ≡ true
  unfolding all
  all_set [] i v a e = refl
  all_set (x ∷ s) zero v a e = both e (second (p x) (all p s) a)
  all_set (x ∷ s) (suc i) v a e = both (first (p x) (all p s) a) (all_set s i v (second (p x) (all p s) a) e)

  all-set-concat : (ls : List (List ℕ)) (i : ℕ) (l : List ℕ) → all p (concat ls) ≡ true → all p l ≡ true → all p (concat (set ls i l)) ≡ true
  unfolding concat
  all-set-concat [] i l a e = a
  all-set-concat (c ∷ ls) zero l a e =
      all_append p l (concat ls) ∙ both e (second (all p c) (all p (concat ls)) (sym (all_append p c (concat ls)) ∙ a))
  all-set-concat (c ∷ ls) (suc i) l a e =
      let b = sym (all_append p c (concat ls)) ∙ a in
      all_append p c (concat (set ls i l))
      ∙ both (first (all p c) (all p (concat ls)) b) (all-set-concat ls i l (second (all p c) (all p (concat ls)) b) e)

  all_one : (ls : List (List ℕ)) (i : ℕ) → all p (concat ls) ≡ true → all p (get_or ls i []) ≡ true
  unfolding concat all
  all_one [] i a = refl
  all_one (c ∷ ls) zero a = first (all p c) (all p (concat ls)) (sym (all_append p c (concat ls)) ∙ a)
  all_one (c ∷ ls) (suc i) a = all_one ls i (second (all p c) (all p (concat ls)) (sym (all_append p c (concat ls)) ∙ a))

  all-parts : (n : ℕ) (l : List ℕ) → all p l ≡ true → (all p (take n l) && all p (drop n l)) ≡ true
  all-parts n l a = sym (all_append p (take n l) (drop n l)) ∙ ap (all p) (take-append-drop n l) ∙ a

-- ---- nothing but cards

cell_code_lem : (l : List ℕ) → all is_card l ≡ true → is_cell (cell_code l) ≡ true
unfolding is_cell all
cell_code_lem [] e = refl
cell_code_lem (x ∷ l) e = ap (λ (b : Bool). eqb x 255 || b) (first (is_card x) (all is_card l) e) ∙ or-true (eqb x 255)

put_only : (t : Table) (p : Place) (l : List ℕ) → only_cards t ≡ true → all is_card l ≡ true → only_cards (put t p l) ≡ true
unfolding only_cards
put_only t (column i) l o e =
    both (first (all is_cell t.cells) _ o) (all-set-concat is_card t.columns i l (second (all is_cell t.cells) _ o) e)
put_only t (cell i) l o e = both (all_set is_cell t.cells i (cell_code l) (first (all is_cell t.cells) _ o) (cell_code_lem l e)) (second (all is_cell t.cells) _ o)
put_only t (home s) l o e = o

there-cards : (t : Table) (p : Place) → Seats t → GoodPiles t.foundation → only_cards t ≡ true → is_place p ≡ true → all is_card (there t p) ≡ true
unfolding only_cards all
there-cards t (column i) s g o e = all_one is_card t.columns i (second (all is_cell t.cells) _ o)
there-cards t (cell i) s g o e =
    held-cards (get_or t.cells i 0 ∷ [])
    (both (all_at is_cell t.cells (first (all is_cell t.cells) _ o) i (let h = ltb-true i 4 e in let n = s.four in omega arith)) refl)
there-cards t (home k) s g o e = pile-cards k (get_or t.foundation k 0) (ltb-true k 4 e) (g.within k (ltb-true k 4 e))

-- ---- piles of at most 13

-- a foundation of at most 13 cards
abbrev Short : Place → List ℕ → Type 0
Short (column i) l = Unit {0}
Short (cell i) l = Unit {0}
Short (home s) l = length l ≤ 13

put-piles : (t : Table) (p : Place) (l : List ℕ) → GoodPiles t.foundation → Short p l → GoodPiles (put t p l).foundation
put-piles t (column i) l g h = g
put-piles t (cell i) l g h = g
put-piles t (home s) l g h =
    record {
      four = length-set t.foundation s (length l) ∙ g.four;
      within = λ k b. by_side k b (ℕ_discrete k s);
    }
  where
    by_side : (k : ℕ) → k < 4 → Dec (k ≡ s) → get_or (set t.foundation s (length l)) k 0 ≤ 13
    by_side k b (yes q) =
        let e = get_or-set_same t.foundation s (length l) 0 (let n = g.four in omega arith) in
        omega (arith, ap (λ (j : ℕ). get_or (set t.foundation s (length l)) j 0) q)
    by_side k b (no d) = let e = get_or-set_other t.foundation s k (length l) 0 d in omega (arith, g.within k b)

module _ (t : Table) (g : GoodPiles t.foundation) where
  short_left : (m : Move) → is_place (from m) ≡ true → Short (from m) (others_of (count m) (there t (from m)))
  unfolding others_of pile
  short_left (TableauToTableau s d n c) e = tt
  short_left (TableauToFoundation s c) e = tt
  short_left (TableauToFreeCell s i c) e = tt
  short_left (FreeCellToTableau i d c) e = tt
  short_left (FreeCellToFoundation i c) e = tt
  short_left (FoundationToTableau s d c) e =
      let k = suit_number s in
      let n = get_or t.foundation k 0 in
      let l = length-listed (λ v. (v + 1) * 16 + k) n in
      let w = g.within k (ltb-true k 4 e) in
      let h = length-take (length (listed n (λ v. (v + 1) * 16 + k)) - 1) (listed n (λ v. (v + 1) * 16 + k)) in
      omega arith

  home_short : (c : Card) → is_value c.value ≡ true → home_takes t.foundation (code_of c) ≡ true
      → length (pile (suit_number c.suit) (get_or t.foundation (suit_number c.suit) 0) ++ (code_of c ∷ [])) ≤ 13
  unfolding pile
  home_short c v e =
      let k = suit_number c.suit in
      let n = get_or t.foundation k 0 in
      let a = length-append (listed n (λ v. (v + 1) * 16 + k)) (code_of c ∷ []) in
      let l = length-listed (λ v. (v + 1) * 16 + k) n in
      let x = next_code c v t.foundation e in
      let y = code_high c v in
      let z = value_is c.value v in
      let w = z.high in
      let b = suit_below c.suit in
      omega arith

  short_come : (m : Move) → is_value (card m).value ≡ true → Allowed t m → Short (to m) (there (without t m) (to m) ++ hand t m)
  unfolding without
  short_come (TableauToTableau s d n c) v a = tt
  short_come (TableauToFoundation s c) v a = rw (one_card t (TableauToFoundation s c) a refl) (home_short c v a.next)
  short_come (TableauToFreeCell s i c) v a = tt
  short_come (FreeCellToTableau i d c) v a = tt
  short_come (FreeCellToFoundation i c) v a = rw (one_card t (FreeCellToFoundation i c) a refl) (home_short c v a.next)
  short_come (FoundationToTableau s d c) v a = tt

-- ---- an allowed move leaves a well-formed table

-- only cards lie at its places
pub fair_cards : (t : Table) (p : Place) → Fair t → is_place p ≡ true → all is_card (there t p) ≡ true
fair_cards t p f e = there-cards t p f.seats (fair_piles f) f.cards e

pub fair_after : (t : Table) (m : Move) → Fair t → sayable m ≡ true → allowed t m ≡ true → Fair (after_move t m)
unfolding sayable after_move without hand last_of others_of
fair_after t m f e w =
    let rest = second (is_place (from m)) _ e in
    let v = second (leb 1 (count m) && leb (count m) 255) (is_value (card m).value) (second (is_place (to m)) _ rest) in
    let a = allowed_is t m w in
    let o = f.cards in
    let p = fair_piles f in
    let source = there-cards t (from m) f.seats p o (first (is_place (from m)) _ e) in
    let parts = all-parts is_card (length (there t (from m)) - count m) (there t (from m)) source in
    let u = without t m in
    let u_seats = seats_put t (from m) (others_of (count m) (there t (from m))) f.seats in
    let u_piles = put-piles t (from m) (others_of (count m) (there t (from m))) p (short_left t p m (first (is_place (from m)) _ e)) in
    let u_only = put_only t (from m) (others_of (count m) (there t (from m))) o (first (all is_card (take (length (there t (from m)) - count m) (there t (from m)))) _ parts) in
    let target = there-cards u (to m) u_seats u_piles u_only (first (is_place (to m)) _ rest) in
    let both-cards = all_append is_card (there u (to m)) (hand t m) ∙ both target (second (all is_card (take (length (there t (from m)) - count m) (there t (from m)))) _ parts) in
    record {
      seats = seats_put u (to m) _ u_seats;
      kings = (put-piles u (to m) _ u_piles (short_come t p m v a)).within;
      cards = put_only u (to m) _ u_only both-cards;
      once = λ k h. allowed-keeps t m f.seats e w (card_at k) ∙ f.once k h;
    }
