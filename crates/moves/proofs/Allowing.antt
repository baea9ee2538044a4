-- An allowed move keeps all 52 cards and so a well-formed table.
use mathlib.Core.Path.{◌≡◌, refl, sym, ap, ◌∙◌, subst}
use mathlib.Core.Bool.{true, ◌&&◌}
use mathlib.Core.List.{List, [], ◌∷◌, ◌++◌}
use Prim.Native.Nat.{ℕ, ◌+◌, ◌-◌, ◌*◌, ◌/◌, ◌%◌, ◌≤◌}
use native.Mathlib.Omega.{arith}
use native.Mathlib.Decide.{ℕ_discrete}
use borrow.Author.Tests.{eqb-true, leb-true}
use lib.Dec.{eqb, leb}
use lib.ListN.{length, get_or, take, length-take, length-drop}
use lib.Seq.{ext_get_or, get_or-take, get_or-drop}
use Rattle.base.specs.Words.{occurs, listed}
use Rattle.card.specs.Suit.{suit_number}
use Rattle.card.specs.Card.{is_card, is_value, code_of}
use Rattle.card.specs.declared.Card.{Card}
use Rattle.base.proofs.Words.{first, second, listed_more, length-listed, get_or-listed}
use Rattle.card.proofs.Codes.{code_is_card, suit_below, card_is}
use Rattle.board.specs.Table.{Table, pile, held, cards_on}
use Rattle.board.proofs.Tables.{cell_empty, cell_card}
use Rattle.board.specs.Fair.{Seats}
use Rattle.rules.specs.Fit.{home_takes}
use Rattle.runs.specs.Run.{is_run}
use Rattle.moves.specs.Move.{from, to, count, card, is_place, sayable}
use Rattle.moves.specs.declared.Place.TheVariants.{Cell as cell, Home as home}
use Rattle.moves.specs.Play.{there, cell_code, last_of, others_of, hand, without, after_move, elsewhere, within_limit, fits_column, cell_free, next_home, takes, allowed}
use Rattle.moves.specs.declared.Move.{Move}
use Rattle.moves.specs.declared.Move.TheVariants.{TableauToTableau, TableauToFoundation, TableauToFreeCell, FreeCellToTableau, FreeCellToFoundation, FoundationToTableau}
use Rattle.moves.proofs.Keeping.{Holds, move_keeps}

-- ---- the tests one by one

pub record Allowed (t : Table) (m : Move) : Type 0 where
  pub away : elsewhere (from m) (to m) ≡ true
  pub some : 1 ≤ length (there t (from m))
  pub enough : count m ≤ length (there t (from m))
  pub named : get_or (hand t m) 0 0 ≡ code_of (card m)
  pub limit : within_limit t (from m) (to m) (count m) ≡ true
  pub run : is_run (hand t m) ≡ true
  pub fit : fits_column t (to m) (code_of (card m)) ≡ true
  pub free : cell_free t (to m) ≡ true
  pub next : next_home t (to m) (code_of (card m)) ≡ true

pub allowed_is : (t : Table) (m : Move) → allowed t m ≡ true → Allowed t m
unfolding allowed takes
allowed_is t m e0 =
    let e1 = second (elsewhere (from m) (to m)) _ e0 in
    let e2 = second (leb 1 (length (there t (from m)))) _ e1 in
    let e3 = second (leb (count m) (length (there t (from m)))) _ e2 in
    let e4 = second (eqb (get_or (hand t m) 0 0) (code_of (card m))) _ e3 in
    let e5 = second (within_limit t (from m) (to m) (count m)) _ e4 in
    let e6 = second (is_run (hand t m)) _ e5 in
    let e7 = second (fits_column t (to m) (code_of (card m))) _ e6 in
    record {
      away = first (elsewhere (from m) (to m)) _ e0;
      some = leb-true 1 (length (there t (from m))) (first (leb 1 (length (there t (from m)))) _ e1);
      enough = leb-true (count m) (length (there t (from m))) (first (leb (count m) (length (there t (from m)))) _ e2);
      named = eqb-true (get_or (hand t m) 0 0) (code_of (card m)) (first (eqb (get_or (hand t m) 0 0) (code_of (card m))) _ e3);
      limit = first (within_limit t (from m) (to m) (count m)) _ e4;
      run = first (is_run (hand t m)) _ e5;
      fit = first (fits_column t (to m) (code_of (card m))) _ e6;
      free = first (cell_free t (to m)) (next_home t (to m) (code_of (card m))) e7;
      next = second (cell_free t (to m)) (next_home t (to m) (code_of (card m))) e7;
    }

-- ---- what is left at a place, and what comes to it

pub last_length : (n : ℕ) (l : List ℕ) → n ≤ length l → length (last_of n l) ≡ n
unfolding last_of
last_length n l h = length-drop (length l - n) l ∙ (let q : length l - (length l - n) ≡ n = omega arith in q)

pub last_first : (n : ℕ) (l : List ℕ) → get_or (last_of n l) 0 0 ≡ get_or l (length l - n) 0
unfolding last_of
last_first n l = get_or-drop (length l - n) l 0 0 ∙ ap (λ (k : ℕ). get_or l k 0) (let q : length l - n + 0 ≡ length l - n = omega arith in q)

single : (l : List ℕ) → length l ≡ 1 → l ≡ get_or l 0 0 ∷ []
single [] e = absurd (let z : ⊥ = omega arith in z)
single (x ∷ []) e = refl
single (x ∷ y ∷ l) e = absurd (let z : ⊥ = omega arith in z)

-- a move of one card has the named card in its hand
pub one_card : (t : Table) (m : Move) → Allowed t m → count m ≡ 1 → hand t m ≡ code_of (card m) ∷ []
unfolding hand
one_card t m a e =
    single (last_of (count m) (there t (from m))) (last_length (count m) (there t (from m)) a.enough ∙ e)
    ∙ ap (λ (x : ℕ). x ∷ []) a.named

none_left : held (cell_code (others_of 1 []) ∷ []) ≡ others_of 1 []
unfolding others_of held
none_left = refl

one_left : (c : ℕ) → held (cell_code (others_of 1 (c ∷ [])) ∷ []) ≡ others_of 1 (c ∷ [])
unfolding others_of held
one_left c = refl

no_255 : (x : ℕ) → is_card x ≡ true → x ≡ 255 → ⊥
no_255 x isc q = let b = card_is x isc in let h = b.high in omega arith

take-listed : (k n : ℕ) (g : ℕ → ℕ) → k ≤ n → take k (listed n g) ≡ listed k g
take-listed k n g h =
    let l = length-listed g n in
    let t = length-take k (listed n g) in
    let m = length-listed g k in
    ext_get_or 0 (take k (listed n g)) (listed k g) (omega arith)
    (λ i b. get_or-take k (listed n g) i 0 (omega arith) ∙ get_or-listed g n i 0 (omega arith) ∙ sym (get_or-listed g k i 0 (omega arith)))

-- a cell is left empty
cell_left_lem : (i c : ℕ) → Holds (cell i) (others_of 1 (held (c ∷ [])))
cell_left_lem i c = by_side (ℕ_discrete c 255)
  where
    by_side : Dec (c ≡ 255) → held (cell_code (others_of 1 (held (c ∷ []))) ∷ []) ≡ others_of 1 (held (c ∷ []))
    by_side (yes q) = rw (cell_empty c q) none_left
    by_side (no d) = rw (cell_card c d) (one_left c)

-- a foundation is left with one card less
pile-left : (s n : ℕ) → Holds (home s) (others_of 1 (pile s n))
unfolding others_of pile
pile-left s n =
    let g : ℕ → ℕ = λ v. (v + 1) * 16 + s in
    let l = length-listed g n in
    let e = take-listed (length (listed n g) - 1) n g (omega arith) in
    subst (λ (k : List ℕ). listed (length k) g ≡ k) (sym e) (ap (λ (k : ℕ). listed k g) (length-listed g (length (listed n g) - 1)))

-- an empty cell takes a card
cell_come : (i c x : ℕ) → c ≡ 255 → is_card x ≡ true → Holds (cell i) (held (c ∷ []) ++ (x ∷ []))
cell_come i c x e isc = rw (cell_empty c e) (cell_card x (λ q. no_255 x isc q))

-- a foundation takes the next card of its suit
pile_come : (s n x : ℕ) → x ≡ (n + 1) * 16 + s → Holds (home s) (pile s n ++ (x ∷ []))
unfolding pile
pile_come s n x e =
    let g : ℕ → ℕ = λ v. (v + 1) * 16 + s in
    subst (λ (k : List ℕ). listed (length k) g ≡ k)
    (listed_more g n ∙ ap (λ (y : ℕ). listed n g ++ (y ∷ [])) (sym e)) (ap (λ (k : ℕ). listed k g) (length-listed g (n + 1)))

-- the named card, as a code
module _ (c : Card) (value : is_value c.value ≡ true) where
  pub code_high : code_of c / 16 ≡ c.value
  unfolding code_of
  code_high = let s = suit_below c.suit in omega arith

  code_low : code_of c % 16 ≡ suit_number c.suit
  unfolding code_of
  code_low = let s = suit_below c.suit in omega arith

  pub next_code : (foundation : List ℕ) → home_takes foundation (code_of c) ≡ true → code_of c ≡ (get_or foundation (suit_number c.suit) 0 + 1) * 16 + suit_number c.suit
  unfolding home_takes
  next_code foundation e =
      let h = eqb-true (code_of c / 16) (get_or foundation (code_of c % 16) 0 + 1) e in
      let l = code_low in
      let f = ap (λ (n : ℕ). get_or foundation n 0) code_low in
      omega arith

-- ---- what comes to a place can be held there, for each kind

module _ (t : Table) where
  left_there : (m : Move) → Holds (from m) (others_of (count m) (there t (from m)))
  left_there (TableauToTableau s d n c) = tt
  left_there (TableauToFoundation s c) = tt
  left_there (TableauToFreeCell s i c) = tt
  left_there (FreeCellToTableau i d c) = cell_left_lem i (get_or t.cells i 0)
  left_there (FreeCellToFoundation i c) = cell_left_lem i (get_or t.cells i 0)
  left_there (FoundationToTableau s d c) = pile-left (suit_number s) (get_or t.foundation (suit_number s) 0)

  comes_there : (m : Move) → is_value (card m).value ≡ true → Allowed t m → Holds (to m) (there (without t m) (to m) ++ hand t m)
  unfolding without
  comes_there (TableauToTableau s d n c) v a = tt
  comes_there (TableauToFoundation s c) v a =
      rw (one_card t (TableauToFoundation s c) a refl)
      (pile_come (suit_number c.suit) (get_or t.foundation (suit_number c.suit) 0) (code_of c) (next_code c v t.foundation a.next))
  comes_there (TableauToFreeCell s i c) v a =
      rw (one_card t (TableauToFreeCell s i c) a refl)
      (cell_come i (get_or t.cells i 0) (code_of c) (eqb-true (get_or t.cells i 0) 255 a.free) (code_is_card c v))
  comes_there (FreeCellToTableau i d c) v a = tt
  comes_there (FreeCellToFoundation i c) v a =
      rw (one_card t (FreeCellToFoundation i c) a refl)
      (pile_come (suit_number c.suit) (get_or t.foundation (suit_number c.suit) 0) (code_of c) (next_code c v t.foundation a.next))
  comes_there (FoundationToTableau s d c) v a = tt

-- an allowed move keeps every card
pub allowed-keeps : (t : Table) (m : Move) → Seats t → sayable m ≡ true → allowed t m ≡ true → (x : ℕ) → occurs x (cards_on (after_move t m)) ≡ occurs x (cards_on t)
unfolding sayable
allowed-keeps t m s e a x =
    let rest = second (is_place (from m)) _ e in
    move_keeps x t m s (first (is_place (from m)) _ e) (first (is_place (to m)) _ rest) (left_there t m)
    (comes_there t m (second (leb 1 (count m) && leb (count m) 255) (is_value (card m).value) (second (is_place (to m)) _ rest)) (allowed_is t m a))
