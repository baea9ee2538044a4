-- A move keeps the cards: putting other cards at a place changes the table by just those cards.
use mathlib.Core.Path.{◌≡◌, sym, ap, ◌∙◌}
use mathlib.Core.Bool.{true}
use mathlib.Core.List.{List, [], ◌∷◌, ◌++◌}
use Prim.Native.Nat.{ℕ, zero, suc, ◌+◌, ◌-◌, ◌<◌}
use native.Mathlib.Nat.{not-suc-le-zero, le_of_suc-le-suc}
use native.Mathlib.Omega.{arith}
use borrow.Author.Tests.{ltb-true}
use lib.ListN.{length, get_or, set, length-set, take-append-drop}
use lib.Seq.{get_or-set_same, get_or-set_other}
use Rattle.base.specs.Words.{occurs, concat}
use Rattle.base.proofs.Words.{occurs-append, occurs-concat}
use Rattle.base.proofs.Sums.{sum_changed}
use Rattle.board.specs.Table.{Table, pile, piles, held, cards_on}
use Rattle.board.specs.Fair.{Seats}
use Rattle.board.proofs.Tables.{held-append}
use Rattle.moves.specs.Move.{from, to, count, is_place}
use Rattle.moves.specs.declared.Place.{Place}
use Rattle.moves.specs.declared.Place.TheVariants.{Column as column, Cell as cell, Home as home}
use Rattle.moves.specs.Play.{there, cell_code, put, last_of, others_of, hand, without, after_move}
use Rattle.moves.specs.declared.Move.{Move}

-- ---- one element of a list changed

module _ (x : ℕ) where
  set-concat : (ls : List (List ℕ)) (i : ℕ) (l : List ℕ) → i < length ls
      → occurs x (concat (set ls i l)) + occurs x (get_or ls i []) ≡ occurs x (concat ls) + occurs x l
  unfolding concat
  set-concat [] i l h = absurd (not-suc-le-zero h)
  set-concat (c ∷ ls) zero l h = simp occurs-append (omega arith)
  set-concat (c ∷ ls) (suc i) l h = let e = set-concat ls i l (le_of_suc-le-suc h) in simp occurs-append (omega arith)

  set-held : (cells : List ℕ) (i v : ℕ) → i < length cells
      → occurs x (held (set cells i v)) + occurs x (held (get_or cells i 0 ∷ [])) ≡ occurs x (held cells) + occurs x (held (v ∷ []))
  set-held [] i v h = absurd (not-suc-le-zero h)
  set-held (c ∷ cells) zero v h =
      let a = ap (occurs x) (held-append (v ∷ []) cells) ∙ occurs-append x (held (v ∷ [])) (held cells) in
      let b = ap (occurs x) (held-append (c ∷ []) cells) ∙ occurs-append x (held (c ∷ [])) (held cells) in
      omega arith
  set-held (c ∷ cells) (suc i) v h =
      let e = set-held cells i v (le_of_suc-le-suc h) in
      let a = ap (occurs x) (held-append (c ∷ []) (set cells i v)) ∙ occurs-append x (held (c ∷ [])) (held (set cells i v)) in
      let b = ap (occurs x) (held-append (c ∷ []) cells) ∙ occurs-append x (held (c ∷ [])) (held cells) in
      omega arith

module _ (x : ℕ) where
  set-piles : (foundation : List ℕ) (s n : ℕ) → length foundation ≡ 4 → s < 4
      → occurs x (piles (set foundation s n)) + occurs x (pile s (get_or foundation s 0)) ≡ occurs x (piles foundation) + occurs x (pile s n)
  unfolding piles
  set-piles foundation s n four h =
      let f : ℕ → ℕ = λ k. occurs x (pile k (get_or (set foundation s n) k 0)) in
      let g : ℕ → ℕ = λ k. occurs x (pile k (get_or foundation k 0)) in
      let a = occurs-concat x (λ k. pile k (get_or (set foundation s n) k 0)) 4 in
      let b = occurs-concat x (λ k. pile k (get_or foundation k 0)) 4 in
      let same = ap (λ (m : ℕ). occurs x (pile s m)) (get_or-set_same foundation s n 0 (omega arith)) in
      let c = sum_changed f g 4 s h (λ k l d. ap (λ (m : ℕ). occurs x (pile k m)) (get_or-set_other foundation s k n 0 d)) in
      omega arith

-- ---- a table of four cells, four piles and eight columns

pub seats_put : (t : Table) (p : Place) (l : List ℕ) → Seats t → Seats (put t p l)
seats_put t (column i) l s = record { four = s.four; piles4 = s.piles4; eight = length-set t.columns i l ∙ s.eight }
seats_put t (cell i) l s = record { four = length-set t.cells i (cell_code l) ∙ s.four; piles4 = s.piles4; eight = s.eight }
seats_put t (home s) l e = record { four = e.four; piles4 = length-set t.foundation s (length l) ∙ e.piles4; eight = e.eight }

-- cards that a place can hold: any in a column, none or one in a cell, a suit from its ace upward in its foundation
abbrev pub Holds : Place → List ℕ → Type 0
Holds (column i) l = Unit {0}
Holds (cell i) l = held (cell_code l ∷ []) ≡ l
Holds (home s) l = pile s (length l) ≡ l

-- other cards at one place: the table gains them and loses those that were there
pub put_keeps : (x : ℕ) (t : Table) (p : Place) (l : List ℕ) → Seats t → is_place p ≡ true → Holds p l
    → occurs x (cards_on (put t p l)) + occurs x (there t p) ≡ occurs x (cards_on t) + occurs x l
unfolding cards_on
put_keeps x t (column i) l s e h =
    let c = set-concat x t.columns i l (let b = ltb-true i 8 e in let n = s.eight in omega arith) in
    simp occurs-append (omega arith)
put_keeps x t (cell i) l s e h =
    let c = set-held x t.cells i (cell_code l) (let b = ltb-true i 4 e in let n = s.four in omega arith) in
    let q = ap (occurs x) h in
    simp occurs-append (omega arith)
put_keeps x t (home i) l s e h =
    let c = set-piles x t.foundation i (length l) s.piles4 (ltb-true i 4 e) in
    let q = ap (occurs x) h in
    simp occurs-append (omega arith)

pub others_and_last : (n : ℕ) (l : List ℕ) → others_of n l ++ last_of n l ≡ l
unfolding others_of last_of
others_and_last n l = take-append-drop (length l - n) l

-- taken up and put down again, every card is still there, once for each time that it was
pub move_keeps : (x : ℕ) (t : Table) (m : Move) → Seats t → is_place (from m) ≡ true → is_place (to m) ≡ true
    → Holds (from m) (others_of (count m) (there t (from m))) → Holds (to m) (there (without t m) (to m) ++ hand t m)
    → occurs x (cards_on (after_move t m)) ≡ occurs x (cards_on t)
unfolding after_move without hand
move_keeps x t m s f g h k =
    let a = put_keeps x t (from m) (others_of (count m) (there t (from m))) s f h in
    let b = put_keeps x (without t m) (to m) (there (without t m) (to m) ++ hand t m) (seats_put t (from m) (others_of (count m) (there t (from m))) s) g k in
    let c = occurs-append x (there (without t m) (to m)) (hand t m) in
    let d = sym (occurs-append x (others_of (count m) (there t (from m))) (last_of (count m) (there t (from m)))) ∙ ap (occurs x) (others_and_last (count m) (there t (from m))) in
    omega arith
