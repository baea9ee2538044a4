-- A fair table fits a record: no column of it can hold more than 52 cards.
use mathlib.Core.Path.{◌≡◌, refl, ◌∙◌}
use mathlib.Core.Bool.{true, cond}
use mathlib.Core.List.{List, [], ◌∷◌, ◌++◌}
use Prim.Native.Nat.{ℕ, zero, suc, ◌+◌, ◌*◌, ◌<◌, ◌≤◌}
use native.Mathlib.Omega.{arith}
use native.Mathlib.Decide.{ℕ_discrete}
use borrow.Author.Tests.{eq-eqb, ne_eqb}
use lib.Dec.{eqb}
use lib.ListN.{length, get_or, length-append}
use Rattle.base.specs.Words.{all, listed, concat}
use Rattle.card.specs.Card.{is_card}
use Rattle.base.proofs.Words.{both, first, second, all_append, all_by, all-concat, every_by, length-listed, get_or-listed}
use Rattle.card.proofs.Codes.{code_in_suit}
use Rattle.board.specs.Table.{Table, pile, piles, held, cards_on}
use Rattle.board.specs.Verdict.{fine, is_cell, only_cards, none_twice, verdict_on}
use Rattle.board.specs.Inner.{GoodPiles}
use Rattle.board.proofs.Tables.{cell_is_card}
use Rattle.board.proofs.Soundness.{passed}
use Rattle.board.proofs.Counting.{at_most_52}
use Rattle.board.proofs.Records.{Laid}

pub pile-cards : (suit n : ℕ) → suit < 4 → n ≤ 13 → all is_card (pile suit n) ≡ true
unfolding pile
pile-cards suit n h b =
    let g : ℕ → ℕ = λ v. (v + 1) * 16 + suit in
    all_by is_card (listed n g)
    (λ k l. let m : k < n = (let e = length-listed g n in omega arith) in
    rw (get_or-listed g n k 0 m) (code_in_suit suit k h (omega arith)))

pub piles-cards : (foundation : List ℕ) → GoodPiles foundation → all is_card (piles foundation) ≡ true
unfolding piles
piles-cards foundation g =
    all-concat is_card (λ s. pile s (get_or foundation s 0)) 4
    ∙ every_by (λ s. all is_card (pile s (get_or foundation s 0))) 4 (λ s h. pile-cards s (get_or foundation s 0) h (g.within s h))

pub held-cards : (cells : List ℕ) → all is_cell cells ≡ true → all is_card (held cells) ≡ true
unfolding held all
held-cards [] e = refl
held-cards (x ∷ cells) e = by_side (ℕ_discrete x 255) (held-cards cells (second (is_cell x) (all is_cell cells) e))
  where
    by_side : Dec (x ≡ 255) → all is_card (held cells) ≡ true → all is_card (cond (eqb x 255) (held cells) (x ∷ held cells)) ≡ true
    by_side (yes q) rest = rw (eq-eqb x 255 q) rest
    by_side (no d) rest = rw (ne_eqb x 255 d) (both (cell_is_card x (first (is_cell x) (all is_cell cells) e) d) rest)

pub cards_on_lem : (t : Table) → GoodPiles t.foundation → only_cards t ≡ true → all is_card (cards_on t) ≡ true
unfolding cards_on only_cards
cards_on_lem t g e =
    all_append is_card (piles t.foundation) (held t.cells ++ concat t.columns)
    ∙ both (piles-cards t.foundation g)
    (all_append is_card (held t.cells) (concat t.columns)
    ∙ both (held-cards t.cells (first (all is_cell t.cells) _ e)) (second (all is_cell t.cells) _ e))

one_of_them : (ls : List (List ℕ)) (i : ℕ) → length (get_or ls i []) ≤ length (concat ls)
unfolding concat
one_of_them [] i = omega arith
one_of_them (l ∷ ls) zero = simp length-append (omega arith)
one_of_them (l ∷ ls) (suc i) = let e = one_of_them ls i in simp length-append (omega arith)

column_among : (t : Table) (i : ℕ) → length (get_or t.columns i []) ≤ length (cards_on t)
unfolding cards_on
column_among t i = let e = one_of_them t.columns i in simp length-append (omega arith)

pub fits : (t : Table) → length t.cells ≡ 4 → GoodPiles t.foundation → length t.columns ≡ 8 → verdict_on t ≡ fine → Laid t
unfolding verdict_on
fits t four g eight e =
    let o = passed (only_cards t) 13 _ e in
    let w = passed (none_twice (cards_on t)) 14 _ o.1 in
    record {
      four = four;
      piles = g;
      eight = eight;
      short = λ i h. let a = at_most_52 (cards_on t) (cards_on_lem t g o.0) w.0 in let c = column_among t i in omega arith;
    }
