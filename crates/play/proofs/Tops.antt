-- The last card at a place: of a list of cards, and of a column, a cell and a foundation of a record.
use Rattle.std.specs.Prelude.{None, Some, Option}
use mathlib.Core.Path.{◌≡◌, refl, sym, ap, ap₂, ◌∙◌, subst}
use mathlib.Core.Bool.{Bool, true, false, cond}
use mathlib.Core.List.{List, [], ◌∷◌}
use Prim.Native.Nat.{ℕ, suc, ◌+◌, ◌-◌, ◌*◌, ◌/◌, ◌%◌, ◌<◌}
use native.Mathlib.Omega.{arith}
use borrow.Author.Tests.{ltb-true}
use lib.Dec.{eqb}
use lib.ListN.{length, get_or}
use Rattle.base.specs.Words.{all, listed}
use Rattle.base.proofs.Words.{all_at, length-listed, get_or-listed}
use Rattle.card.specs.Suit.{suit_at}
use Rattle.card.specs.Card.{is_card, is_value, card_of, code_of}
use Rattle.card.specs.declared.Card.{Card}
use Rattle.card.specs.declared.Suit.{Suit}
use Rattle.card.proofs.Codes.{code_card, value_of_card}
use Rattle.board.specs.Table.{pile, held}
use Rattle.board.specs.Record.{column_at, shown}
use Rattle.board.specs.Inner.{Sound}
use Rattle.board.specs.declared.Board.{Board}
use Rattle.questions.specs.Questions.{top_of, cell_of}
use Rattle.questions.proofs.Asking.{top_none, top_some, shown_column, shown_cells, shown_foundation}
use Rattle.moves.specs.declared.Place.{Place}
use Rattle.moves.specs.declared.Place.TheVariants.{Column as column, Cell as cell, Home as home}
use Rattle.moves.specs.Move.{is_place}
use Rattle.moves.specs.Play.{there, last_of}
use Rattle.moves.proofs.Allowing.{last_first}

-- ---- of a list of cards

pub top_empty : (l : List ℕ) → top_of l ≡ None → length l ≡ 0
top_empty [] e = refl
top_empty (x ∷ l) e =
    let s = top_some (x ∷ l) (length l) refl in
    let z : ◌≡◌ {A = ℕ} 0 1 = cc in
    absurd (let w : ⊥ = omega arith in w)

pub some_there : (l : List ℕ) (c : Card) → top_of l ≡ Some c → length l ≡ suc (length l - 1)
some_there [] c e =
    let n = top_none [] refl in
    let z : ◌≡◌ {A = ℕ} 0 1 = cc in
    absurd (let w : ⊥ = omega arith in w)
some_there (x ∷ l) c e = omega arith

module _ (l : List ℕ) (c : Card) (top : top_of l ≡ Some c) where
  abbrev last : ℕ
  last = get_or l (length l - 1) 0

  named : card_of last ≡ c
  named = let s = top_some l (length l - 1) (some_there l c top) in cc

  pub top_card : card_of (get_or (last_of 1 l) 0 0) ≡ c
  top_card = ap card_of (last_first 1 l) ∙ named

  module _ (cards : all is_card l ≡ true) where
    last_card : is_card last ≡ true
    last_card = let h = some_there l c top in all_at is_card l cards (length l - 1) (omega arith)

    pub top_value_lem : is_value c.value ≡ true
    top_value_lem = subst (λ (d : Card). is_value d.value ≡ true) named (value_of_card last last_card)

    pub top_code_lem : get_or (last_of 1 l) 0 0 ≡ code_of c
    top_code_lem = last_first 1 l ∙ sym (code_card last last_card) ∙ ap code_of named

-- ---- of a record

module _ (s n : ℕ) where
  pub no_pile_top : n ≡ 0 → None ≡ top_of (pile s n)
  unfolding pile
  no_pile_top e = sym (top_none (listed n (λ v. (v + 1) * 16 + s)) (length-listed (λ v. (v + 1) * 16 + s) n ∙ e))

  pub a_pile_top : s < 4 → (n ≡ 0 → ⊥) → {t : Suit} → t ≡ suit_at s → Some (record { suit = t; value = n }) ≡ top_of (pile s n)
  unfolding pile card_of
  a_pile_top h d e =
      let g : ℕ → ℕ = λ v. (v + 1) * 16 + s in
      sym
      (top_some (listed n g) (n - 1) (let l = length-listed g n in omega arith)
      ∙ ap (λ (x : ℕ). Some (card_of x)) (get_or-listed g n (n - 1) 0 (omega arith))
      ∙ ap₂ (λ (k v : ℕ). Some (record { suit = suit_at k; value = v }))
      (let q : ((n - 1 + 1) * 16 + s) % 16 ≡ s = omega arith in q) (let q : ((n - 1 + 1) * 16 + s) / 16 ≡ n = omega arith in q)
      ∙ ap (λ (k : Suit). Some (record { suit = k; value = n })) (sym e))

pub cell_top : (x : ℕ) → cell_of x ≡ top_of (held (x ∷ []))
unfolding cell_of held top_of
cell_top x = by_test (eqb x 255)
  where
    by_test : (t : Bool) → cond t None (Some (card_of x)) ≡ top_of (cond t [] (x ∷ []))
    by_test true = refl
    by_test false = refl

module _ {b : Board} (sound : Sound b) {r : Option Card} {p : Place} (i : ℕ) where
  pub top_column : p ≡ column i → i < 8 → r ≡ top_of (column_at b.counts b.tableau i) → r ≡ top_of (there (shown b) p)
  top_column q h e = e ∙ ap top_of (shown_column b i h) ∙ ap (λ (k : Place). top_of (there (shown b) k)) (sym q)

  pub top_cell : p ≡ cell i → r ≡ cell_of (get_or b.cells i 0) → r ≡ top_of (there (shown b) p)
  top_cell q e =
      e ∙ cell_top (get_or b.cells i 0) ∙ ap (λ (l : List ℕ). top_of (held (get_or l i 0 ∷ []))) (shown_cells b)
      ∙ ap (λ (k : Place). top_of (there (shown b) k)) (sym q)

  pub top_home : p ≡ home i → r ≡ top_of (pile i (get_or b.foundation i 0)) → r ≡ top_of (there (shown b) p)
  top_home q e =
      e ∙ ap (λ (l : List ℕ). top_of (pile i (get_or l i 0))) (shown_foundation b) ∙ ap (λ (k : Place). top_of (there (shown b) k)) (sym q)

-- ---- a place that there is, by its kind

module _ {p : Place} (there-is : is_place p ≡ true) {i : ℕ} where
  pub in_column : p ≡ column i → i < 8
  in_column e = ltb-true i 8 (subst (λ (k : Place). is_place k ≡ true) e there-is)

  pub in_cell : p ≡ cell i → i < 4
  in_cell e = ltb-true i 4 (subst (λ (k : Place). is_place k ≡ true) e there-is)

  pub in_home : p ≡ home i → i < 4
  in_home e = ltb-true i 4 (subst (λ (k : Place). is_place k ≡ true) e there-is)
