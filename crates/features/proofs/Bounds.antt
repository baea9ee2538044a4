-- The features of a well-formed board are small.
use mathlib.Core.Path.{◌≡◌, refl, sym, ap, ◌∙◌, subst}
use mathlib.Core.Bool.{Bool, true, false, cond}
use mathlib.Core.List.{List, [], ◌∷◌, ◌++◌}
use Prim.Native.Nat.{ℕ, ◌+◌, ◌*◌, ◌<◌, ◌≤◌}
use native.Mathlib.Omega.{arith}
use lib.Dec.{eqb}
use lib.ListN.{length, get_or, length-append}
use Rattle.base.specs.Words.{sum, all, occurs, listed, concat}
use Rattle.card.specs.Card.{is_card}
use Rattle.base.proofs.Words.{first, second, every_at, all_append, all-concat, get_or-listed, occurs-append}
use Rattle.base.proofs.Sums.{sum_same, sum-add, sum-all}
use Rattle.board.specs.Table.{Table, piles, held, cards_on}
use Rattle.board.specs.Verdict.{only_cards, none_twice, verdict_on}
use Rattle.board.specs.Record.{column_at, shown, board_of}
use Rattle.board.specs.Fair.{Fair}
use Rattle.board.specs.Inner.{GoodPiles, Sound}
use Rattle.board.specs.declared.Board.{Board}
use Rattle.board.proofs.Tables.{held-each}
use Rattle.board.proofs.Verdicts.{good_shape}
use Rattle.board.proofs.Soundness.{passed, sound_fine, sound_shape}
use Rattle.board.proofs.Counting.{at_most_52}
use Rattle.board.proofs.Fitting.{cards_on_lem}
use Rattle.board.proofs.Records.{shown_of_record}
use Rattle.board.proofs.Fair.{fair_laid, fair_sound}
use Rattle.questions.specs.Questions.{empty_cells}
use Rattle.questions.proofs.Totals.{home_52}
use Rattle.runs.specs.Run.{run_length}
use Rattle.rules.proofs.Laying.{run_13, empty_at_most}
use Rattle.features.specs.Features.{last_goes_home, immediate_on, blocked_in, blocked_on, imbalance_of, cells_used, longest_run, features_of, Bounded}
use Rattle.features.proofs.Extremes.{greatest_most}
use Rattle.features.proofs.Nexts.{at_most_once, lists_next, four_next}
use Rattle.features.proofs.Blocking.{blocked_concat, blocked_546}

-- ---- foundations and cells

imbalance_most : (foundation : List ℕ) → GoodPiles foundation → imbalance_of foundation ≤ 13
unfolding imbalance_of
imbalance_most foundation g = let m = greatest_most (λ s. get_or foundation s 0) 4 13 g.within in omega arith

one_of_two : (t : Bool) → cond t 0 1 + cond t 1 0 ≡ 1
one_of_two true = refl
one_of_two false = refl

-- a cell is used or empty
pub used_or_empty : (cells : List ℕ) → cells_used cells + empty_cells cells ≡ 4
unfolding cells_used empty_cells
used_or_empty cells =
    sym (sum-add (λ i. cond (eqb (get_or cells i 0) 255) 0 1) (λ i. cond (eqb (get_or cells i 0) 255) 1 0) 4)
    ∙ sum-all (λ i. cond (eqb (get_or cells i 0) 255) 0 1 + cond (eqb (get_or cells i 0) 255) 1 0) 4 (λ k h. one_of_two (eqb (get_or cells k 0) 255))

-- columns and cells, counted from a record
pub immediate_is : (b : Board) {m n : ℕ}
    → m ≡ sum 8 (λ i. cond (last_goes_home b.foundation (column_at b.counts b.tableau i)) 1 0)
    → n ≡ sum 4 (λ i. cond (last_goes_home b.foundation (held (get_or b.cells i 0 ∷ []))) 1 0)
    → m + n ≡ immediate_on (shown b)
unfolding immediate_on shown
immediate_is b {m} {n} p q =
    let e = sum_same (λ i. cond (last_goes_home b.foundation (get_or (listed 8 (column_at b.counts b.tableau)) i [])) 1 0)
    (λ i. cond (last_goes_home b.foundation (column_at b.counts b.tableau i)) 1 0) 8
    (λ i h. ap (λ (l : List ℕ). cond (last_goes_home b.foundation l) 1 0) (get_or-listed (column_at b.counts b.tableau) 8 i [] h)) in
    omega arith

-- ---- what a sound board's cards are

module _ (b : Board) (s : Sound b) where
  abbrev column : ℕ → List ℕ
  column = column_at b.counts b.tableau

  abbrev lying : List ℕ
  lying = concat (listed 8 column)

  codes : (only_cards (shown b) ≡ true) × (none_twice (cards_on (shown b)) ≡ true)
  unfolding verdict_on
  codes =
      let o = passed (only_cards (shown b)) 13 _ (sym (good_shape b (sound_shape s)) ∙ sound_fine s) in
      (o.0, (passed (none_twice (cards_on (shown b))) 14 _ o.1).0)

  cards : all is_card (cards_on (shown b)) ≡ true
  unfolding shown
  cards = cards_on_lem (shown b) s.in_piles codes.0

  -- cells and columns by themselves
  open_cards : all is_card (held b.cells ++ lying) ≡ true
  unfolding cards_on shown
  open_cards = second (all is_card (piles b.foundation)) _ (sym (all_append is_card (piles b.foundation) (held b.cells ++ lying)) ∙ cards)

  cell_cards : all is_card (held b.cells) ≡ true
  cell_cards = first _ (all is_card lying) (sym (all_append is_card (held b.cells) lying) ∙ open_cards)

  lying_cards : all is_card lying ≡ true
  lying_cards = second (all is_card (held b.cells)) _ (sym (all_append is_card (held b.cells) lying) ∙ open_cards)

  open_once : (x : ℕ) → occurs x (held b.cells ++ lying) ≤ 1
  unfolding cards_on shown
  open_once x =
      omega (arith, at_most_once (cards_on (shown b)) cards s.once x, occurs-append x (piles b.foundation) (held b.cells ++ lying))

  lying_long : length lying ≤ 52
  unfolding cards_on shown
  lying_long =
      let m = at_most_52 (cards_on (shown b)) cards codes.1 in
      omega (arith, length-append (piles b.foundation) (held b.cells ++ lying), length-append (held b.cells) lying)

  -- ---- the features of its columns

  shown_at : (i : ℕ) → i < 8 → get_or (listed 8 column) i [] ≡ column i
  shown_at i h = get_or-listed column 8 i [] h

  blocked_most_546 : blocked_on (listed 8 column) ≤ 546
  unfolding blocked_on
  blocked_most_546 =
      let e = sum_same (λ i. blocked_in (get_or (listed 8 column) i [])) (λ i. blocked_in (column i)) 8 (λ i h. ap blocked_in (shown_at i h)) in
      let c = blocked_concat column 8 in
      let m = blocked_546 lying lying_cards (λ x. omega (arith, open_once x, occurs-append x (held b.cells) lying)) lying_long in
      omega arith

  longest_most : longest_run (listed 8 column) ≤ 13
  unfolding longest_run
  longest_most =
      greatest_most (λ i. run_length (get_or (listed 8 column) i [])) 8 13
      (λ i h. subst (λ (l : List ℕ). run_length l ≤ 13) (sym (shown_at i h))
      (run_13 (column i) (every_at (λ k. all is_card (column k)) 8 (sym (all-concat is_card column 8) ∙ lying_cards) i h)))

  -- the cells one by one
  cell : ℕ → List ℕ
  cell k = held (get_or b.cells k 0 ∷ [])

  cells_are : concat (listed 4 cell) ≡ held b.cells
  unfolding cell
  cells_are = ap (λ (n : ℕ). concat (listed n (λ k. held (get_or b.cells k 0 ∷ [])))) (sym s.in_cells.four) ∙ held-each b.cells

  pub immediate_most : immediate_on (shown b) ≤ 4
  unfolding immediate_on shown cell
  immediate_most =
      let f : List ℕ = b.foundation in
      let e = immediate_is b {m = sum 8 (λ i. cond (last_goes_home f (column i)) 1 0)} {n = sum 4 (λ i. cond (last_goes_home f (held (get_or b.cells i 0 ∷ []))) 1 0)} refl refl in
      let c = lists_next f column 8 lying_cards in
      let d = lists_next f cell 4 (ap (all is_card) cells_are ∙ cell_cards) in
      let g = ap (λ (l : List ℕ). sum 4 (λ t. occurs ((get_or f t 0 + 1) * 16 + t) l)) cells_are in
      let h = four_next f (held b.cells) lying open_once in
      omega arith

  pub bounded : Bounded (features_of (shown b))
  unfolding features_of shown
  bounded =
      record {
        home = home_52 b.foundation s.in_piles;
        immediate = immediate_most;
        blocked = blocked_most_546;
        imbalance = imbalance_most b.foundation s.in_piles;
        used = let u = used_or_empty b.cells in omega arith;
        empty = empty_at_most (listed 8 column);
        longest = longest_most;
      }

-- the same of any fair table
pub fair_bounded : (t : Table) → Fair t → Bounded (features_of t)
fair_bounded t f = subst (λ (u : Table). Bounded (features_of u)) (shown_of_record t (fair_laid t f)) (bounded (board_of t) (fair_sound t f))
