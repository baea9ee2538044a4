-- Fair tables: the judgement is fine exactly for them, the records that are accepted are exactly those that show one, and each fits
-- a record.
use mathlib.Core.Path.{◌≡◌, refl, sym, ◌∙◌}
use mathlib.Core.Bool.{true, ◌&&◌}
use mathlib.Core.List.{List}
use Prim.Native.Nat.{ℕ, ◌<◌}
use native.Mathlib.Omega.{arith}
use borrow.Author.Tests.{eq-eqb, eqb-true, le-leb}
use lib.Dec.{eqb}
use lib.ListN.{length, get_or, replicate, get_or-replicate}
use Rattle.base.specs.Words.{all, occurs, listed, concat}
use Rattle.card.specs.Card.{is_card}
use Rattle.card.specs.Pack.{card_at}
use Rattle.base.proofs.Words.{both, first, second, all_by, every_at, every_by, length-listed}
use Rattle.board.specs.Table.{Table, pile, piles, held, cards_on}
use Rattle.board.specs.Verdict.{fine, is_cell, only_cards, none_twice, none_missing, verdict_on}
use Rattle.board.specs.Record.{at_most, column_at, shown, shapely, examined, board_of}
use Rattle.board.specs.Fair.{Seats, Fair, is_fair}
use Rattle.board.specs.Inner.{GoodPiles, Sound, Sized}
use Rattle.board.specs.declared.Board.{Board}
use Rattle.board.proofs.Tables.{at_most_lem}
use Rattle.board.proofs.Marks.{none_twice_lem, none_twice_at, none_missing_lem, none_missing_at}
use Rattle.board.proofs.Verdicts.{good_shape}
use Rattle.board.proofs.Soundness.{passed, sound, sound_shape, sound_fine}
use Rattle.board.proofs.Records.{Laid, sized_of_record, fine_of_record}
use Rattle.board.proofs.Fitting.{fits}

pub fair_piles : {t : Table} → Fair t → GoodPiles t.foundation
fair_piles f = record { four = f.seats.piles4; within = f.kings }

-- ---- the judgement

pub fair_fine : {t : Table} → Fair t → verdict_on t ≡ fine
unfolding verdict_on
fair_fine {t} f =
    rw (
      f.cards,
      none_twice_lem (cards_on t) (λ k h. let o = f.once k h in omega arith),
      none_missing_lem (cards_on t) (λ k h. let o = f.once k h in omega arith),
    )

pub fine_fair : {t : Table} → Seats t → GoodPiles t.foundation → verdict_on t ≡ fine → Fair t
unfolding verdict_on
fine_fair {t} s g e =
    let o = passed (only_cards t) 13 _ e in
    let w = passed (none_twice (cards_on t)) 14 _ o.1 in
    let m = passed (none_missing (cards_on t)) 15 _ w.1 in
    record {
      seats = s;
      kings = g.within;
      cards = o.0;
      once = λ k h. let a = none_twice_at (cards_on t) w.0 k h in let c = none_missing_at (cards_on t) m.0 k h in omega arith;
    }

-- a table with cells and foundations empty is fair if its columns hold each card once
pub bare_fair : (columns : List (List ℕ)) → length columns ≡ 8 → all is_card (concat columns) ≡ true → ((k : ℕ) → k < 52 → occurs (card_at k) (concat columns) ≡ 1)
    → Fair (record { cells = replicate 4 255; foundation = replicate 4 0; columns = columns })
unfolding only_cards cards_on piles pile held listed concat is_cell all
bare_fair columns eight cards once =
    record {
      seats = record { four = refl; piles4 = refl; eight = eight };
      kings = λ s h. let z = get_or-replicate {A = ℕ} 4 s 0 0 h in omega arith;
      cards = cards;
      once = once;
    }

-- ---- the test

pub fair_passes : {t : Table} → Fair t → is_fair t ≡ true
unfolding is_fair
fair_passes {t} f =
    let s = f.seats in
    both
    (both (eq-eqb (length t.cells) 4 s.four) (both (eq-eqb (length t.foundation) 4 s.piles4) (eq-eqb (length t.columns) 8 s.eight)))
    (both
    (all_by (at_most 13) t.foundation (λ i h. le-leb (get_or t.foundation i 0) 13 (f.kings i (let l = s.piles4 in omega arith))))
    (both f.cards
    (every_by (λ k. eqb (occurs (card_at k) (cards_on t)) 1) 52 (λ k h. eq-eqb (occurs (card_at k) (cards_on t)) 1 (f.once k h)))))

pub passes_fair : {t : Table} → is_fair t ≡ true → Fair t
unfolding is_fair
passes_fair {t} e =
    let cells = eqb (length t.cells) 4 in
    let piles4 = eqb (length t.foundation) 4 in
    let counts = all (at_most 13) t.foundation in
    let lengths = first (cells && (piles4 && eqb (length t.columns) 8)) _ e in
    let rest = second (cells && (piles4 && eqb (length t.columns) 8)) _ e in
    let packs = second counts _ rest in
    let four : length t.foundation ≡ 4 = eqb-true (length t.foundation) 4 (first piles4 _ (second cells _ lengths)) in
    record {
      seats = record {
        four = eqb-true (length t.cells) 4 (first cells _ lengths);
        piles4 = four;
        eight = eqb-true (length t.columns) 8 (second piles4 _ (second cells _ lengths));
      };
      kings = λ s h. at_most_lem 13 t.foundation (first counts _ rest) s (omega arith);
      cards = first (only_cards t) _ packs;
      once = λ k h. eqb-true (occurs (card_at k) (cards_on t)) 1
          (every_at (λ j. eqb (occurs (card_at j) (cards_on t)) 1) 52 (second (only_cards t) _ packs) k h);
    }

-- ---- a record and the table that it shows

pub shows_fair : {b : Board} → Sound b → Fair (shown b)
unfolding shown
shows_fair {b} s =
    fine_fair
    (record { four = s.in_cells.four; piles4 = s.in_piles.four; eight = length-listed (column_at b.counts b.tableau) 8 })
    s.in_piles (sym (good_shape b (sound_shape s)) ∙ sound_fine s)

-- a record is accepted exactly if its shape is good and it shows a fair table
pub accepted_fair : (b : Board) → Sized b → examined b ≡ fine → (shapely b ≡ true) × Fair (shown b)
accepted_fair b z e = let s = sound b z e in (sound_shape s, shows_fair s)

pub fair_accepted : (b : Board) → shapely b ≡ true → Fair (shown b) → examined b ≡ fine
fair_accepted b e f = good_shape b e ∙ fair_fine f

-- no column of a fair table is over its room
pub fair_laid : (t : Table) → Fair t → Laid t
fair_laid t f = fits t f.seats.four (fair_piles f) f.seats.eight (fair_fine f)

pub fair_sound : (t : Table) → Fair t → Sound (board_of t)
fair_sound t f = let l = fair_laid t f in sound (board_of t) (sized_of_record t l) (fine_of_record t l (fair_fine f))
