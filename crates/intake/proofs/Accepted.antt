-- A board that was read or dealt is a fine one.
use mathlib.Core.Path.{◌≡◌, refl, sym, ap, ◌∙◌, subst}
use mathlib.Core.Bool.{Bool, true, false, cond}
use mathlib.Core.List.{List, [], ◌∷◌}
use Prim.Native.Nat.{ℕ, zero, suc, ◌+◌, ◌*◌, ◌<◌}
use native.Mathlib.Omega.{arith}
use borrow.Author.Tests.{leb-true, eqb-true}
use lib.Dec.{leb, eqb}
use lib.ListN.{length, get_or, take, drop, length-take, length-drop}
use Rattle.base.specs.Words.{all, occurs, listed, concat, sum}
use Rattle.base.specs.Answer.{Answer, given, refused, unless}
use Rattle.card.specs.Card.{is_card}
use Rattle.card.specs.Pack.{card_at}
use Rattle.base.proofs.Words.{all_at, all_by, all-concat, every_by, length-listed, get_or-listed, occurs-listed, occurs-concat}
use Rattle.base.proofs.Sums.{sum_same}
use Rattle.base.proofs.Answers.{given_by}
use Rattle.board.specs.Table.{Table}
use Rattle.board.specs.Verdict.{Verdict, fine, after, none_twice, verdict_on}
use Rattle.board.specs.Record.{at_most, examined, board_of}
use Rattle.board.specs.Fair.{Fair}
use Rattle.board.specs.Inner.{GoodPiles, Sound, Sized}
use Rattle.board.specs.declared.Board.{Board}
use Rattle.board.proofs.Tables.{good_piles}
use Rattle.board.proofs.Soundness.{sound}
use Rattle.board.proofs.Counting.{whole_pack}
use Rattle.board.proofs.Records.{Laid, listed_back, fine_of_record, sized_of_record}
use Rattle.board.proofs.Fitting.{fits}
use Rattle.board.proofs.Fair.{bare_fair, fair_fine, fair_laid}
use Rattle.intake.specs.Image.{joining, columns_in, verdict_with, framed, versioned, bodied, image_read}
use Rattle.intake.specs.Deal.{rows, dealt_column, dealt, deal_asked}
use Rattle.intake.proofs.Dealing.{row_within, board_dealt}

-- ---- an answer that is given passed every test

after_given : {A : Type 0} (v : Verdict) (a : Answer A) {x : A} → after v a ≡ given x → (v ≡ fine) × (a ≡ given x)
after_given (given u) a e = (refl, e)
after_given (refused n) a e = let z : ◌≡◌ {A = ℕ} 0 1 = cc in absurd (let w : ⊥ = omega arith in w)

-- ---- an image

-- n columns, where there are any
abbrev Long : ℕ → Answer (List (List ℕ)) → Type 0
Long n (given cs) = length cs ≡ n
Long n (refused m) = Unit {0}

long_joining : (n : ℕ) (x : List ℕ) (a : Answer (List (List ℕ))) → Long n a → Long (suc n) (joining x a)
unfolding joining
long_joining n x (given cs) e = ap suc e
long_joining n x (refused m) e = tt

long_unless : (n : ℕ) (ok : Bool) (m : ℕ) (a : Answer (List (List ℕ))) → Long n a → Long n (unless ok m a)
long_unless n true m a e = e
long_unless n false m a e = tt

as_many : (n : ℕ) (l : List ℕ) → Long n (columns_in n l)
unfolding columns_in
as_many zero [] = refl
as_many zero (x ∷ l) = tt
as_many (suc n) [] = tt
as_many (suc n) (c ∷ l) =
    long_unless (suc n) (leb c (length l)) 12 (joining (take c l) (columns_in n (drop c l)))
    (long_joining n (take c l) (columns_in n (drop c l)) (as_many n (drop c l)))

-- a fine record, with the lengths that the code's type gives
pub record Fine (b : Board) : Type 0 where
  pub verdict : examined b ≡ fine
  pub sized : Sized b

pub fine_sound : {b : Board} → Fine b → Sound b
fine_sound {b} f = sound b f.sized f.verdict

fine_table : (t : Table) → Laid t → verdict_on t ≡ fine → Fine (board_of t)
fine_table t l e = record { verdict = fine_of_record t l e; sized = sized_of_record t l }

from_columns : (cells foundation : List ℕ) (a : Answer (List (List ℕ))) {b : Board} → length cells ≡ 4 → GoodPiles foundation → Long 8 a
    → verdict_with cells foundation a ≡ given b → Fine b
unfolding verdict_with
from_columns cells foundation (refused n) four g l e = let z : ◌≡◌ {A = ℕ} 0 1 = cc in absurd (let w : ⊥ = omega arith in w)
from_columns cells foundation (given cs) {b} four g l e =
    let t : Table = record { cells = cells; foundation = foundation; columns = cs } in
    let v = after_given (verdict_on t) (given (board_of t)) e in
    let same : board_of t ≡ b = (let q = v.1 in cc) in
    subst Fine same (fine_table t (fits t four g l v.0) v.0)

-- reading an image gives a fine board, if any
pub read_fine : (image : List ℕ) {b : Board} → image_read image ≡ given b → Fine b
unfolding image_read bodied
read_fine image e =
    let body = drop 3 image in
    let f = given_by (framed image) 10 _ e in
    let v = given_by (versioned image) 11 _ f.1 in
    let l = given_by (leb 8 (length body)) 12 _ v.1 in
    let p = given_by (all (at_most 13) (take 4 (drop 4 body))) 12 _ l.1 in
    let eight = leb-true 8 (length body) l.0 in
    from_columns (take 4 body) (take 4 (drop 4 body)) (columns_in 8 (drop 8 body))
    (let n = length-take 4 body in omega arith)
    (good_piles (take 4 (drop 4 body)) (let n = length-take 4 (drop 4 body) in let d = length-drop 4 body in omega arith) p.0)
    (as_many 8 (drop 8 body)) p.1

-- ---- a deal

-- the eight columns of a deck of 52 hold the deck's cards
shuffled : (f : ℕ → ℕ) → sum 8 (λ i. sum (rows i) (λ r. f (r * 8 + i))) ≡ sum 52 f
unfolding sum rows
shuffled f = omega arith

module _ (deck : List ℕ) (full : length deck ≡ 52) where
  abbrev here : ℕ → ℕ → ℕ
  here x k = cond (eqb x (get_or deck k 0)) 1 0

  same_cards : (x : ℕ) → occurs x (concat (listed 8 (dealt_column deck))) ≡ occurs x deck
  unfolding dealt_column
  same_cards x =
      occurs-concat x (dealt_column deck) 8
      ∙ sum_same (λ i. occurs x (dealt_column deck i)) (λ i. sum (rows i) (λ r. here x (r * 8 + i))) 8
      (λ i h. occurs-listed x (rows i) (λ row. get_or deck (row * 8 + i) 0))
      ∙ shuffled (here x)
      ∙ ap (λ (n : ℕ). sum n (here x)) (sym full)
      ∙ sym (occurs-listed x (length deck) (λ k. get_or deck k 0))
      ∙ ap (occurs x) (listed_back deck (length deck) refl)

  module _ (cards : all is_card deck ≡ true) (once : none_twice deck ≡ true) where
    dealt-cards : all is_card (concat (listed 8 (dealt_column deck))) ≡ true
    unfolding dealt_column
    dealt-cards =
        all-concat is_card (dealt_column deck) 8
        ∙ every_by (λ i. all is_card (dealt_column deck i)) 8
        (λ i h. all_by is_card (dealt_column deck i)
        (λ r l. let m : r < rows i = (let n = length-listed (λ row. get_or deck (row * 8 + i) 0) (rows i) in omega arith) in
        rw (get_or-listed (λ row. get_or deck (row * 8 + i) 0) (rows i) r 0 m)
        (all_at is_card deck cards (r * 8 + i) (let w = row_within i r h m in omega arith))))

    -- a dealt table is fair
    pub dealt_fair : Fair (dealt deck)
    unfolding dealt
    dealt_fair =
        bare_fair (listed 8 (dealt_column deck)) (length-listed (dealt_column deck) 8) dealt-cards (λ k h. same_cards (card_at k) ∙ whole_pack deck cards once full k h)

-- dealing gives a fine board, if any, with 7, 7, 7, 7, 6, 6, 6, 6 cards in its columns
pub deal_fine : (deck : List ℕ) {b : Board} → deal_asked deck ≡ given b → Fine b
unfolding deal_asked dealt
deal_fine deck {b} e =
    let n = given_by (eqb (length deck) 52) 16 _ e in
    let c = given_by (all is_card deck) 13 _ n.1 in
    let w = given_by (none_twice deck) 14 _ c.1 in
    let full = eqb-true (length deck) 52 n.0 in
    let f = dealt_fair deck full c.0 w.0 in
    let same : board_of (dealt deck) ≡ b = (let q = w.1 in cc) in
    subst Fine same
    (fine_table (dealt deck) (fair_laid (dealt deck) f) (fair_fine f))

pub deal_columns : (deck : List ℕ) {b : Board} → deal_asked deck ≡ given b → b.counts ≡ 7 ∷ 7 ∷ 7 ∷ 7 ∷ 6 ∷ 6 ∷ 6 ∷ 6 ∷ []
unfolding deal_asked
deal_columns deck {b} e =
    let n = given_by (eqb (length deck) 52) 16 _ e in
    let c = given_by (all is_card deck) 13 _ n.1 in
    let w = given_by (none_twice deck) 14 _ c.1 in
    let same : board_of (dealt deck) ≡ b = (let q = w.1 in cc) in
    ap (λ (x : Board). x.counts) (sym same ∙ board_dealt deck (eqb-true (length deck) 52 n.0))
