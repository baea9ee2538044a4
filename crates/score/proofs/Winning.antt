-- FreeCell's won table: all 52 cards are home, so cells and columns are empty, and no well-formed table has a higher progress score.
use mathlib.Core.Path.{◌≡◌, refl, ap, ap₂, ◌∙◌}
use mathlib.Core.Bool.{Bool, true, false, cond}
use mathlib.Core.List.{List, [], ◌∷◌, ◌++◌}
use Prim.Native.Nat.{ℕ, ◌+◌, ◌*◌, ◌<◌, ◌≤◌}
use native.Mathlib.Omega.{arith}
use native.Mathlib.Decide.{dec_lt}
use borrow.Author.Tests.{eqb-true}
use lib.Dec.{eqb}
use lib.ListN.{length, get_or, replicate, length-append}
use Rattle.base.specs.Words.{sum, listed, concat}
use Rattle.base.proofs.Words.{every_at, length-listed}
use Rattle.board.specs.Table.{Table, pile, piles, held, cards_on}
use Rattle.board.specs.Fair.{Fair}
use Rattle.board.proofs.Fair.{fair_piles}
use Rattle.board.proofs.Marks.{none_twice_lem}
use Rattle.board.proofs.Counting.{at_most_52}
use Rattle.board.proofs.Fitting.{cards_on_lem}
use Rattle.questions.specs.Questions.{home_count, empty_columns, won_on}
use Rattle.runs.specs.Run.{run_length}
use Rattle.features.specs.Features.{features_of, greatest, last_goes_home, immediate_on, blocked_in, blocked_on, cells_used, longest_run}
use Rattle.score.specs.Scores.{progress_bias, progress_key}
use Rattle.score.specs.Weights.{PROGRESS_FOUNDATION_WEIGHT, PROGRESS_EMPTY_TABLEAU_BONUS}
use Rattle.features.proofs.Bounds.{fair_bounded}

-- ---- all 52 cards home

pile_long : (suit n : ℕ) → length (pile suit n) ≡ n
unfolding pile
pile_long suit n = length-listed (λ v. (v + 1) * 16 + suit) n

piles_long : (foundation : List ℕ) → length (piles foundation) ≡ home_count foundation
unfolding piles home_count listed concat sum
piles_long foundation =
    let p : ℕ → List ℕ = λ s. pile s (get_or foundation s 0) in
    let a = pile_long 0 (get_or foundation 0 0) in
    let b = pile_long 1 (get_or foundation 1 0) in
    let c = pile_long 2 (get_or foundation 2 0) in
    let d = pile_long 3 (get_or foundation 3 0) in
    simp length-append (omega arith)

no_long : {A : Type 0} (l : List A) → length l ≡ 0 → l ≡ []
no_long [] e = refl
no_long (x ∷ l) e = absurd (let w : ⊥ = omega arith in w)

-- with 52 cards home no other is on the table
nothing_left : (t : Table) → Fair t → home_count t.foundation ≡ 52 → length (held t.cells) + length (concat t.columns) ≡ 0
unfolding cards_on
nothing_left t f e =
    let most = at_most_52 (cards_on t) (cards_on_lem t (fair_piles f) f.cards) (none_twice_lem (cards_on t) (λ k h. let o = f.once k h in omega arith)) in
    let home = piles_long t.foundation in
    let one = length-append (piles t.foundation) (held t.cells ++ concat t.columns) in
    let two = length-append (held t.cells) (concat t.columns) in
    omega arith

empty_cells_lem : (cells : List ℕ) → length (held cells) ≡ 0 → cells ≡ replicate (length cells) 255
unfolding held
empty_cells_lem [] e = refl
empty_cells_lem (x ∷ cells) e = by (eqb x 255) refl (empty_cells_lem cells) e
  where
    by : (t : Bool) → eqb x 255 ≡ t → (length (held cells) ≡ 0 → cells ≡ replicate (length cells) 255) → length (cond t (held cells) (x ∷ held cells)) ≡ 0
        → x ∷ cells ≡ 255 ∷ replicate (length cells) 255
    by true q rest e = ap₂ (λ (y : ℕ) (l : List ℕ). y ∷ l) (eqb-true x 255 q) (rest e)
    by false q rest e = absurd (let w : ⊥ = omega arith in w)

empty_columns_lem : (columns : List (List ℕ)) → length (concat columns) ≡ 0 → columns ≡ replicate (length columns) []
unfolding concat
empty_columns_lem [] e = refl
empty_columns_lem (l ∷ columns) e =
    let h = length-append l (concat columns) in
    ap₂ (λ (x : List ℕ) (y : List (List ℕ)). x ∷ y) (no_long l (omega arith)) (empty_columns_lem columns (omega arith))

-- ---- its score

abbrev bare : List ℕ → Table
bare foundation = record { cells = replicate 4 255; foundation = foundation; columns = replicate 8 [] }

all-home : (t : Table) → Fair t → home_count t.foundation ≡ 52 → t ≡ bare t.foundation
all-home t f e =
    let n = nothing_left t f e in
    let cells = empty_cells_lem t.cells (omega arith) ∙ ap (λ (k : ℕ). replicate k 255) f.seats.four in
    let columns = empty_columns_lem t.columns (omega arith) ∙ ap (λ (k : ℕ). replicate {A = List ℕ} k []) f.seats.eight in
    ap₂ (λ (x : List ℕ) (y : List (List ℕ)). let u : Table = record { cells = x; foundation = t.foundation; columns = y } in u) cells columns

-- the highest progress, raised
abbrev top_key : ℕ
top_key = 52 * PROGRESS_FOUNDATION_WEIGHT + 8 * PROGRESS_EMPTY_TABLEAU_BONUS + progress_bias

bare_score : (foundation : List ℕ) → home_count foundation ≡ 52 → progress_key (features_of (bare foundation)) ≡ top_key
unfolding progress_key features_of immediate_on last_goes_home blocked_on blocked_in cells_used longest_run greatest run_length empty_columns held concat sum
bare_score foundation e = omega arith

home_score : (t : Table) → Fair t → home_count t.foundation ≡ 52 → progress_key (features_of t) ≡ top_key
home_score t f e = ap (λ (u : Table). progress_key (features_of u)) (all-home t f e) ∙ bare_score t.foundation e

home_of : (t : Table) → (features_of t).home ≡ home_count t.foundation
unfolding features_of
home_of t = refl

less_home : (t : Table) → Fair t → home_count t.foundation < 52 → progress_key (features_of t) ≤ top_key
unfolding progress_key
less_home t f h = let b = fair_bounded t f in let e = home_of t in omega (arith, b.immediate, b.empty, b.longest)

at_most_top : (t : Table) → Fair t → progress_key (features_of t) ≤ top_key
at_most_top t f = by (dec_lt (home_count t.foundation) 52)
  where
    by : Dec (home_count t.foundation < 52) → progress_key (features_of t) ≤ top_key
    by (yes h) = less_home t f h
    by (no h) =
        let b = (fair_bounded t f).home in
        let e = home_of t in
        let s = home_score t f (omega arith) in
        omega arith

king_home_lem : (foundation : List ℕ) → won_on foundation ≡ true → (s : ℕ) → s < 4 → get_or foundation s 0 ≡ 13
unfolding won_on
king_home_lem foundation e s h = eqb-true (get_or foundation s 0) 13 (every_at (λ k. eqb (get_or foundation k 0) 13) 4 e s h)

won-home : (foundation : List ℕ) → won_on foundation ≡ true → home_count foundation ≡ 52
unfolding home_count sum
won-home foundation e =
    let clubs = king_home_lem foundation e 0 (omega arith) in
    let diamonds = king_home_lem foundation e 1 (omega arith) in
    let hearts = king_home_lem foundation e 2 (omega arith) in
    let spades = king_home_lem foundation e 3 (omega arith) in
    omega arith

pub won_most : (t u : Table) → Fair t → Fair u → won_on t.foundation ≡ true → progress_key (features_of u) ≤ progress_key (features_of t)
won_most t u f g e =
    let s = home_score t f (won-home t.foundation e) in
    let m = at_most_top u g in
    omega arith
