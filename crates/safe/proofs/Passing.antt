-- The first safe move, place by place: nothing is safe at the places passed.
use Rattle.std.specs.Prelude.{None, Some, Option}
use mathlib.Core.Path.{◌≡◌, refl, sym, ap, ◌∙◌}
use mathlib.Core.Bool.{Bool, true, false, cond, ◌&&◌}
use mathlib.Core.List.{List, [], ◌∷◌, append_assoc}
use Prim.Native.Nat.{ℕ, ◌+◌, ◌-◌, ◌<◌, ◌≤◌}
use native.Mathlib.Omega.{arith}
use native.Mathlib.Decide.{dec_lt}
use borrow.Author.Tests.{lt-ltb, le-ltb}
use lib.Dec.{ltb}
use Rattle.base.specs.Words.{listed}
use Rattle.card.specs.Card.{is_value, code_of}
use Rattle.card.specs.declared.Card.{Card}
use Rattle.board.specs.Table.{Table}
use Rattle.board.specs.Record.{column_at, shown}
use Rattle.board.specs.Inner.{Sound}
use Rattle.board.specs.declared.Board.{Board}
use Rattle.questions.specs.Questions.{top_of}
use Rattle.rules.specs.Fit.{home_takes}
use Rattle.moves.specs.Move.{to, card}
use Rattle.moves.specs.Play.{there, takes}
use Rattle.moves.specs.declared.Move.{Move}
use Rattle.generate.specs.Found.{source_count, target_count, source, move_from, gather, found_between, found_from, found}
use Rattle.generate.specs.Inner.{Offers}
use Rattle.generate.specs.declared.Way.{Way}
use Rattle.generate.specs.declared.Way.TheVariants.{ColumnToColumn, ColumnToHome, CellToHome}
use Rattle.generate.proofs.Gathering.{gather_none, gather_one}
use Rattle.generate.proofs.Offering.{none_from, offer_value, offer_found}
use Rattle.safe.specs.Safe.{safe, chosen, is_safe, home_moves, first_of, first_safe}
use Rattle.safe.specs.Inner.{cards_at, home_move}
use Rattle.safe.proofs.Places.{at_column, at_cell, column_home, cell_home}
use Rattle.safe.proofs.Choosing.{chosen_one, none_more, first_none, first_at}

-- the move home from a place, if there is one
unfoldable pub home_from : Table → ℕ → List Move
home_from t place = cond (ltb place 8) (found_from t ColumnToHome place) (found_from t CellToHome (place - 8))

twelve : (t : Table) → home_moves t ≡ gather 12 (home_from t)
unfolding home_moves found gather home_from
twelve t = simp append_assoc

-- ---- one place

-- what a place is among those that moves are found from
record Spot (b : Board) (place : ℕ) (w : Way) (i : ℕ) : Type 0 where
  below : i < source_count w
  single : w ≡ ColumnToColumn → ⊥
  goes : 0 < target_count w
  lies : cards_at b.cells (listed 8 (column_at b.counts b.tableau)) place ≡ there (shown b) (source w i)
  moves : (c : Card) → home_move place c ≡ move_from w i 0 1 c
  named : (c : Card) → card (move_from w i 0 1 c) ≡ c
  decides : (c : Card) → home_takes b.foundation (code_of c) ≡ takes (shown b) (to (move_from w i 0 1 c)) (code_of c)
  finds : home_from (shown b) place ≡ found_from (shown b) w i
  once : found_from (shown b) w i ≡ found_between (shown b) w i 0

column_spot : (b : Board) (place : ℕ) → place < 8 → Spot b place ColumnToHome place
unfolding shown takes home_from found_from
column_spot b place h =
    record {
      below = h;
      single = λ e. let z : ◌≡◌ {A = ℕ} 0 1 = cc in let w : ⊥ = omega arith in w;
      goes = omega arith;
      lies = at_column b.cells (listed 8 (column_at b.counts b.tableau)) place h;
      moves = λ c. sym (column_home place c h);
      named = λ c. refl;
      decides = λ c. refl;
      finds = rw (lt-ltb place 8 h);
      once = gather_one (found_between (shown b) ColumnToHome place);
    }

cell_spot : (b : Board) (place : ℕ) → 8 ≤ place → place < 12 → Spot b place CellToHome (place - 8)
unfolding shown takes home_from found_from
cell_spot b place h l =
    record {
      below = omega arith;
      single = λ e. let z : ◌≡◌ {A = ℕ} 0 1 = cc in let w : ⊥ = omega arith in w;
      goes = omega arith;
      lies = at_cell b.cells (listed 8 (column_at b.counts b.tableau)) place h;
      moves = λ c. sym (cell_home place c h);
      named = λ c. refl;
      decides = λ c. refl;
      finds = rw (le-ltb place 8 h);
      once = gather_one (found_between (shown b) CellToHome (place - 8));
    }

by_spot : {P : Type 0} (b : Board) (place : ℕ) → place < 12 → ((w : Way) (i : ℕ) → Spot b place w i → P) → P
by_spot {P} b place h on = by_side (dec_lt place 8)
  where
    by_side : Dec (place < 8) → P
    by_side (yes l) = on ColumnToHome place (column_spot b place l)
    by_side (no d) = on CellToHome (place - 8) (cell_spot b place (omega arith) h)

-- the top card there
abbrev pub top_at : Board → ℕ → Option Card
top_at b place = top_of (cards_at b.cells (listed 8 (column_at b.counts b.tableau)) place)

-- the card there goes home, and is safe
abbrev pub goes_home : Board → Card → Bool
goes_home b c = home_takes b.foundation (code_of c) && safe b.foundation (code_of c)

module _ {b : Board} (s : Sound b) {place : ℕ} (h : place < 12) where
  none_there : top_at b place ≡ None → chosen (is_safe (shown b)) (home_from (shown b) place) ≡ []
  unfolding chosen
  none_there e =
      by_spot b place h
      (λ w i p. ap (chosen (is_safe (shown b))) (p.finds ∙ none_from (shown b) w i p.single p.below (ap top_of (sym p.lies) ∙ e)))

  module _ {c : Card} (e : top_at b place ≡ Some c) where
    offers : (w : Way) (i : ℕ) → Spot b place w i → Offers b w i 0 c
    offers w i p = record { sound = s; single = p.single; leaves = p.below; goes = p.goes; top = ap top_of (sym p.lies) ∙ e }

    pub top_value_lem : is_value c.value ≡ true
    top_value_lem = by_spot b place h (λ w i p. offer_value (offers w i p))

    one_there : chosen (is_safe (shown b)) (home_from (shown b) place) ≡ cond (goes_home b c) (home_move place c ∷ []) []
    unfolding is_safe shown
    one_there =
        by_spot b place h
        (λ w i p. let r = home_takes b.foundation (code_of c) in
        let m = move_from w i 0 1 c in
        ap (chosen (is_safe (shown b))) (p.finds ∙ p.once ∙ offer_found (offers w i p) (p.decides c) refl)
        ∙ chosen_one (is_safe (shown b)) m r
        ∙ ap (λ (d : Card). cond (r && safe b.foundation (code_of d)) (m ∷ []) []) (p.named c)
        ∙ ap (λ (n : Move). cond (goes_home b c) (n ∷ []) []) (sym (p.moves c)))

-- ---- what the loop knows

-- at the places before this one no move is safe
pub record Passed (b : Board) (place : ℕ) : Type 0 where
  pub upto : place ≤ 12
  pub none : chosen (is_safe (shown b)) (gather place (home_from (shown b))) ≡ []

pub pass_none : (b : Board) → Passed b 0
unfolding chosen
pass_none b = record { upto = omega arith; none = ap (chosen (is_safe (shown b))) (gather_none (home_from (shown b))) }

module _ {b : Board} (s : Sound b) {place : ℕ} (g : Passed b place) (h : place < 12) where
  pass_on : chosen (is_safe (shown b)) (home_from (shown b) place) ≡ [] → Passed b (place + 1)
  pass_on e = record { upto = omega arith; none = none_more (is_safe (shown b)) (home_from (shown b)) place g.none e }

  pub pass_empty : top_at b place ≡ None → Passed b (place + 1)
  pass_empty e = pass_on (none_there s h e)

  module _ {c : Card} (e : top_at b place ≡ Some c) where
    pub pass_unsafe : goes_home b c ≡ false → Passed b (place + 1)
    pass_unsafe q = pass_on (one_there s h e ∙ ap (λ (r : Bool). cond r (home_move place c ∷ []) []) q)

    pub safe_here : goes_home b c ≡ true → first_safe (shown b) ≡ Some (home_move place c)
    unfolding first_safe first_of
    safe_here q =
        ap (λ (l : List Move). first_of (chosen (is_safe (shown b)) l)) (twelve (shown b))
        ∙ first_at (is_safe (shown b)) (home_from (shown b)) place 12 h g.none
        (ap first_of (one_there s h e ∙ ap (λ (r : Bool). cond r (home_move place c ∷ []) []) q))

pub pass_all : {b : Board} {place : ℕ} → Passed b place → 12 ≤ place → first_safe (shown b) ≡ None
unfolding first_safe
pass_all {b} {place} g h =
    first_none
    (ap (chosen (is_safe (shown b))) (twelve (shown b))
    ∙ ap (λ (k : ℕ). chosen (is_safe (shown b)) (gather k (home_from (shown b)))) (let u = g.upto in let q : 12 ≡ place = omega arith in q) ∙ g.none)
