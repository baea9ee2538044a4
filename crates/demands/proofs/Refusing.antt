-- Which numbers an answer is refused with.
use mathlib.Core.Path.{◌≡◌, refl, sym, ap, ◌∙◌, subst}
use mathlib.Core.Bool.{Bool, true, false, not, ◌||◌, or-true}
use mathlib.Core.List.{List, [], ◌∷◌}
use Prim.Native.Nat.{ℕ}
use borrow.Author.Tests.{eq-eqb, eqb-true}
use lib.Dec.{eqb}
use Rattle.base.specs.Words.{all}
use Rattle.base.specs.Answer.{Answer, given, refused, unless}
use Rattle.base.proofs.Words.{true_or_not, first, second}
use Rattle.board.specs.Table.{Table, cards_on}
use Rattle.board.specs.Verdict.{Verdict, fine, after, only_cards, none_twice, none_missing, verdict_on}
use Rattle.board.specs.Record.{shapely, examined, shown}
use Rattle.board.specs.declared.Board.{Board}
use Rattle.moves.specs.Record.{possible, move_of, move_asked}
use Rattle.moves.specs.Play.{after_move}
use Rattle.moves.specs.Causes.{Cause, own_column, source_empty, too_many, other_card, over_limit, no_run, no_fit, cell_full, not_next, cause_number, ruling, played}
use Rattle.moves.specs.declared.Move.{Move}
use Rattle.moves.proofs.Ruling.{ruled_cause}
use Rattle.replay.specs.Step.{recorded, played_on, stepped}
use Rattle.demands.specs.Orders.{Test, first_failing}
use Rattle.demands.specs.Demand1.{is_in, of_moves}
use Rattle.demands.proofs.Ordering.{numbers}

-- a number of a list of which none is handed back is not
pub apart : (handed : ℕ → Bool) (ns : List ℕ) → all (λ n. not (handed n)) ns ≡ true → (n : ℕ) → is_in n ns ≡ true → handed n ≡ false
unfolding all
apart handed [] e n h = true_or_not false h refl
apart handed (m ∷ ns) e n h = by_head (eqb n m) refl h (apart handed ns (second (not (handed m)) _ e) n)
  where
    none : (b : Bool) → not b ≡ true → b ≡ false
    none false q = refl
    none true q = true_or_not false q refl

    by_head : (b : Bool) → eqb n m ≡ b → (b || is_in n ns) ≡ true → (is_in n ns ≡ true → handed n ≡ false) → handed n ≡ false
    by_head true q g on = ap handed (eqb-true n m q) ∙ none (handed m) (first (not (handed m)) _ e)
    by_head false q g on = on g

module _ (ns : List ℕ) where
  -- a refusal of this answer is one of these
  abbrev pub Refuses : {A : Type 0} → Answer A → Type 0
  Refuses (given x) = Unit {0}
  Refuses (refused n) = is_in n ns ≡ true

  module _ {A : Type 0} where
    pub by_test : (ok : Bool) (n : ℕ) (a : Answer A) → is_in n ns ≡ true → Refuses a → Refuses (unless ok n a)
    by_test true n a h r = r
    by_test false n a h r = h

    pub by_verdict : (v : Verdict) (a : Answer A) → Refuses v → Refuses a → Refuses (after v a)
    by_verdict (given u) a h r = r
    by_verdict (refused n) a h r = h

  -- ---- boards

  module _ (twelve : is_in 12 ns ≡ true) (thirteen : is_in 13 ns ≡ true) (fourteen : is_in 14 ns ≡ true) (fifteen : is_in 15 ns ≡ true) where
    judged_refuses : (t : Table) → Refuses (verdict_on t)
    unfolding verdict_on
    judged_refuses t =
        by_test (only_cards t) 13 _ thirteen
        (by_test (none_twice (cards_on t)) 14 _ fourteen (by_test (none_missing (cards_on t)) 15 fine fifteen tt))

    pub board_refuses : (b : Board) → Refuses (examined b)
    unfolding examined
    board_refuses b = by_test (shapely b) 12 _ twelve (judged_refuses (shown b))

  -- ---- moves

  module _ (listed : (c : Cause) → is_in (cause_number c) ns ≡ true) where
    pub ruling_refuses : (t : Table) (m : Move) → Refuses (ruling t m)
    ruling_refuses t m = by (ruling t m) refl
      where
        by : (v : Verdict) → ruling t m ≡ v → Refuses v
        by (given u) e = tt
        by (refused n) e = let c = ruled_cause t m e in subst (λ (k : ℕ). is_in k ns ≡ true) (sym c.1.0) (listed c.0)

    recorded_refuses : (a : Answer Table) → Refuses a → Refuses (recorded a)
    recorded_refuses (given t) r = tt
    recorded_refuses (refused n) r = r

    pub step_refuses : (b : Board) (bytes : List ℕ) → Refuses (stepped b bytes)
    unfolding stepped move_asked played
    step_refuses b bytes = by (possible bytes)
      where
        by : (ok : Bool) → Refuses (played_on b (unless ok 30 (given (move_of bytes))))
        by true =
            let made : Answer Table = given (after_move (shown b) (move_of bytes)) in
            recorded_refuses (after (ruling (shown b) (move_of bytes)) made) (by_verdict (ruling (shown b) (move_of bytes)) made (ruling_refuses (shown b) (move_of bytes)) tt)
        by false = listed own_column

-- ---- the numbers of the causes

pub in_moves : (c : Cause) → is_in (cause_number c) of_moves ≡ true
in_moves own_column = refl
in_moves source_empty = refl
in_moves too_many = refl
in_moves other_card = refl
in_moves over_limit = refl
in_moves no_run = refl
in_moves no_fit = refl
in_moves cell_full = refl
in_moves not_next = refl

-- ---- the numbers of some tests

pub first_refuses : (ts : List Test) → Refuses (numbers ts) (first_failing ts)
first_refuses [] = tt
first_refuses (t ∷ ts) = by t.0 (wider (first_failing ts) (first_refuses ts))
  where
    wider : (v : Verdict) → Refuses (numbers ts) v → Refuses (numbers (t ∷ ts)) v
    wider (given u) r = tt
    wider (refused n) r = ap (λ (b : Bool). eqb n t.1 || b) r ∙ or-true (eqb n t.1)

    by : (ok : Bool) → Refuses (numbers (t ∷ ts)) (first_failing ts) → Refuses (numbers (t ∷ ts)) (unless ok t.1 (first_failing ts))
    by true r = r
    by false r = ap (λ (b : Bool). b || is_in t.1 (numbers ts)) (eq-eqb t.1 t.1 refl)
