-- What is said of a move: test by test, and exactly the first cause that holds.
use mathlib.Core.Path.{◌≡◌, refl, sym, ap, ◌∙◌, subst}
use mathlib.Core.Bool.{Bool, true, false, cond, ◌&&◌}
use mathlib.Core.List.{List, [], ◌∷◌, ◌++◌}
use Prim.Native.Nat.{ℕ, ◌<◌, ◌≤◌}
use native.Mathlib.Omega.{arith}
use borrow.Author.Tests.{le-leb, lt-leb, eq-eqb, ne_eqb}
use lib.Dec.{eqb, leb}
use lib.ListN.{length, get_or}
use Rattle.base.specs.Answer.{given, refused, unless}
use Rattle.card.specs.Card.{code_of}
use Rattle.board.specs.Table.{Table}
use Rattle.board.specs.Verdict.{Verdict, fine, after}
use Rattle.runs.specs.Run.{is_run}
use Rattle.moves.specs.Move.{from, to, count, card}
use Rattle.moves.specs.Play.{there, hand, after_move, elsewhere, within_limit, fits_column, cell_free, next_home, takes, allowed}
use Rattle.moves.specs.Causes.{Cause, own_column, source_empty, too_many, other_card, over_limit, no_run, no_fit, cell_full, not_next}
use Rattle.moves.specs.Causes.{causes, cause_number, passes, first_of, ruling, played, Pass, First}
use Rattle.moves.specs.Inner.{landing}
use Rattle.moves.specs.declared.Move.{Move}

-- ---- test by test, in the order of the causes

module _ (t : Table) (m : Move) where
  pub ruled_own : elsewhere (from m) (to m) ≡ false → ruling t m ≡ refused 30
  unfolding ruling first_of causes passes
  ruled_own e = rw e

  module _ (away : elsewhere (from m) (to m) ≡ true) where
    pub ruled_empty : length (there t (from m)) < 1 → ruling t m ≡ refused 33
    unfolding ruling first_of causes passes
    ruled_empty h = rw (away, lt-leb 1 (length (there t (from m))) h)

    module _ (some : 1 ≤ length (there t (from m))) where
      pub ruled_many : length (there t (from m)) < count m → ruling t m ≡ refused 35
      unfolding ruling first_of causes passes
      ruled_many h = rw (away, le-leb 1 (length (there t (from m))) some, lt-leb (count m) (length (there t (from m))) h)

      module _ (enough : count m ≤ length (there t (from m))) where
        pub ruled_other : (get_or (hand t m) 0 0 ≡ code_of (card m) → ⊥) → ruling t m ≡ refused 34
        unfolding ruling first_of causes passes
        ruled_other d =
            rw (
              away,
              le-leb 1 (length (there t (from m))) some,
              le-leb (count m) (length (there t (from m))) enough,
              ne_eqb (get_or (hand t m) 0 0) (code_of (card m)) d,
            )

        module _ (named : get_or (hand t m) 0 0 ≡ code_of (card m)) where
          -- past the first four causes the others decide
          pub ruled_rest : ruling t m
              ≡ unless (within_limit t (from m) (to m) (count m)) 36 (unless (is_run (hand t m)) 37 (landing t (to m) (code_of (card m))))
          unfolding ruling first_of causes passes landing
          ruled_rest =
              rw (
                away,
                le-leb 1 (length (there t (from m))) some,
                le-leb (count m) (length (there t (from m))) enough,
                eq-eqb (get_or (hand t m) 0 0) (code_of (card m)) named,
              )

-- ---- a move is fine exactly if it is allowed

is_fine : Verdict → Bool
is_fine (given u) = true
is_fine (refused n) = false

fine_is : (v : Verdict) → is_fine v ≡ true → v ≡ fine
unfolding is_fine
fine_is (given u) e = refl
fine_is (refused n) e = absurd (let z : ◌≡◌ {A = ℕ} 0 1 = ap (λ (b : Bool). cond b 1 0) e in let w : ⊥ = omega arith in w)

-- one test more
more : (a b : Bool) (n : ℕ) (v : Verdict) → is_fine v ≡ b → is_fine (unless a n v) ≡ (a && b)
unfolding is_fine
more true b n v e = e
more false b n v e = refl

module _ (t : Table) (m : Move) where
  ruling_is : is_fine (ruling t m) ≡ allowed t m
  unfolding ruling first_of causes passes allowed takes is_fine
  ruling_is =
      more (elsewhere (from m) (to m)) _ 30 _
      (more (leb 1 (length (there t (from m)))) _ 33 _
      (more (leb (count m) (length (there t (from m)))) _ 35 _
      (more (eqb (get_or (hand t m) 0 0) (code_of (card m))) _ 34 _
      (more (within_limit t (from m) (to m) (count m)) _ 36 _
      (more (is_run (hand t m)) _ 37 _
      (more (fits_column t (to m) (code_of (card m))) _ 38 _
      (more (cell_free t (to m)) _ 39 _ (last (next_home t (to m) (code_of (card m)))))))))))
    where
      last : (a : Bool) → is_fine (unless a 40 fine) ≡ a
      last true = refl
      last false = refl

  pub fine-allowed : ruling t m ≡ fine → allowed t m ≡ true
  unfolding is_fine
  fine-allowed e = sym ruling_is ∙ ap is_fine e

  pub allowed-fine : allowed t m ≡ true → ruling t m ≡ fine
  allowed-fine e = fine_is (ruling t m) (ruling_is ∙ e)

  pub played_yes : allowed t m ≡ true → played t m ≡ given (after_move t m)
  unfolding played
  played_yes e = ap (λ (v : Verdict). after v (given (after_move t m))) (allowed-fine e)

  pub played_no : {n : ℕ} → ruling t m ≡ refused n → played t m ≡ refused n
  unfolding played
  played_no e = ap (λ (v : Verdict). after v (given (after_move t m))) e

-- ---- the number of a cause is given exactly when the cause holds and none earlier does

-- the cause of a number
cause_by : ℕ → Cause
cause_by n =
    cond (eqb n 30) own_column
    (cond (eqb n 33) source_empty
    (cond (eqb n 35) too_many
    (cond (eqb n 34) other_card (cond (eqb n 36) over_limit (cond (eqb n 37) no_run (cond (eqb n 38) no_fit (cond (eqb n 39) cell_full not_next)))))))

by_number : (c : Cause) → cause_by (cause_number c) ≡ c
unfolding cause_by
by_number own_column = refl
by_number source_empty = refl
by_number too_many = refl
by_number other_card = refl
by_number over_limit = refl
by_number no_run = refl
by_number no_fit = refl
by_number cell_full = refl
by_number not_next = refl

-- no two causes share a number
pub cause_once : (c d : Cause) → cause_number c ≡ cause_number d → c ≡ d
cause_once c d e = sym (by_number c) ∙ ap cause_by e ∙ by_number d

module _ (t : Table) (m : Move) where
  -- the first of some causes that holds, found among them
  record Found (n : ℕ) (cs : List Cause) : Type 0 where
    cause : Cause
    number : n ≡ cause_number cause
    earlier : List Cause
    later : List Cause
    order : cs ≡ earlier ++ (cause ∷ later)
    passed : Pass t m earlier
    holds : passes t m cause ≡ false

  given_first : (earlier : List Cause) (c : Cause) (later : List Cause) → Pass t m earlier → passes t m c ≡ false
      → first_of t m (earlier ++ (c ∷ later)) ≡ refused (cause_number c)
  unfolding first_of
  given_first [] c later p h = rw h
  given_first (d ∷ earlier) c later p h = rw p.0 (given_first earlier c later p.1 h)

  found : {n : ℕ} (cs : List Cause) → first_of t m cs ≡ refused n → Found n cs
  unfolding first_of
  found [] e = let z : ◌≡◌ {A = ℕ} 0 1 = cc in absurd (let w : ⊥ = omega arith in w)
  found {n} (c ∷ cs) e = by (passes t m c) refl e (found cs)
    where
      by : (b : Bool) → passes t m c ≡ b → unless b (cause_number c) (first_of t m cs) ≡ refused n → (first_of t m cs ≡ refused n → Found n cs) → Found n (c ∷ cs)
      by true q e on =
          let f = on e in
          record {
            cause = f.cause;
            number = f.number;
            earlier = c ∷ f.earlier;
            later = f.later;
            order = ap (λ (l : List Cause). c ∷ l) f.order;
            passed = (q, f.passed);
            holds = f.holds;
          }
      by false q e on =
          let same : cause_number c ≡ n = cc in
          record { cause = c; number = sym same; earlier = []; later = cs; order = refl; passed = tt; holds = q }

  -- a cause that is the first to hold gives its number
  pub first-ruled : {c : Cause} → First t m c → ruling t m ≡ refused (cause_number c)
  unfolding ruling
  first-ruled {c} f = ap (first_of t m) f.order ∙ given_first f.earlier c f.later f.passed f.holds

  -- a number is that of a cause that is the first to hold
  pub ruled_cause : {n : ℕ} → ruling t m ≡ refused n → (c : Cause) × ((n ≡ cause_number c) × First t m c)
  unfolding ruling
  ruled_cause e =
      let f = found causes e in
      (f.cause, (f.number, record { earlier = f.earlier; later = f.later; order = f.order; passed = f.passed; holds = f.holds }))

  -- so a cause's number is given for no other cause
  pub ruled-first : {c : Cause} → ruling t m ≡ refused (cause_number c) → First t m c
  ruled-first {c} e = let f = ruled_cause e in subst (First t m) (sym (cause_once c f.0 f.1.0)) f.1.1
