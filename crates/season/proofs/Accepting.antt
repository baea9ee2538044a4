-- What is refused, in order, and what is given.
use Rattle.std.specs.Prelude.{Err, Ok}
use mathlib.Core.Path.{◌≡◌, refl, sym, ap, ◌∙◌}
use mathlib.Core.Bool.{Bool, true, false, not}
use mathlib.Core.List.{List}
use Prim.Native.Nat.{ℕ, ◌<◌, ◌≤◌}
use native.Mathlib.Omega.{arith}
use borrow.Author.Tests.{le-leb, lt-leb, leb-true}
use lib.Dec.{leb}
use Rattle.base.specs.Answer.{Answer, given, refused}
use Rattle.base.proofs.Words.{first, second}
use Rattle.board.specs.Refusal.{number_of}
use Rattle.board.specs.declared.Refusal.{Refusal}
use Rattle.intake.specs.Number.{is_number}
use Rattle.sheets.specs.Over.{sheet_over, between}
use Rattle.sheets.specs.Promises.{said_of}
use Rattle.season.specs.Season.{result_of, season_asked}
use Rattle.season.specs.Inner.{settings_of, Accepts}

-- ---- one number

module _ (n : ℕ) where
  pub is_none : {w : Bool} → w ≡ not (is_number n) → w ≡ true → is_number n ≡ false
  is_none e q = by (is_number n) (sym e ∙ q)
    where
      by : (t : Bool) → not t ≡ true → t ≡ false
      by true p = sym p
      by false p = refl

  pub is_one : {w : Bool} → w ≡ not (is_number n) → w ≡ false → is_number n ≡ true
  is_one e q = by (is_number n) (sym e ∙ q)
    where
      by : (t : Bool) → not t ≡ false → t ≡ true
      by true p = refl
      by false p = sym p

  module _ (ok : is_number n ≡ true) where
    pub is_low : 1 ≤ n
    unfolding is_number
    is_low = leb-true 1 n (first (leb 1 n) (leb n 32000) ok)

    pub is_high : n ≤ 32000
    unfolding is_number
    is_high = leb-true n 32000 (second (leb 1 n) (leb n 32000) ok)

  pub number_between : 1 ≤ n → n ≤ 32000 → is_number n ≡ true
  unfolding is_number
  number_between l h = rw (le-leb 1 n l, le-leb n 32000 h)

-- ---- the order of the refusals

module _ (from to budget capacity words : ℕ) where
  abbrev asked : Bool → Answer (List ℕ)
  asked partial = season_asked from to (settings_of budget capacity partial) words

  pub no_first : is_number from ≡ false → (partial : Bool) → asked partial ≡ refused 41
  unfolding season_asked
  no_first e partial = rw e

  pub accepts_no : (why : Refusal) → ((partial : Bool) → asked partial ≡ refused (number_of why)) → Accepts from to budget capacity words (Err why)
  accepts_no why e =
      record {
        told = λ partial. sym (ap said_of (e partial));
        low = λ q. let z : ◌≡◌ {A = ℕ} 0 1 = cc in absurd (let w : ⊥ = omega arith in w);
        high = λ q. let z : ◌≡◌ {A = ℕ} 0 1 = cc in absurd (let w : ⊥ = omega arith in w);
        cheap = λ q. let z : ◌≡◌ {A = ℕ} 0 1 = cc in absurd (let w : ⊥ = omega arith in w);
        wide = λ q. let z : ◌≡◌ {A = ℕ} 0 1 = cc in absurd (let w : ⊥ = omega arith in w);
        some = λ q. let z : ◌≡◌ {A = ℕ} 0 1 = cc in absurd (let w : ⊥ = omega arith in w);
      }

  module _ (e : is_number from ≡ true) where
    pub no_last : is_number to ≡ false → (partial : Bool) → asked partial ≡ refused 41
    unfolding season_asked
    no_last f partial = rw (e, f)

    module _ (f : is_number to ≡ true) where
      pub over_budget : 1000000 < budget → (partial : Bool) → asked partial ≡ refused 20
      unfolding season_asked
      over_budget h partial = rw (e, f, lt-leb budget 1000000 h)

      module _ (h : budget ≤ 1000000) where
        pub no_sheet : words < 716 → (partial : Bool) → asked partial ≡ refused 21
        unfolding season_asked
        no_sheet k partial = rw (e, f, le-leb budget 1000000 h, lt-leb 716 words k)

        module _ (k : 716 ≤ words) where
          pub no_node : capacity ≡ 0 → (partial : Bool) → asked partial ≡ refused 22
          unfolding season_asked
          no_node l partial = rw (e, f, le-leb budget 1000000 h, le-leb 716 words k, lt-leb 1 capacity (omega arith))

          pub all_given : 1 ≤ capacity → (partial : Bool)
              → asked partial ≡ given (sheet_over (settings_of budget capacity partial) (result_of (settings_of budget capacity partial)) (between from to))
          unfolding season_asked
          all_given l partial = rw (e, f, le-leb budget 1000000 h, le-leb 716 words k, le-leb 1 capacity l)

          pub accepts_yes : 1 ≤ capacity → Accepts from to budget capacity words (Ok tt)
          accepts_yes l =
              record {
                told = λ partial. sym (ap said_of (all_given l partial));
                low = λ q. is_low from e;
                high = λ q. is_high to f;
                cheap = λ q. h;
                wide = λ q. k;
                some = λ q. l;
              }
