-- Calls of corbelnib_season and corbelnib_add: their rows of the table of orders, and what they are answered with.
use mathlib.Core.Path.{◌≡◌, refl, sym, ap, ◌∙◌}
use mathlib.Core.Bool.{true}
use mathlib.Core.List.{List}
use Prim.Native.Nat.{ℕ}
use borrow.Author.Tests.{leb-true}
use lib.Dec.{eqb, leb}
use lib.ListN.{length, take, drop}
use lib.Seq.{take_at}
use Rattle.base.specs.Answer.{Answer, given, refused}
use Rattle.base.specs.Put.{over}
use Rattle.base.specs.Words.{all}
use Rattle.base.proofs.Answers.{given_by}
use Rattle.board.specs.Verdict.{fine}
use Rattle.intake.specs.Number.{is_number}
use Rattle.solver.specs.Searched.{most_pops}
use Rattle.sheets.specs.Figures.{sheet_room}
use Rattle.sheets.specs.Over.{sheet_over, between}
use Rattle.sheets.specs.Good.{good_sheet}
use Rattle.sheets.specs.Adding.{same_settings, apart, added, add_asked}
use Rattle.sheets.proofs.Goodness.{good_is}
use Rattle.season.specs.Season.{Lent, filled, result_of, season_asked, season_in}
use Rattle.season.proofs.Accepting.{all_given}
use Rattle.season.proofs.Seasons.{season_good}
use Rattle.crossing.specs.Crossing.{Left, left, crossed}
use Rattle.crossing.specs.Values.{value_left}
use Rattle.crossing.specs.Numbers.{flag}
use Rattle.corbelnib.specs.Season.{season_left, add_left}
use Rattle.corbelnib.specs.Calls.{In, Places, season, add, Call, settings_by}
use Rattle.demands.specs.Orders.{first_failing, order}
use Rattle.demands.specs.Demand1.{hands, GoodRun, ClearedAll}
use Rattle.demands.specs.SeasonsFigures.{sheet_by, settings, run_of, Sum}
use Rattle.demands.proofs.Ordering.{untested, tested, both_tested, crosses, Ruled, call_examines}

-- ---- a season

pub season_ruled : (r : In season) (l : Places season) → Ruled season r l
unfolding season_left season_in season_asked
season_ruled r l =
    let s = settings_by r l in
    let x = sheet_over s (result_of s) (between r.first r.last) in
    crosses (hands season) l (order season r l) x (λ words. left 0 (filled l words))
    (both_tested (is_number r.first) (is_number r.last) 41
    (tested (leb r.budget most_pops) 20 (tested (leb sheet_room (length l.sheet)) 21 (tested (leb 1 s.capacity) 22 (untested x)))))
    refl

-- a season of which no test fails
passed_run : (c : Call season) → first_failing (order season c.input c.before) ≡ fine → GoodRun c
passed_run c e =
    let f = given_by (is_number c.input.first) 41 _ e in
    let l = given_by (is_number c.input.last) 41 _ f.1 in
    let b = given_by (leb c.input.budget most_pops) 20 _ l.1 in
    let s = given_by (leb sheet_room (length c.before.sheet)) 21 _ b.1 in
    let r = given_by (leb 1 (settings c).capacity) 22 _ s.1 in
    record {
      begins = f.0;
      ends = l.0;
      budget = leb-true c.input.budget most_pops b.0;
      sheet = leb-true sheet_room (length c.before.sheet) s.0;
      root = leb-true 1 (settings c).capacity r.0;
    }

module _ (c : Call season) where
  abbrev asked : Answer (List ℕ)
  asked = season_asked c.input.first c.input.last (settings c) (length c.before.sheet)

  -- what is left, by the answer
  left_by_lem : {a : Answer (List ℕ)} → asked ≡ a → left c.number c.after ≡ crossed a c.before (λ words. left 0 (filled c.before words))
  unfolding season_left season_in
  left_by_lem e = c.keeps ∙ ap (λ (a : Answer (List ℕ)). crossed a c.before (λ words. left 0 (filled c.before words))) e

  pub refused_with_lem : {n : ℕ} → asked ≡ refused n → c.number ≡ n
  refused_with_lem e = ap (λ (l : Left Lent). l.number) (left_by_lem e)

  module _ (g : GoodRun c) where
    abbrev whole : List ℕ
    whole = sheet_over (settings c) (result_of (settings c)) (run_of c)

    pub is_asked : asked ≡ given whole
    is_asked =
        all_given c.input.first c.input.last c.input.budget (settings c).capacity (length c.before.sheet) g.begins g.ends g.budget g.sheet g.root
        (flag c.input.partial)

    whole_long : length whole ≡ sheet_room
    whole_long =
        (good_is whole (season_good c.input.first c.input.last (settings c) (length c.before.sheet) whole is_asked)).long

    pub run_done : c.number ≡ 0
    run_done = ap (λ (l : Left Lent). l.number) (left_by_lem is_asked)

    pub run_left : c.after ≡ filled c.before whole
    run_left = ap (λ (l : Left Lent). l.places) (left_by_lem is_asked)

    pub run_sheet : sheet_by c ≡ whole
    unfolding over
    run_sheet = ap (λ (l : Lent). take sheet_room l.sheet) run_left ∙ take_at whole (drop (length whole) c.before.sheet) sheet_room whole_long

  pub done_good : c.number ≡ 0 → GoodRun c
  unfolding all
  done_good e = passed_run c (call_examines c (season_ruled c.input c.before) refl (ap (λ (n : ℕ). eqb n 0) e))

  -- the sheet that was written is what was asked for
  pub done_asked : c.number ≡ 0 → asked ≡ given (sheet_by c)
  done_asked e = is_asked (done_good e) ∙ ap given (sym (run_sheet (done_good e)))

  pub season_clears : c.number ≡ 0 → ClearedAll c
  season_clears e =
      let l = run_left (done_good e) in
      record {
        nodes = ap (λ (x : Lent). x.nodes) l;
        heap = ap (λ (x : Lent). x.heap) l;
        keys = ap (λ (x : Lent). x.keys) l;
        costs = ap (λ (x : Lent). x.costs) l;
      }

-- ---- a sum

pub add-ruled : (other : In add) (into : Places add) → Ruled add other into
unfolding add_left add_asked
add-ruled other into =
    let x = added into other in
    crosses (hands add) into (order add other into) x (λ sum. left 0 sum)
    (both_tested (good_sheet into) (good_sheet other) 47 (tested (same_settings into other) 45 (tested (apart into other) 44 (untested x)))) refl

module _ (c : Call add) where
  pub sum_by : {a : Answer (List ℕ)} → add_asked c.before c.input ≡ a → left c.number c.after ≡ value_left a c.before
  unfolding add_left
  sum_by e = c.keeps ∙ ap (λ (a : Answer (List ℕ)). value_left a c.before) e

  pub no_sum : {n : ℕ} → add_asked c.before c.input ≡ refused n → c.number ≡ n
  no_sum e = ap (λ (l : Left (List ℕ)). l.number) (sum_by e)

  pub a_sum : {x : List ℕ} → add_asked c.before c.input ≡ given x → Sum c x
  a_sum e = record { done = ap (λ (l : Left (List ℕ)). l.number) (sum_by e); sheet = ap (λ (l : Left (List ℕ)). l.places) (sum_by e) }

  -- sheets of which no test fails
  addable : good_sheet c.before ≡ true → good_sheet c.input ≡ true → same_settings c.before c.input ≡ true → apart c.before c.input ≡ true
      → add_asked c.before c.input ≡ given (added c.before c.input)
  unfolding add_asked
  addable one two same free = rw (one, two, same, free)

  -- a sum that was given is what was asked for
  pub sum-asked : c.number ≡ 0 → add_asked c.before c.input ≡ given c.after
  unfolding all
  sum-asked e =
      let none = call_examines c (add-ruled c.input c.before) refl (ap (λ (n : ℕ). eqb n 0) e) in
      let p = given_by (good_sheet c.before) 47 _ none in
      let q = given_by (good_sheet c.input) 47 _ p.1 in
      let r = given_by (same_settings c.before c.input) 45 _ q.1 in
      let s = given_by (apart c.before c.input) 44 _ r.1 in
      let sum = addable p.0 q.0 r.0 s.0 in
      sum ∙ ap given (sym (a_sum sum).sheet)
