-- Request (vi) holds: sheets over runs of hands, and their sums.
use mathlib.Core.Path.{◌≡◌, refl, sym, ap, ap₂, ◌∙◌}
use mathlib.Core.Bool.{Bool, true, false, ◌&&◌, ◌||◌}
use mathlib.Core.List.{List}
use mathlib.Core.Logic.{◌⊎◌, inl, inr}
use Prim.Native.Nat.{ℕ, suc, ◌+◌, ◌<◌, ◌≤◌}
use native.Mathlib.Omega.{arith}
use lib.ListN.{length}
use Rattle.base.specs.Answer.{Answer, given, refused}
use Rattle.base.proofs.Words.{not_so, first_fails, second_fails}
use Rattle.intake.specs.Number.{is_number}
use Rattle.solver.proofs.Calls.{gives, answered-accepted}
use Rattle.sheets.specs.declared.Side.{Side}
use Rattle.sheets.specs.Figures.{told, mark_list, mark_deal}
use Rattle.sheets.specs.Over.{Settings}
use Rattle.sheets.specs.Good.{covered, wins, good_sheet}
use Rattle.sheets.specs.Adding.{same_settings, apart, added, add_asked}
use Rattle.sheets.proofs.Goodness.{good_is, mark_none}
use Rattle.sheets.proofs.Adding.{sum_good, add_comm, add_assoc, overs_asked}
use Rattle.season.specs.Season.{result_of, season_asked}
use Rattle.season.proofs.Answers.{result_found, each-answered}
use Rattle.season.proofs.Accepting.{no_first, over_budget, no_sheet, no_node}
use Rattle.season.proofs.Seasons.{season_good, season_empty, season_covers, season_parts, seasons_agree}
use Rattle.crossing.specs.Numbers.{flag, is_answer}
use Rattle.crossing.specs.Wire.{board_in}
use Rattle.corbelnib.specs.Calls.{number, judge, season, add, Call}
use Rattle.demands.specs.HandsByNumber.{dealt_by}
use Rattle.demands.specs.BadSheet.{Bad}
use Rattle.demands.specs.SeasonsFigures.{sheet_by, settings, run_of, figures, settings_of, Adds, Sum, Fine, SeasonsFigures}
use Rattle.demands.proofs.Searching.{searching, same_number, answered}
use Rattle.demands.proofs.HandsByNumber.{is_number_lem, enough, hands_by_number}
use Rattle.demands.proofs.BadSheet.{good_not_bad, not_bad_good, not_good_bad}
use Rattle.demands.proofs.Seasons.{refused_with_lem, run_done, run_sheet, done_asked, no_sum, a_sum, sum-asked}

-- ---- one deal

as_judged_lem : (d : Call number) (j : Call judge) → d.number ≡ 0 → j.input.board ≡ dealt_by d → is_answer j.number ≡ true
    → result_of (settings_of j) d.input ≡ record { answer = j.number; pops = j.after.pops; moves = j.after.moves }
unfolding searching
as_judged_lem d j done same a =
    let s = searching j (dealt_by d) same a in
    let g = gives s (answered-accepted s (answered j (dealt_by d) same a)) in
    let table = (hands_by_number.deals d (is_number_lem d done) (enough d done)).1 in
    sym (result_found (settings_of j) d.input (board_in (dealt_by d)) table (sym (same_number j (dealt_by d) same a) ∙ g.number) g.pops g.moves)

-- ---- a season

module _ (c : Call season) (done : c.number ≡ 0) where
  pub sheet_good : good_sheet (sheet_by c) ≡ true
  sheet_good = season_good c.input.first c.input.last (settings c) (length c.before.sheet) (sheet_by c) (done_asked c done)

  marks_absent : wins (sheet_by c) ≡ 0 → (e : Side) → (told (sheet_by c) (mark_list e) ≡ 0) × (told (sheet_by c) (mark_deal e) ≡ 0)
  marks_absent none e = let u = mark_none e (sheet_by c) ((good_is (sheet_by c) sheet_good).marks e) none in (u.list, u.deal)

  covers_run_lem : (n : ℕ) → n < 32000 → covered (sheet_by c) (suc n) ≡ run_of c (suc n)
  covers_run_lem = season_covers c.input.first c.input.last (settings c) (length c.before.sheet) (sheet_by c) (done_asked c done)

-- at settings that have another name
asked_at : (c : Call season) (s : Settings) → settings c ≡ s → c.number ≡ 0 → season_asked c.input.first c.input.last s (length c.before.sheet) ≡ given (sheet_by c)
asked_at c s e done =
    ap (λ (x : Settings). season_asked c.input.first c.input.last x (length c.before.sheet)) (sym e) ∙ done_asked c done

-- ---- sums

adds_to : (a : Call add) {x y z : List ℕ} → Adds a x y → add_asked x y ≡ given z → Sum a z
adds_to a h e = a_sum a (ap₂ add_asked h.into h.other ∙ e)

both_added : (s : Settings) (p q : ℕ → Bool) (a : Call add) → s.budget ≤ 1000000 → ((n : ℕ) → n < 32000 → (p (suc n) && q (suc n)) ≡ false)
    → Adds a (figures s p) (figures s q) → Sum a (figures s (λ n. p n || q n))
both_added s p q a low none h =
    adds_to a h (overs_asked s (result_of s) low p q none (λ i l t. each-answered s (suc i)) (λ i l t. each-answered s (suc i)))

in_parts : (x y z : Call season) (a : Call add) → x.number ≡ 0 → y.number ≡ 0 → z.number ≡ 0 → settings x ≡ settings z → settings y ≡ settings z
    → x.input.first ≡ z.input.first → y.input.last ≡ z.input.last → y.input.first ≡ x.input.last + 1
    → z.input.first ≤ x.input.last + 1 → x.input.last ≤ z.input.last → Adds a (sheet_by x) (sheet_by y) → Sum a (sheet_by z)
in_parts x y z a p q r s t begin end next low high h =
    adds_to a h
    (season_parts z.input.first x.input.last z.input.last (settings z) (length x.before.sheet) (length y.before.sheet) (length z.before.sheet)
    (sheet_by x) (sheet_by y) (sheet_by z) low high
    (ap (λ (n : ℕ). season_asked n x.input.last (settings z) (length x.before.sheet)) (sym begin) ∙ asked_at x (settings z) s p)
    (ap₂ (λ (n m : ℕ). season_asked n m (settings z) (length y.before.sheet)) (sym next) (sym end) ∙ asked_at y (settings z) t q)
    (done_asked z r))

module _ (a b : Call add) (h : Adds b a.input a.before) where
  turned : add_asked a.before a.input ≡ add_asked b.before b.input
  turned = add_comm a.before a.input ∙ ap₂ add_asked (sym h.into) (sym h.other)

  same_number_told : a.number ≡ b.number
  same_number_told = by (add_asked b.before b.input) refl
    where
      by : (x : Answer (List ℕ)) → add_asked b.before b.input ≡ x → a.number ≡ b.number
      by (given x) e = (a_sum a (turned ∙ e)).done ∙ sym (a_sum b e).done
      by (refused n) e = no_sum a (turned ∙ e) ∙ sym (no_sum b e)

  same_sum : a.number ≡ 0 → a.after ≡ b.after
  same_sum e =
      let p = sum-asked a e in
      let q = sum-asked b (sym same_number_told ∙ e) in
      let t = turned in
      cc

any_order_lem : (ab abc bc a-bc : Call add) → ab.number ≡ 0 → abc.number ≡ 0 → Adds abc ab.after abc.input → Adds bc ab.input abc.input
    → Adds a-bc ab.before bc.after → (bc.number ≡ 0) × Sum a-bc abc.after
any_order_lem ab abc bc a-bc p q h k l =
    let one = sum-asked ab p in
    let two = ap (λ (x : List ℕ). add_asked x abc.input) (sym h.into) ∙ sum-asked abc q in
    let r = add_assoc ab.before ab.input abc.input ab.after abc.after one two in
    let s = adds_to bc k r.0 in
    (s.done, adds_to a-bc l (ap (λ (x : List ℕ). add_asked ab.before x) s.sheet ∙ r.1))

-- ---- refusals

module _ (a : Call add) where
  abbrev into_good : Bool
  into_good = good_sheet a.before

  abbrev other_good : Bool
  other_good = good_sheet a.input

  is_bad : (into_good && other_good) ≡ false → a.number ≡ 47
  unfolding add_asked
  is_bad e = no_sum a (rw e)

  breaks : Bad a.before ⊎ Bad a.input → a.number ≡ 47
  breaks (inl b) = is_bad (first_fails into_good other_good (not_so into_good (λ t. good_not_bad a.before t b)))
  breaks (inr b) = is_bad (second_fails into_good other_good (not_so other_good (λ t. good_not_bad a.input t b)))

  module _ (p : into_good ≡ true) (q : other_good ≡ true) where
    is_unequal : same_settings a.before a.input ≡ false → a.number ≡ 45
    unfolding add_asked
    is_unequal e = no_sum a (rw (p, q, e))

    module _ (r : same_settings a.before a.input ≡ true) where
      is_common : apart a.before a.input ≡ false → a.number ≡ 44
      unfolding add_asked
      is_common e = no_sum a (rw (p, q, r, e))

      is_added : apart a.before a.input ≡ true → a.number ≡ 0
      unfolding add_asked
      is_added e = (a_sum a {x = added a.before a.input} (rw (p, q, r, e))).done

  -- 47 with two good sheets would be 45, 44 or 0
  only_breaks : a.number ≡ 47 → Bad a.before ⊎ Bad a.input
  only_breaks e = by_good into_good refl other_good refl
    where
      never : (n : ℕ) → n < 47 → a.number ≡ n → Bad a.before ⊎ Bad a.input
      never n l f = absurd (let w : ⊥ = omega arith in w)

      by_last : into_good ≡ true → other_good ≡ true → (s t : Bool) → same_settings a.before a.input ≡ s → apart a.before a.input ≡ t
          → Bad a.before ⊎ Bad a.input
      by_last p q false t u v = never 45 (omega arith) (is_unequal p q u)
      by_last p q true false u v = never 44 (omega arith) (is_common p q u v)
      by_last p q true true u v = never 0 (omega arith) (is_added p q u v)

      by_good : (s : Bool) → into_good ≡ s → (t : Bool) → other_good ≡ t → Bad a.before ⊎ Bad a.input
      by_good false u t v = inl (not_good_bad a.before u)
      by_good true u false v = inr (not_good_bad a.input v)
      by_good true u true v = by_last u v (same_settings a.before a.input) (apart a.before a.input) refl refl

  module _ (f : Fine a) where
    one_good : into_good ≡ true
    one_good = not_bad_good a.before f.into

    two_good : other_good ≡ true
    two_good = not_bad_good a.input f.other

no_end_lem : (c : Call season) → is_number c.input.last ≡ false → c.number ≡ 41
unfolding season_asked
no_end_lem c e = refused_with_lem c (rw (second_fails (is_number c.input.first) (is_number c.input.last) e))

pub seasons_figures : SeasonsFigures
seasons_figures =
    record {
      judges = λ c g. (run_done c g, run_sheet c g);
      as_judged = as_judged_lem;
      absent = marks_absent;
      covers_run = covers_run_lem;
      sums = both_added;
      parts = in_parts;
      either_way = λ a b h. (same_number_told a b h, same_sum a b h);
      any_order = any_order_lem;
      empty = λ c g. season_empty c.input.first c.input.last (settings c) (length c.before.sheet) (sheet_by c) (done_asked c (run_done c g));
      no_begin = λ c e. refused_with_lem c (no_first c.input.first c.input.last c.input.budget (settings c).capacity (length c.before.sheet) e (flag c.input.partial));
      no_end = no_end_lem;
      dear = λ c p q h. refused_with_lem c (over_budget c.input.first c.input.last c.input.budget (settings c).capacity (length c.before.sheet) p q h (flag c.input.partial));
      narrow = λ c p q h k. refused_with_lem c (no_sheet c.input.first c.input.last c.input.budget (settings c).capacity (length c.before.sheet) p q h k (flag c.input.partial));
      rootless = λ c p q h k l. refused_with_lem c (no_node c.input.first c.input.last c.input.budget (settings c).capacity (length c.before.sheet) p q h k l (flag c.input.partial));
      bad = breaks;
      only_bad = only_breaks;
      unequal = λ a f. is_unequal a (one_good a f) (two_good a f);
      common = λ a f. is_common a (one_good a f) (two_good a f);
      accepted = λ a f. is_added a (one_good a f) (two_good a f);
      good = λ c e. good_not_bad (sheet_by c) (sheet_good c e);
      good_sum = λ a e. good_not_bad a.after (sum_good a.before a.input a.after (sum-asked a e));
      two_masters = λ x y p q b e s.
          seasons_agree x.input.first x.input.last (settings x) (length x.before.sheet) (length y.before.sheet) (sheet_by x) (sheet_by y) (done_asked x p)
          (ap₂ (λ (n m : ℕ). season_asked n m (settings x) (length y.before.sheet)) b e ∙ asked_at y (settings x) (sym s) q);
    }
