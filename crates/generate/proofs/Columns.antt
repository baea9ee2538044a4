-- Runs from column to column: allowed no further than the run and the limit reach, and there decided by the fit.
use mathlib.Core.Path.{◌≡◌, refl, sym, ap, ◌∙◌, subst}
use mathlib.Core.Bool.{Bool, true, false, cond, not}
use mathlib.Core.List.{List, [], ◌∷◌}
use Prim.Native.Nat.{ℕ, suc, min, ◌+◌, ◌-◌, ◌*◌, ◌<◌, ◌≤◌}
use native.Mathlib.Numerals.{add-one}
use native.Mathlib.Omega.{arith}
use borrow.Author.Tests.{eq-eqb, leb-true}
use lib.ListN.{length, get_or}
use Rattle.base.specs.Words.{all, listed}
use Rattle.card.specs.Card.{is_card, card_of}
use Rattle.card.specs.declared.Card.{Card}
use Rattle.base.proofs.Words.{not_so}
use Rattle.card.proofs.Codes.{code_card, value_of_card}
use Rattle.board.specs.Table.{Table}
use Rattle.board.specs.Record.{column_at, shown, room}
use Rattle.board.specs.Inner.{Sound}
use Rattle.board.specs.declared.Board.{Board}
use Rattle.board.proofs.Soundness.{column_length, column_code}
use Rattle.questions.proofs.Asking.{shown_column}
use Rattle.rules.specs.Fit.{fits_on}
use Rattle.runs.specs.Follows.{follows}
use Rattle.runs.specs.Run.{run_length}
use Rattle.rules.specs.Limit.{most_moved}
use Rattle.rules.specs.Inner.{top_value}
use Rattle.rules.proofs.Laying.{fits_top, run_top, run_at_most, run_13}
use Rattle.rules.proofs.Lengths.{under, only_length}
use Rattle.moves.specs.Move.{sayable}
use Rattle.moves.specs.declared.Place.TheVariants.{Column as column}
use Rattle.moves.specs.Play.{there, last_of, hand, allowed}
use Rattle.moves.specs.declared.Move.{Move}
use Rattle.moves.specs.declared.Move.TheVariants.{TableauToTableau}
use Rattle.moves.proofs.Allowing.{allowed_is}
use Rattle.moves.proofs.Deciding.{deny_away}
use Rattle.play.proofs.Running.{deepest, run_decides}
use Rattle.generate.specs.Found.{offered, if_allowed, gather, found_between}
use Rattle.generate.specs.Inner.{Reaches, tried_run, Between}
use Rattle.generate.specs.declared.Way.TheVariants.{ColumnToColumn}
use Rattle.generate.proofs.Gathering.{gather_end, gather_nothing, gather_only}
use Rattle.generate.proofs.Places.{cards-there}
use Rattle.generate.proofs.Offering.{if_allowed_lem, said_way}

-- ---- any table

pub record Within (t : Table) (s d n : ℕ) : Type 0 where
  pub run : n ≤ run_length (there t (column s))
  pub limit : n ≤ most_moved t.cells t.columns d

pub run_bounds : (t : Table) (s d n : ℕ) (c : Card) → 1 ≤ n → allowed t (TableauToTableau s d n c) ≡ true → Within t s d n
unfolding hand last_of
run_bounds t s d n c one e =
    let a = allowed_is t (TableauToTableau s d n c) e in
    let l = there t (column s) in
    let enough = a.enough in
    let r = leb-true (length l - (length l - n)) (run_length l) (sym (run_top l (length l - n) (omega arith)) ∙ a.run) in
    record { run = omega arith; limit = leb-true n (most_moved t.cells t.columns d) a.limit }

module _ (t : Table) (i j : ℕ) where
  pub own_column_lem : i ≡ j → found_between t ColumnToColumn i j ≡ []
  unfolding found_between offered
  own_column_lem q =
      gather_nothing (tried_run t i j) 13
      (λ k h. if_allowed_lem t (offered t ColumnToColumn i j (suc k)) false (deny_away t (offered t ColumnToColumn i j (suc k)) (ap not (eq-eqb i j q))))

  past : (k : ℕ) → min (run_length (there t (column i))) (most_moved t.cells t.columns j) ≤ k → tried_run t i j k ≡ []
  unfolding offered
  past k h =
      if_allowed_lem t (offered t ColumnToColumn i j (suc k)) false
      (not_so (allowed t (offered t ColumnToColumn i j (suc k)))
      (λ e. let b = run_bounds t i j (suc k) (card_of (get_or (last_of (suc k) (there t (column i))) 0 0)) (omega arith) e in let z : ⊥ = omega arith in z))

  -- no run has more than 13 cards, where there are only cards
  pub runs_end : all is_card (there t (column i)) ≡ true
      → found_between t ColumnToColumn i j ≡ gather (min (run_length (there t (column i))) (most_moved t.cells t.columns j)) (tried_run t i j)
  unfolding found_between
  runs_end cards =
      let most = run_13 (there t (column i)) cards in
      gather_end (tried_run t i j) (min (run_length (there t (column i))) (most_moved t.cells t.columns j)) 13 (omega arith) (λ k a b. past k a)

-- ---- a record

shown_most : (b : Board) (j : ℕ) → most_moved b.cells (listed 8 (column_at b.counts b.tableau)) j ≡ most_moved (shown b).cells (shown b).columns j
unfolding shown
shown_most b j = refl

module _ {b : Board} (sound : Sound b) (i j : ℕ) (hi : i < 8) where
  pub runs_of : {u v last : ℕ} → u ≡ run_length (column_at b.counts b.tableau i) → v ≡ most_moved b.cells (listed 8 (column_at b.counts b.tableau)) j
      → last ≡ min u v → found_between (shown b) ColumnToColumn i j ≡ gather last (tried_run (shown b) i j)
  runs_of {u} {v} {last} p q e =
      let s = p ∙ ap run_length (shown_column b i hi) in
      let m = q ∙ shown_most b j in
      runs_end (shown b) i j (cards-there sound ColumnToColumn i hi)
      ∙ ap (λ (n : ℕ). gather n (tried_run (shown b) i j)) (omega arith)

  pub runs-room : {u v last : ℕ} → u ≡ run_length (column_at b.counts b.tableau i) → v ≡ most_moved b.cells (listed 8 (column_at b.counts b.tableau)) j
      → last ≡ min u v → (n : ℕ) {lent : ℕ} → (n + length (found_between (shown b) ColumnToColumn i j)) * 5 ≤ lent → (n + length (gather last (tried_run (shown b) i j))) * 5 ≤ lent
  runs-room p q e n {lent} h = subst (λ (l : List Move). (n + length l) * 5 ≤ lent) (runs_of p q e) h

module _ {b : Board} {i j k : ℕ} (o : Reaches b i j k) where
  pub run_short : k < get_or b.counts i 0
  run_short =
      let l = column_length o.sound.in_columns i o.leaves in
      let r = run_at_most (column_at b.counts b.tableau i) in
      let h = o.run in
      omega arith

  module _ {w : ℕ} (e : w ≡ get_or b.counts i 0) where
    abbrev code : ℕ
    code = get_or b.tableau (i * room + (w - (k + 1))) 0

    pub run_there : k + 1 ≤ w
    run_there = let l = run_short in omega arith

    pub code_there : is_card code ≡ true
    code_there = let r = run_there in o.sound.in_columns.codes i (w - (k + 1)) o.leaves (omega arith)

    said : sayable (TableauToTableau i j (k + 1) (card_of code)) ≡ true
    said =
        let r = run_there in
        let l = o.sound.in_columns.within i o.leaves in
        said_way ColumnToColumn i j (k + 1) (card_of code) o.leaves o.goes (omega arith) (omega arith) (value_of_card code code_there)

    offered_is : offered (shown b) ColumnToColumn i j (suc k) ≡ TableauToTableau i j (k + 1) (card_of code)
    unfolding offered hand
    offered_is =
        ap (λ (n : ℕ). TableauToTableau i j n (card_of (get_or (last_of n (there (shown b) (column i))) 0 0))) (sym (add-one k))
        ∙ ap (λ (x : ℕ). TableauToTableau i j (k + 1) (card_of x)) (deepest b i j (k + 1) (card_of code) o.sound said w e run_there)

    pub run_said : {c : Card} → c ≡ card_of code → sayable (TableauToTableau i j (k + 1) c) ≡ true
    run_said q = subst (λ (c : Card). sayable (TableauToTableau i j (k + 1) c) ≡ true) (sym q) said

    pub run_found : {r s : Bool} → r ≡ fits_on (column_at b.counts b.tableau j) code → r ≡ s
        → tried_run (shown b) i j k ≡ cond s (TableauToTableau i j (k + 1) (card_of code) ∷ []) []
    run_found {r} {s} f q =
        let long = o.run in
        let few = o.limit in
        ap (if_allowed (shown b)) offered_is
        ∙ if_allowed_lem (shown b) (TableauToTableau i j (k + 1) (card_of code)) s
        (sym
        (run_decides b i j (k + 1) (card_of code) o.sound said w e run_there o.other (sym (code_card code code_there)) refl
        refl (omega arith) refl (omega arith) (sym q ∙ f)))

-- ---- onto an occupied column

pub reaches : {b : Board} {i j last : ℕ} → Between b i j last → (k : ℕ) → k < last → Reaches b i j k
reaches o k h =
    let r = o.run in
    let l = o.limit in
    record { sound = o.sound; leaves = o.leaves; goes = o.goes; other = o.other; run = omega arith; limit = omega arith }

module _ {b : Board} {i j last : ℕ} (o : Between b i j last) (occupied : 0 < get_or b.counts j 0) where
  abbrev from_column : List ℕ
  from_column = column_at b.counts b.tableau i

  abbrev onto : List ℕ
  onto = column_at b.counts b.tableau j

  -- a length that fits is the difference of the values on top
  pub fits_only : (k : ℕ) → k < last → (top_value onto ≡ top_value from_column + suc k → ⊥) → tried_run (shown b) i j k ≡ []
  unfolding top_value
  fits_only k h d =
      let z = reaches o k h in
      let w = run_short z in
      let long = column_length o.sound.in_columns i o.leaves in
      let deep = column_length o.sound.in_columns j o.goes in
      let run = z.run in
      let card = code z {w = get_or b.counts i 0} refl in
      let same : card ≡ under from_column (suc k) =
      sym (column_code b.counts b.tableau i (get_or b.counts i 0 - (k + 1)) (omega arith))
      ∙ ap (λ (n : ℕ). get_or from_column n 0) (let q : get_or b.counts i 0 - (k + 1) ≡ length from_column - suc k = omega arith in q) in
      run_found z {w = get_or b.counts i 0} refl refl
      (fits_top onto card (length onto - 1) (omega arith)
      ∙ not_so (follows (get_or onto (length onto - 1) 0) card)
      (λ e. d (only_length from_column (get_or onto (length onto - 1) 0) k run (subst (λ (x : ℕ). follows (get_or onto (length onto - 1) 0) x ≡ true) same e))))

  module _ {upper top : ℕ} (u : upper ≡ top_value onto) (t : top ≡ top_value from_column) where
    pub none_fits_lem : upper ≤ top → gather last (tried_run (shown b) i j) ≡ []
    none_fits_lem h = gather_nothing (tried_run (shown b) i j) last (λ k l. fits_only k l (λ q. let z : ⊥ = omega arith in z))

    pub too_far : last < upper - top → gather last (tried_run (shown b) i j) ≡ []
    too_far h = gather_nothing (tried_run (shown b) i j) last (λ k l. fits_only k l (λ q. let z : ⊥ = omega arith in z))

    pub only_run : top < upper → upper - top ≤ last → gather last (tried_run (shown b) i j) ≡ tried_run (shown b) i j (upper - top - 1)
    only_run h l =
        gather_only (tried_run (shown b) i j) last (upper - top - 1) (omega arith)
        (λ k m d. fits_only k m (λ q. d (let z : k ≡ upper - top - 1 = omega arith in z)))
