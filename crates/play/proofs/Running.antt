-- Deciding a run from column to column, test by test, on a record.
use mathlib.Core.Path.{◌≡◌, refl, sym, ap, ◌∙◌}
use mathlib.Core.Bool.{Bool, true, not, ◌&&◌}
use mathlib.Core.List.{List}
use Prim.Native.Nat.{ℕ, ◌+◌, ◌-◌, ◌*◌, ◌<◌, ◌≤◌}
use native.Mathlib.Omega.{arith}
use borrow.Author.Tests.{eq-eqb, ne_eqb, le-leb, lt-leb, ltb-true}
use lib.Dec.{eqb, leb}
use lib.ListN.{length, get_or}
use lib.Seq.{get_or-drop}
use Rattle.base.specs.Words.{listed}
use Rattle.base.specs.Answer.{refused, unless}
use Rattle.card.specs.Card.{code_of}
use Rattle.card.specs.declared.Card.{Card}
use Rattle.board.specs.Verdict.{Verdict, fine}
use Rattle.board.specs.Record.{column_at, shown, room}
use Rattle.board.specs.Inner.{Sound}
use Rattle.board.specs.declared.Board.{Board}
use Rattle.board.proofs.Soundness.{column_code}
use Rattle.questions.proofs.Asking.{shown_column, shown_columns, shown_cells}
use Rattle.rules.specs.Fit.{fits_on}
use Rattle.runs.specs.Run.{is_run, run_length}
use Rattle.rules.specs.Limit.{most_moved}
use Rattle.rules.proofs.Laying.{run_top}
use Rattle.moves.specs.Move.{sayable}
use Rattle.moves.specs.declared.Place.TheVariants.{Column as column}
use Rattle.moves.specs.Play.{there, last_of, hand, takes, allowed}
use Rattle.moves.specs.declared.Move.{Move}
use Rattle.moves.specs.declared.Move.TheVariants.{TableauToTableau}
use Rattle.moves.proofs.Records.{said_from, said_to, said_count}
use Rattle.moves.specs.Causes.{ruling}
use Rattle.moves.specs.Inner.{landing}
use Rattle.moves.proofs.Deciding.{others_decide}
use Rattle.moves.proofs.Ruling.{ruled_own, ruled_empty, ruled_many, ruled_other, ruled_rest}
use Rattle.play.proofs.Playing.{count-there}
use Rattle.play.proofs.Landing.{shown-takes_column, lands_column}

module _ (b : Board) (s d n : ℕ) (c : Card) (sound : Sound b) (said : sayable (TableauToTableau s d n c) ≡ true) where
  source : s < 8
  source = ltb-true s 8 (said_from (TableauToTableau s d n c) said)

  target : d < 8
  target = ltb-true d 8 (said_to (TableauToTableau s d n c) said)

  module _ (w : ℕ) (e : w ≡ get_or b.counts s 0) where
    lie : length (there (shown b) (column s)) ≡ w
    lie = count-there b sound.in_columns s source ∙ sym e

    -- the deepest card of the hand
    module _ (enough : n ≤ w) where
      pub deepest : get_or (hand (shown b) (TableauToTableau s d n c)) 0 0 ≡ get_or b.tableau (s * room + (w - n)) 0
      unfolding hand last_of
      deepest =
          let l = lie in
          let one = said_count (TableauToTableau s d n c) said in
          get_or-drop (length (there (shown b) (column s)) - n) (there (shown b) (column s)) 0 0
          ∙ ap (λ (k : ℕ). get_or (there (shown b) (column s)) k 0) (let q : length (there (shown b) (column s)) - n + 0 ≡ w - n = omega arith in q)
          ∙ ap (λ (col : List ℕ). get_or col (w - n) 0) (sym (shown_column b s source))
          ∙ column_code b.counts b.tableau s (w - n) (omega arith)

      module _ (other : s ≡ d → ⊥) {x : ℕ} (code : x ≡ code_of c) (named : get_or b.tableau (s * room + (w - n)) 0 ≡ x) where
        rest : allowed (shown b) (TableauToTableau s d n c)
            ≡ (leb n (most_moved (shown b).cells (shown b).columns d)
            && (is_run (hand (shown b) (TableauToTableau s d n c)) && takes (shown b) (column d) (code_of c)))
        rest =
            let l = lie in
            let one = said_count (TableauToTableau s d n c) said in
            others_decide (shown b) (TableauToTableau s d n c) (ap not (ne_eqb s d other)) (omega arith) (omega arith) (deepest ∙ named ∙ code)

        most_is : {v : ℕ} → v ≡ most_moved b.cells (listed 8 (column_at b.counts b.tableau)) d → v ≡ most_moved (shown b).cells (shown b).columns d
        most_is q =
            q ∙ ap (λ (l : List ℕ). most_moved l (listed 8 (column_at b.counts b.tableau)) d) (shown_cells b)
            ∙ ap (λ (l : List (List ℕ)). most_moved (shown b).cells l d) (shown_columns b)

        run_is : is_run (hand (shown b) (TableauToTableau s d n c)) ≡ leb n (run_length (column_at b.counts b.tableau s))
        unfolding hand last_of
        run_is =
            let l = lie in
            let one = said_count (TableauToTableau s d n c) said in
            run_top (there (shown b) (column s)) (length (there (shown b) (column s)) - n) (omega arith)
            ∙ ap (λ (k : ℕ). leb k (run_length (there (shown b) (column s))))
            (let q : length (there (shown b) (column s)) - (length (there (shown b) (column s)) - n) ≡ n = omega arith in q)
            ∙ ap (λ (col : List ℕ). leb n (run_length col)) (sym (shown_column b s source))

        pub run_decides : {v u : ℕ} {r : Bool} → v ≡ most_moved b.cells (listed 8 (column_at b.counts b.tableau)) d → n ≤ v
            → u ≡ run_length (column_at b.counts b.tableau s) → n ≤ u
            → r ≡ fits_on (column_at b.counts b.tableau d) x → r ≡ allowed (shown b) (TableauToTableau s d n c)
        run_decides {v} {u} {r} p h q k f =
            shown-takes_column b d target f code
            ∙ sym (rest ∙ rw (
              le-leb n (most_moved (shown b).cells (shown b).columns d) (let m = most_is p in omega arith),
              run_is ∙ le-leb n (run_length (column_at b.counts b.tableau s)) (omega arith),
            ))

-- ---- why it is refused, cause by cause

module _ (b : Board) (s d n : ℕ) (c : Card) (sound : Sound b) (said : sayable (TableauToTableau s d n c) ≡ true) where
  abbrev run : Move
  run = TableauToTableau s d n c

  pub own_column_lem : s ≡ d → refused 30 ≡ ruling (shown b) run
  own_column_lem q = sym (ruled_own (shown b) run (ap not (eq-eqb s d q)))

  module _ (other : s ≡ d → ⊥) (w : ℕ) (e : w ≡ get_or b.counts s 0) where
    abbrev away : not (eqb s d) ≡ true
    away = ap not (ne_eqb s d other)

    pub none_lie : w ≡ 0 → refused 33 ≡ ruling (shown b) run
    none_lie z = sym (ruled_empty (shown b) run away (let l = lie b s d n c sound said w e in omega arith))

    module _ (some : w ≡ 0 → ⊥) where
      lies : 1 ≤ length (there (shown b) (column s))
      lies = let l = lie b s d n c sound said w e in omega arith

      pub too_many_lem : w < n → refused 35 ≡ ruling (shown b) run
      too_many_lem h = sym (ruled_many (shown b) run away lies (let l = lie b s d n c sound said w e in omega arith))

      module _ (enough : n ≤ w) where
        in_reach : n ≤ length (there (shown b) (column s))
        in_reach = let l = lie b s d n c sound said w e in omega arith

        abbrev there_lies : get_or (hand (shown b) run) 0 0 ≡ get_or b.tableau (s * room + (w - n)) 0
        there_lies = deepest b s d n c sound said w e enough

        pub other_card_lem : {x : ℕ} → x ≡ code_of c → (get_or b.tableau (s * room + (w - n)) 0 ≡ x → ⊥) → refused 34 ≡ ruling (shown b) run
        other_card_lem q f = sym (ruled_other (shown b) run away lies in_reach (λ z. f (sym there_lies ∙ z ∙ sym q)))

        module _ {x : ℕ} (code : x ≡ code_of c) (named : get_or b.tableau (s * room + (w - n)) 0 ≡ x) where
          others : ruling (shown b) run
              ≡ unless (leb n (most_moved (shown b).cells (shown b).columns d)) 36 (unless (is_run (hand (shown b) run)) 37 (landing (shown b) (column d) (code_of c)))
          others = ruled_rest (shown b) run away lies in_reach (there_lies ∙ named ∙ code)

          module _ {v : ℕ} (most : v ≡ most_moved b.cells (listed 8 (column_at b.counts b.tableau)) d) where
            abbrev the_most : v ≡ most_moved (shown b).cells (shown b).columns d
            the_most = most_is b s d n c sound said w e enough other code named most

            pub over_limit_lem : v < n → refused 36 ≡ ruling (shown b) run
            over_limit_lem h =
                sym (others ∙ ap (λ (ok : Bool). unless ok 36 (unless (is_run (hand (shown b) run)) 37 (landing (shown b) (column d) (code_of c))))
                (lt-leb n (most_moved (shown b).cells (shown b).columns d) (let m = the_most in omega arith)))

            module _ (within : n ≤ v) {u : ℕ} (long : u ≡ run_length (column_at b.counts b.tableau s)) where
              abbrev the_run : is_run (hand (shown b) run) ≡ leb n (run_length (column_at b.counts b.tableau s))
              the_run = run_is b s d n c sound said w e enough other code named

              after_limit : ruling (shown b) run ≡ unless (is_run (hand (shown b) run)) 37 (landing (shown b) (column d) (code_of c))
              after_limit =
                  others ∙ ap (λ (ok : Bool). unless ok 36 (unless (is_run (hand (shown b) run)) 37 (landing (shown b) (column d) (code_of c))))
                  (le-leb n (most_moved (shown b).cells (shown b).columns d) (let m = the_most in omega arith))

              pub no_run_lem : u < n → refused 37 ≡ ruling (shown b) run
              no_run_lem h =
                  sym (after_limit ∙ ap (λ (ok : Bool). unless ok 37 (landing (shown b) (column d) (code_of c)))
                  (the_run ∙ lt-leb n (run_length (column_at b.counts b.tableau s)) (omega arith)))

              pub run_lands : n ≤ u → {ok : Bool} {r : Verdict} → ok ≡ fits_on (column_at b.counts b.tableau d) x → r ≡ unless ok 38 fine → r ≡ ruling (shown b) run
              run_lands h fit q =
                  lands_column b (code_of c) d refl (target b s d n c sound said) (fit ∙ ap (fits_on (column_at b.counts b.tableau d)) code) q
                  ∙ sym (after_limit ∙ ap (λ (ok : Bool). unless ok 37 (landing (shown b) (column d) (code_of c)))
                  (the_run ∙ le-leb n (run_length (column_at b.counts b.tableau s)) (omega arith)))
