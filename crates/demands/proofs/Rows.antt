-- The definitions, test by test: each answer is that of the tests that the table of orders has for it.
use mathlib.Core.Path.{◌≡◌, refl, ap, ◌∙◌}
use mathlib.Core.Bool.{Bool, true, false, cond, ◌&&◌, ◌||◌}
use mathlib.Core.List.{List, [], ◌∷◌}
use Prim.Native.Nat.{ℕ, zero, suc}
use lib.Dec.{eqb, leb}
use lib.ListN.{length, take, drop}
use Rattle.base.specs.Answer.{Answer, given, refused, unless}
use Rattle.base.specs.Words.{all}
use Rattle.card.specs.Card.{is_card}
use Rattle.board.specs.Table.{Table}
use Rattle.board.specs.Verdict.{Verdict, fine, after, none_twice, verdict_on}
use Rattle.board.specs.Record.{at_most, shown, board_of}
use Rattle.board.specs.declared.Board.{Board}
use Rattle.intake.specs.Image.{framed, versioned, joining, columns_in, verdict_with, bodied, image_read}
use Rattle.intake.specs.Deal.{dealt, deal_asked}
use Rattle.moves.specs.Record.{possible, move_of, move_asked}
use Rattle.moves.specs.Play.{after_move}
use Rattle.moves.specs.Causes.{Cause, causes, cause_number, passes, first_of, ruling, played}
use Rattle.moves.specs.declared.Move.{Move}
use Rattle.replay.specs.Step.{recorded, played_on, stepped}
use Rattle.generate.specs.Found.{found}
use Rattle.generate.specs.declared.Way.{Way}
use Rattle.generate.specs.declared.Way.TheVariants.{ColumnToColumn, ColumnToHome, ColumnToCell, CellToColumn, CellToHome, HomeToColumn}
use Rattle.priority.specs.Priority.{priority_on}
use Rattle.priority.specs.Asked.{priority_by}
use Rattle.crossing.specs.Lists.{way_asked, found_by}
use Rattle.demands.specs.Orders.{first_failing, cards, is_kind, against, one_move, columns_end, columns_of, table_of, body_tests}
use Rattle.demands.proofs.Ordering.{By, untested, tested}

-- ---- an image

one_more_lem : (ok ends : Bool) (column : List ℕ) (columns : List (List ℕ))
    → unless ok 12 (joining column (unless ends 12 (given columns))) ≡ unless (ok && ends) 12 (given (column ∷ columns))
unfolding joining
one_more_lem true true column columns = refl
one_more_lem true false column columns = refl
one_more_lem false ends column columns = refl

columns_by : (n : ℕ) (bytes : List ℕ) → columns_in n bytes ≡ unless (columns_end n bytes) 12 (given (columns_of n bytes))
unfolding columns_in columns_end columns_of
columns_by zero [] = refl
columns_by zero (x ∷ rest) = refl
columns_by (suc n) [] = refl
columns_by (suc n) (count ∷ rest) =
    ap (λ (a : Answer (List (List ℕ))). unless (leb count (length rest)) 12 (joining (take count rest) a)) (columns_by n (drop count rest))
    ∙ one_more_lem (leb count (length rest)) (columns_end n (drop count rest)) (take count rest) (columns_of n (drop count rest))

module _ (body : List ℕ) where
  abbrev t : Table
  t = table_of body

  table_by_lem : By (verdict_with t.cells t.foundation (columns_in 8 (drop 8 body))) ((columns_end 8 (drop 8 body), 12) ∷ cards t) (board_of t)
  unfolding verdict_with verdict_on
  table_by_lem = record { is = ap (verdict_with t.cells t.foundation) (columns_by 8 (drop 8 body)) ∙ on (columns_end 8 (drop 8 body)) }
    where
      on : (ends : Bool) → verdict_with t.cells t.foundation (unless ends 12 (given t.columns))
          ≡ after (unless ends 12 (first_failing (cards t))) (given (board_of t))
      on true = refl
      on false = refl

  body_by : By (bodied body) (body_tests body) (board_of t)
  unfolding bodied
  body_by = tested (leb 8 (length body)) 12 (tested (all (at_most 13) t.foundation) 12 table_by_lem)

pub image_by : (image : List ℕ) → By (image_read image) ((framed image, 10) ∷ (versioned image, 11) ∷ body_tests (drop 3 image)) (board_of (table_of (drop 3 image)))
unfolding image_read
image_by image = tested (framed image) 10 (tested (versioned image) 11 (body_by (drop 3 image)))

-- ---- a deck

pub deck_by : (deck : List ℕ) → By (deal_asked deck) ((eqb (length deck) 52, 16) ∷ (all is_card deck, 13) ∷ (none_twice deck, 14) ∷ []) (board_of (dealt deck))
unfolding deal_asked
deck_by deck = tested (eqb (length deck) 52) 16 (tested (all is_card deck) 13 (tested (none_twice deck) 14 (untested (board_of (dealt deck)))))

-- ---- a move

module _ (t : Table) (m : Move) where
  ruled_by : (ws : List Cause) → first_of t m ws ≡ first_failing (against t m ws)
  unfolding first_of
  ruled_by [] = refl
  ruled_by (w ∷ ws) = ap (λ (v : Verdict). unless (passes t m w) (cause_number w) v) (ruled_by ws)

  pub ruling_by : ruling t m ≡ first_failing (against t m causes)
  unfolding ruling
  ruling_by = ruled_by causes

pub step_by : (b : Board) (bytes : List ℕ) → By (stepped b bytes) (one_move (shown b) bytes) (board_of (after_move (shown b) (move_of bytes)))
unfolding stepped move_asked played
step_by b bytes = record { is = on (possible bytes) }
  where
    made : (v : Verdict) → recorded (after v (given (after_move (shown b) (move_of bytes)))) ≡ after v (given (board_of (after_move (shown b) (move_of bytes))))
    made (given u) = refl
    made (refused n) = refl

    on : (ok : Bool) → played_on b (unless ok 30 (given (move_of bytes)))
        ≡ after (unless ok 30 (first_failing (against (shown b) (move_of bytes) causes))) (given (board_of (after_move (shown b) (move_of bytes))))
    on true =
        made (ruling (shown b) (move_of bytes))
        ∙ ap (λ (v : Verdict). after v (given (board_of (after_move (shown b) (move_of bytes))))) (ruling_by (shown b) (move_of bytes))
    on false = refl

pub priority_by_lem : (t : Table) (bytes : List ℕ) → By (priority_by t (move_asked bytes)) (one_move t bytes) (priority_on t (move_of bytes))
unfolding move_asked
priority_by_lem t bytes = record { is = on (possible bytes) }
  where
    on : (ok : Bool) → priority_by t (unless ok 30 (given (move_of bytes)))
        ≡ after (unless ok 30 (first_failing (against t (move_of bytes) causes))) (given (priority_on t (move_of bytes)))
    on true = ap (λ (v : Verdict). after v (given (priority_on t (move_of bytes)))) (ruling_by t (move_of bytes))
    on false = refl

-- ---- the moves of a kind

abbrev pub way_at : ℕ → Way
way_at kind =
    cond (eqb kind 1) ColumnToColumn
    (cond (eqb kind 2) ColumnToHome (cond (eqb kind 3) ColumnToCell (cond (eqb kind 4) CellToColumn (cond (eqb kind 5) CellToHome HomeToColumn))))

pub way_by : (t : Table) (kind : ℕ) → By (found_by t (way_asked kind)) ((is_kind kind, 30) ∷ []) (found t (way_at kind))
unfolding way_asked
way_by t kind = record { is = on (eqb kind 1) (eqb kind 2) (eqb kind 3) (eqb kind 4) (eqb kind 5) (eqb kind 6) }
  where
    on : (a b c d e f : Bool)
        → found_by t (cond a (given ColumnToColumn) (cond b (given ColumnToHome) (cond c (given ColumnToCell) (cond d (given CellToColumn) (cond e (given CellToHome) (cond f (given HomeToColumn) (refused 30)))))))
        ≡ after (unless (a || (b || (c || (d || (e || f))))) 30 fine) (given (found t (cond a ColumnToColumn (cond b ColumnToHome (cond c ColumnToCell (cond d CellToColumn (cond e CellToHome HomeToColumn)))))))
    on true b c d e f = refl
    on false true c d e f = refl
    on false false true d e f = refl
    on false false false true e f = refl
    on false false false false true f = refl
    on false false false false false true = refl
    on false false false false false false = refl
