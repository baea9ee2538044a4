-- Why a move is refused: nine causes, looked at one after the other. The number of the first that holds is given.
use Rattle.std.specs.Prelude.{◌≡◌, Bool, true, false, List, [], ◌∷◌, ◌++◌, ℕ, eqb, leb, length, get_or}
use Rattle.base.specs.Answer.{Answer, given, unless}
use Rattle.card.specs.Card.{code_of}
use Rattle.board.specs.Table.{Table}
use Rattle.board.specs.Verdict.{Verdict, fine, after}
use Rattle.runs.specs.Run.{is_run}
use Rattle.moves.specs.Move.{from, to, count, card}
use Rattle.moves.specs.Play.{there, hand, after_move, elsewhere, within_limit, fits_column, cell_free, next_home}
use Rattle.moves.specs.declared.Move.{Move}

pub data Cause : Type 0 where
  own_column source_empty too_many other_card over_limit no_run no_fit cell_full not_next : Cause

-- the order in which they are looked at
unfoldable pub causes : List Cause
causes = own_column ∷ source_empty ∷ too_many ∷ other_card ∷ over_limit ∷ no_run ∷ no_fit ∷ cell_full ∷ not_next ∷ []

-- SCOPE.md's number of each
abbrev pub cause_number : Cause → ℕ
cause_number own_column = 30
cause_number source_empty = 33
cause_number too_many = 35
cause_number other_card = 34
cause_number over_limit = 36
cause_number no_run = 37
cause_number no_fit = 38
cause_number cell_full = 39
cause_number not_next = 40

-- a cause does not hold: the move goes elsewhere; a card lies at its source; no fewer cards than it takes; the deepest of them is the
-- named one; they are within the limit; they are a run; the column takes them; the cell is free; the card is next on its foundation
unfoldable pub passes : Table → Move → Cause → Bool
passes t m own_column = elsewhere (from m) (to m)
passes t m source_empty = leb 1 (length (there t (from m)))
passes t m too_many = leb (count m) (length (there t (from m)))
passes t m other_card = eqb (get_or (hand t m) 0 0) (code_of (card m))
passes t m over_limit = within_limit t (from m) (to m) (count m)
passes t m no_run = is_run (hand t m)
passes t m no_fit = fits_column t (to m) (code_of (card m))
passes t m cell_full = cell_free t (to m)
passes t m not_next = next_home t (to m) (code_of (card m))

-- the first of some causes that holds, by its number; fine if none does
unfoldable pub first_of : Table → Move → List Cause → Verdict
first_of t m [] = fine
first_of t m (c ∷ cs) = unless (passes t m c) (cause_number c) (first_of t m cs)

-- what is said of a move
unfoldable pub ruling : Table → Move → Verdict
ruling t m = first_of t m causes

-- the number of the first cause that holds, or the table after the move
unfoldable pub played : Table → Move → Answer Table
played t m = after (ruling t m) (given (after_move t m))

-- ---- "exactly when its cause holds and none earlier does"

-- none of some causes holds
abbrev pub Pass : Table → Move → List Cause → Type 0
Pass t m [] = Unit {0}
Pass t m (c ∷ cs) = (passes t m c ≡ true) × Pass t m cs

-- cause c holds, and none of those before it in the order does
pub record First (t : Table) (m : Move) (c : Cause) : Type 0 where
  pub earlier : List Cause
  pub later : List Cause
  pub order : causes ≡ earlier ++ (c ∷ later)
  pub passed : Pass t m earlier
  pub holds : passes t m c ≡ false
