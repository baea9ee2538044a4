-- Moves written kind after kind: the room for the next, and all of them together.
use mathlib.Core.Path.{◌≡◌, sym, ap, ◌∙◌, subst}
use mathlib.Core.Bool.{Bool}
use mathlib.Core.List.{List, ◌++◌, append_assoc}
use Prim.Native.Nat.{ℕ, ◌+◌, ◌*◌, ◌≤◌}
use native.Mathlib.Omega.{arith}
use lib.ListN.{length, length-append}
use Rattle.board.specs.Table.{Table}
use Rattle.moves.specs.declared.Move.{Move}
use Rattle.generate.specs.Found.{found}
use Rattle.moves.specs.Written.{Adds}
use Rattle.generate.specs.declared.Way.TheVariants.{ColumnToColumn, ColumnToHome, ColumnToCell, CellToColumn, CellToHome, HomeToColumn}
use Rattle.moves.proofs.Writing.{adds_long, adds_more, adds_same}
use Rattle.generate.proofs.Sizes.{most_found_lem}
use Rattle.safe.specs.Safe.{chosen, is_safe, home_moves}
use Rattle.candidates.specs.Candidates.{worthwhile, late_moves, tried}
use Rattle.candidates.specs.Inner.{tried_room, moves_in}
use Rattle.candidates.proofs.Trying.{most_home, most_tried_lem}
use Rattle.candidates.proofs.Listing.{moves_written}

-- ---- two lists one after the other

module _ (ms ns : List Move) where
  pub first-room : (at lent : ℕ) → (at + length (ms ++ ns)) * 5 ≤ lent → (at + length ms) * 5 ≤ lent
  first-room at lent h = let l = length-append ms ns in omega arith

  module _ {old mid : List ℕ} {at k : ℕ} (room : (at + length (ms ++ ns)) * 5 ≤ length old) (a : Adds old mid at k ms) where
    pub next_room : (k + length ns) * 5 ≤ length mid
    next_room =
        let l = length-append ms ns in
        let m = adds_long (first-room at (length old) room) a in
        let q = a.many in
        omega arith

    pub adds_both : {new : List ℕ} {r : ℕ} → Adds mid new k r ns → Adds old new at r (ms ++ ns)
    adds_both b = adds_more (first-room at (length old) room) a b

-- ---- the moves home

pub home-room : (t : Table) (lent : ℕ) → 60 ≤ lent → (0 + length (found t ColumnToHome ++ found t CellToHome)) * 5 ≤ lent
unfolding home_moves
home-room t lent h = let m = most_home t in omega arith

pub adds_home : (t : Table) {old new : List ℕ} {n r : ℕ} → Adds old new n r (found t ColumnToHome ++ found t CellToHome) → Adds old new n r (home_moves t)
unfolding home_moves
adds_home t a = a

-- the moves back
pub back_room : (t : Table) → (0 + length (found t HomeToColumn)) * 5 ≤ 160
back_room t = let m = most_found_lem t HomeToColumn in omega arith

-- ---- all that is tried

module _ (t : Table) where
  abbrev pub others : List Move
  others = found t ColumnToColumn ++ (found t CellToColumn ++ found t ColumnToCell)

  abbrev pub rest : List Move
  rest = chosen (worthwhile t) (found t HomeToColumn) ++ (others ++ late_moves t)

  tried_is : chosen (is_safe t) (home_moves t) ++ rest ≡ tried t
  unfolding tried
  tried_is =
      ap (λ (l : List Move). chosen (is_safe t) (home_moves t) ++ (chosen (worthwhile t) (found t HomeToColumn) ++ l))
      (append_assoc (found t ColumnToColumn) (found t CellToColumn ++ found t ColumnToCell) (late_moves t)
      ∙ ap (λ (l : List Move). found t ColumnToColumn ++ l) (append_assoc (found t CellToColumn) (found t ColumnToCell) (late_moves t)))

  pub tried-room : (lent : ℕ) → tried_room ≤ lent → (0 + length (chosen (is_safe t) (home_moves t) ++ rest)) * 5 ≤ lent
  tried-room lent h = let l = ap length tried_is in let m = most_tried_lem t in omega arith

  pub adds_tried : {old new : List ℕ} {n r : ℕ} → Adds old new n r (chosen (is_safe t) (home_moves t) ++ rest) → Adds old new n r (tried t)
  adds_tried a = adds_same tried_is a

-- ---- chosen from a list that was written

module _ {old list : List ℕ} {n : ℕ} {ms : List Move} (a : Adds old list 0 n ms) where
  pub pick_room : (p : Move → Bool) (at lent : ℕ) → (at + length (chosen p ms)) * 5 ≤ lent → (at + length (chosen p (moves_in list n))) * 5 ≤ lent
  pick_room p at lent h = subst (λ (l : List Move). (at + length (chosen p l)) * 5 ≤ lent) (sym (moves_written a)) h

  pub picked : (p : Move → Bool) {before after : List ℕ} {at r : ℕ} → Adds before after at r (chosen p (moves_in list n)) → Adds before after at r (chosen p ms)
  picked p b = adds_same (ap (chosen p) (moves_written a)) b
