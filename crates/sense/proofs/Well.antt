-- What is written for a move is well made: its columns, its cell and its digit are there.
use mathlib.Core.Path.{◌≡◌, refl}
use mathlib.Core.Bool.{Bool, true, false, cond, ◌&&◌}
use Prim.Native.Nat.{ℕ, ◌<◌, ◌≤◌}
use native.Mathlib.Omega.{arith}
use borrow.Author.Tests.{ltb-true, lt-ltb}
use lib.Dec.{ltb}
use Rattle.base.proofs.Words.{second}
use Rattle.board.specs.Table.{Table}
use Rattle.board.specs.Fair.{Fair}
use Rattle.rules.proofs.Laying.{run_13}
use Rattle.moves.specs.Move.{sayable}
use Rattle.moves.specs.Play.{there}
use Rattle.moves.specs.declared.Place.TheVariants.{Column as column}
use Rattle.moves.specs.declared.Move.{Move}
use Rattle.moves.specs.declared.Move.TheVariants.{TableauToTableau, TableauToFoundation, TableauToFreeCell, FreeCellToTableau, FreeCellToFoundation, FoundationToTableau}
use Rattle.moves.proofs.Records.{said_from, said_to}
use Rattle.moves.proofs.Fairness.{fair_cards}
use Rattle.notation.specs.Jot.{WellMade}
use Rattle.sense.specs.Meant.{vacant, most_into, jot_of}
use Rattle.notation.specs.declared.Jot.TheVariants.{Between, Counted}

-- a count below the most is one digit: no run has more than 13 cards
most_few : (t : Table) (i j : ℕ) → Fair t → i < 8 → most_into t i j ≤ 13
unfolding most_into
most_few t i j f h = let r = run_13 (there t (column i)) (fair_cards t (column i) f (lt-ltb i 8 h)) in omega arith

pub jot_well : (t : Table) (m : Move) → Fair t → sayable m ≡ true → WellMade (jot_of t m)
unfolding jot_of
jot_well t (TableauToTableau s d n c) f e = by_count (vacant t d && ltb n (most_into t s d)) refl
  where
    hs : s < 8
    hs = ltb-true s 8 (said_from (TableauToTableau s d n c) e)

    hd : d < 8
    hd = ltb-true d 8 (said_to (TableauToTableau s d n c) e)

    by_count : (b : Bool) → (vacant t d && ltb n (most_into t s d)) ≡ b → WellMade (cond b (Counted s d n) (Between s d))
    by_count true q =
        let l = ltb-true n (most_into t s d) (second (vacant t d) (ltb n (most_into t s d)) q) in
        let m = most_few t s d f hs in
        (hs, (hd, omega arith))
    by_count false q = (hs, hd)
jot_well t (TableauToFoundation s c) f e = ltb-true s 8 (said_from (TableauToFoundation s c) e)
jot_well t (TableauToFreeCell s i c) f e = (ltb-true s 8 (said_from (TableauToFreeCell s i c) e), ltb-true i 4 (said_to (TableauToFreeCell s i c) e))
jot_well t (FreeCellToTableau i d c) f e = (ltb-true i 4 (said_from (FreeCellToTableau i d c) e), ltb-true d 8 (said_to (FreeCellToTableau i d c) e))
jot_well t (FreeCellToFoundation i c) f e = ltb-true i 4 (said_from (FreeCellToFoundation i c) e)
jot_well t (FoundationToTableau s d c) f e = ltb-true d 8 (said_to (FoundationToTableau s d c) e)
