-- What `find_all` leaves to be shown: there is room for the next kind, and its moves come behind those before.
use mathlib.Core.Path.{◌≡◌, refl, sym, ap, ◌∙◌}
use mathlib.Core.List.{List, [], ◌∷◌, ◌++◌, append-nil}
use Prim.Native.Nat.{ℕ, ◌+◌, ◌<◌}
use lib.ListN.{length, get_or, take}
use native.Mathlib.Omega.{arith}
use Rattle.std.specs.List.{flat_map}
use Rattle.std.proofs.lemmas.List.{take_more}
use Rattle.std.proofs.lemmas.List.Concat.{flat_map-append}
use Rattle.std.proofs.lemmas.List.Folds.{length-flat_map-take}
use Rattle.board.specs.Record.{shown, laid}
use Rattle.moves.specs.declared.Move.{Move}
use Rattle.generate.specs.declared.Way.{Way}
use Rattle.moves.proofs.Writing.{adds_none, adds_long, adds_more, adds_same}
use Rattle.generate.specs.Found.{found}
use Rattle.generate.specs.declared.Way.TheVariants.{ColumnToColumn}
use Rattle.tried.proofs.find_all.Goals as goal

-- one kind more
more : (f : Way → List Move) (ways : List Way) (i : ℕ) → i < length ways
    → flat_map f (take i ways) ++ f (get_or ways i ColumnToColumn) ≡ flat_map f (take (i + 1) ways)
more f ways i h =
    ap (λ (l : List Move). flat_map f (take i ways) ++ l) (sym (append-nil (f (get_or ways i ColumnToColumn))))
    ∙ sym (flat_map-append f (take i ways) (get_or ways i ColumnToColumn ∷ []))
    ∙ ap (flat_map f) (sym (take_more ways i ColumnToColumn h))

pub loop-way-init : goal.loop-way-init
loop-way-init c = adds_none _ _ refl

pub find_at-made-requires-clause-way_in_bounds : goal.find_at-made-requires-clause-way_in_bounds
find_at-made-requires-clause-way_in_bounds c =
    let f = length-flat_map-take (found (shown (laid c.args.cells.now c.args.foundation.now c.args.counts.now c.args.tableau.now))) c.args.ways.now c.loop-way.way-index ColumnToColumn c.loop-way-test.true in
    let l = adds_long (omega arith) c.loop-way.invariant in
    omega arith

pub loop-way-preserved : goal.loop-way-preserved
loop-way-preserved c =
    let f = length-flat_map-take (found (shown (laid c.args.cells.now c.args.foundation.now c.args.counts.now c.args.tableau.now))) c.args.ways.now c.loop-way.way-index ColumnToColumn c.loop-way-test.true in
    adds_same (more (found (shown (laid c.args.cells.now c.args.foundation.now c.args.counts.now c.args.tableau.now))) c.args.ways.now c.loop-way.way-index c.loop-way-test.true)
    (adds_more (omega arith) c.loop-way.invariant c.find_at-made.ensures)
