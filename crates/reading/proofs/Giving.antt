-- What a line gives: as many moves as are written there, so that a line that is read has at most 200.
use mathlib.Core.Path.{◌≡◌, refl, ap}
use mathlib.Core.Bool.{Bool, true, false}
use mathlib.Core.List.{List, [], ◌∷◌}
use Prim.Native.Nat.{ℕ, suc, ◌≤◌}
use native.Mathlib.Omega.{arith}
use borrow.Author.Tests.{leb-true}
use lib.Dec.{leb}
use lib.ListN.{length}
use Rattle.base.specs.Answer.{Answer, given, refused, unless}
use Rattle.board.specs.Table.{Table}
use Rattle.board.specs.Verdict.{fine}
use Rattle.moves.specs.Play.{after_move}
use Rattle.moves.specs.declared.Move.{Move}
use Rattle.notation.specs.Form.{Reading, jots, wrong, line_in}
use Rattle.sense.specs.Meant.{meant}
use Rattle.sense.specs.Outcome.{Outcome, gives, refuses, refuses_at, checked, most_moves}
use Rattle.reading.specs.Lines.{ruled, first, read_on, moves_from, read_by, line_read}
use Rattle.notation.specs.declared.Jot.{Jot}

pub also_gives : (m : Move) (o : Outcome (List Move)) {ms : List Move} → first m o ≡ gives ms → (ns : List Move) × ((o ≡ gives ns) × (m ∷ ns ≡ ms))
also_gives m (gives ns) {ms} e = (ns, (refl, let q : m ∷ ns ≡ ms = cc in q))
also_gives m (refuses n) e = let z : ◌≡◌ {A = ℕ} 0 1 = cc in absurd (let w : ⊥ = omega arith in w)
also_gives m (refuses_at n p) e = let z : ◌≡◌ {A = ℕ} 0 1 = cc in absurd (let w : ⊥ = omega arith in w)

pub not_given : {A : Type 0} {ms : List Move} (n p : ℕ) → refuses_at n p ≡ gives ms → A
not_given n p e = let z : ◌≡◌ {A = ℕ} 0 1 = cc in absurd (let w : ⊥ = omega arith in w)

-- each written move gives one
moves_long : (t : Table) (js : List Jot) (at : ℕ) (ms : List Move) → moves_from t at js ≡ gives ms → length ms ≡ length js
unfolding moves_from
moves_long t [] at ms e = let q : [] ≡ ms = cc in ap length (let z : ms ≡ [] = cc in z)
moves_long t (j ∷ js) at ms e = by_ruling (ruled t (meant t j)) e (λ u ns. moves_long u js (suc at) ns)
  where
    by_ruling : (a : Answer Move) → read_on at a (λ m. moves_from (after_move t m) (suc at) js) ≡ gives ms
        → ((u : Table) (ns : List Move) → moves_from u (suc at) js ≡ gives ns → length ns ≡ length js) → length ms ≡ suc (length js)
    by_ruling (given m) e later =
        let g = also_gives m (moves_from (after_move t m) (suc at) js) e in
        let l = later (after_move t m) g.0 g.1.0 in
        let n = ap length g.1.1 in
        omega arith
    by_ruling (refused n) e later = not_given n at e

pub read_few : (t : Table) (text : List ℕ) {ms : List Move} → line_read t text ≡ gives ms → length ms ≤ most_moves
unfolding line_read
read_few t text {ms} e = by_reading (line_in text) e
  where
    by_few : (js : List Jot) (b : Bool) → leb (length js) most_moves ≡ b → checked (unless b 31 fine) (moves_from t 0 js) ≡ gives ms → length ms ≤ most_moves
    by_few js true h e = let l = leb-true (length js) most_moves h in let n = moves_long t js 0 ms e in omega arith
    by_few js false h e = let z : ◌≡◌ {A = ℕ} 0 1 = cc in absurd (let w : ⊥ = omega arith in w)

    by_reading : (r : Reading) → read_by t r ≡ gives ms → length ms ≤ most_moves
    by_reading (jots js) e = by_few js (leb (length js) most_moves) refl e
    by_reading (wrong p) e = not_given 42 p e
