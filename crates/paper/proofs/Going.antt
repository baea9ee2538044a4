-- A line read on from some moves that were read: the moves after them on the table that those leave.
use mathlib.Core.Path.{◌≡◌, refl, sym, ap, ◌∙◌, subst}
use mathlib.Core.Bool.{Bool}
use mathlib.Core.List.{List, [], ◌∷◌, ◌++◌, append_assoc, append-nil}
use Prim.Native.Nat.{ℕ, suc, ◌+◌, ◌<◌, ◌≤◌}
use native.Mathlib.Omega.{arith}
use borrow.Author.Tests.{le-leb, lt-leb}
use lib.Dec.{leb}
use lib.ListN.{length}
use Rattle.base.specs.Answer.{Answer, given, refused, unless}
use Rattle.board.specs.Table.{Table}
use Rattle.board.specs.Verdict.{fine, after}
use Rattle.board.specs.Record.{examined, shown}
use Rattle.board.specs.declared.Board.{Board}
use Rattle.moves.specs.Record.{record_of}
use Rattle.moves.specs.Play.{after_move}
use Rattle.moves.specs.Written.{list_room, bytes_of}
use Rattle.moves.specs.declared.Move.{Move}
use Rattle.replay.specs.Played.{after_moves}
use Rattle.notation.specs.Jot.{line_text, AllWell}
use Rattle.notation.specs.Form.{wrong, line_in}
use Rattle.sense.specs.Meant.{meant}
use Rattle.reading.specs.Lines.{ruled, first, read_on, moves_from, read_by, line_read}
use Rattle.sense.specs.Outcome.{Outcome, gives, refuses, refuses_at, checked, most_moves}
use Rattle.reading.specs.Asked.{read_asked}
use Rattle.notation.specs.declared.Jot.{Jot}
use Rattle.notation.proofs.Forming.{form_back}
use Rattle.reading.proofs.Giving.{also_gives, not_given}
use Rattle.paper.proofs.Asking.{checked_gives}

-- these moves before what comes of the others
abbrev joined : List Move → Outcome (List Move) → Outcome (List Move)
joined [] o = o
joined (m ∷ ms) o = first m (joined ms o)

joined_stops : (ms : List Move) (n p : ℕ) → joined ms (refuses_at n p) ≡ refuses_at n p
joined_stops [] n p = refl
joined_stops (m ∷ ms) n p = ap (first m) (joined_stops ms n p)

joined_gives : (ms ns : List Move) → joined ms (gives ns) ≡ gives (ms ++ ns)
joined_gives [] ns = refl
joined_gives (m ∷ ms) ns = ap (first m) (joined_gives ms ns)

goes_on : (ws vs : List Jot) (t : Table) (at : ℕ) (ms : List Move) → moves_from t at ws ≡ gives ms
    → moves_from t at (ws ++ vs) ≡ joined ms (moves_from (after_moves t ms) (at + length ws) vs)
unfolding moves_from after_moves
goes_on [] vs t at ms e =
    let none : [] ≡ ms = cc in
    subst (λ (l : List Move). moves_from t at vs ≡ joined l (moves_from (after_moves t l) (at + 0) vs)) none
    (ap (λ (k : ℕ). moves_from t k vs) (let q : at ≡ at + 0 = omega arith in q))
goes_on (w ∷ ws) vs t at ms e = by (ruled t (meant t w)) e (λ u ns. goes_on ws vs u (suc at) ns)
  where
    by : (a : Answer Move) → read_on at a (λ m. moves_from (after_move t m) (suc at) ws) ≡ gives ms
        → ((u : Table) (ns : List Move) → moves_from u (suc at) ws ≡ gives ns → moves_from u (suc at) (ws ++ vs) ≡ joined ns (moves_from (after_moves u ns) (suc at + length ws) vs))
        → read_on at a (λ m. moves_from (after_move t m) (suc at) (ws ++ vs)) ≡ joined ms (moves_from (after_moves t ms) (at + suc (length ws)) vs)
    by (given m) e on =
        let g = also_gives m (moves_from (after_move t m) (suc at) ws) e in
        subst (λ (l : List Move). first m (moves_from (after_move t m) (suc at) (ws ++ vs)) ≡ joined l (moves_from (after_moves t l) (at + suc (length ws)) vs)) g.1.1
        (ap (first m) (on (after_move t m) g.0 g.1.0
        ∙ ap (λ (k : ℕ). joined g.0 (moves_from (after_moves (after_move t m) g.0) k vs)) (let q : suc at + length ws ≡ at + suc (length ws) = omega arith in q)))
    by (refused n) e on = not_given n at e

-- as many moves are read as were written
pub as_many : (ws : List Jot) (t : Table) (at : ℕ) (ms : List Move) → moves_from t at ws ≡ gives ms → length ms ≡ length ws
unfolding moves_from
as_many [] t at ms e = let none : [] ≡ ms = cc in ap length (sym none)
as_many (w ∷ ws) t at ms e = by (ruled t (meant t w)) e (λ u ns. as_many ws u (suc at) ns)
  where
    by : (a : Answer Move) → read_on at a (λ m. moves_from (after_move t m) (suc at) ws) ≡ gives ms
        → ((u : Table) (ns : List Move) → moves_from u (suc at) ws ≡ gives ns → length ns ≡ length ws) → length ms ≡ suc (length ws)
    by (given m) e on =
        let g = also_gives m (moves_from (after_move t m) (suc at) ws) e in ap length (sym g.1.1) ∙ ap suc (on (after_move t m) g.0 g.1.0)
    by (refused n) e on = not_given n at e

module _ (t : Table) (ws : List Jot) {ms : List Move} (e : moves_from t 0 ws ≡ gives ms) (w : Jot) where
  -- the next move is refused: its number, with its place
  pub stops_there : (later : List Jot) {n : ℕ} → ruled (after_moves t ms) (meant (after_moves t ms) w) ≡ refused n
      → moves_from t 0 (ws ++ (w ∷ later)) ≡ refuses_at n (length ws)
  unfolding moves_from
  stops_there later {n} q =
      goes_on ws (w ∷ later) t 0 ms e
      ∙ ap (λ (a : Answer Move). joined ms (read_on (0 + length ws) a (λ m. moves_from (after_move (after_moves t ms) m) (suc (0 + length ws)) later))) q
      ∙ joined_stops ms n (0 + length ws) ∙ ap (λ (k : ℕ). refuses_at n k) (let z : 0 + length ws ≡ length ws = omega arith in z)

  -- it is read, and is the last
  pub reads_there : {m : Move} → ruled (after_moves t ms) (meant (after_moves t ms) w) ≡ given m → moves_from t 0 (ws ++ (w ∷ [])) ≡ gives (ms ++ (m ∷ []))
  unfolding moves_from
  reads_there {m} q =
      goes_on ws (w ∷ []) t 0 ms e
      ∙ ap (λ (a : Answer Move). joined ms (read_on (0 + length ws) a (λ k. moves_from (after_move (after_moves t ms) k) (suc (0 + length ws)) []))) q
      ∙ joined_gives ms (m ∷ [])

-- ---- a whole text, by its form

module _ (t : Table) where
  pub text_wrong : (text : List ℕ) {p : ℕ} → line_in text ≡ wrong p → line_read t text ≡ refuses_at 42 p
  unfolding line_read
  text_wrong text e = ap (read_by t) e

  module _ (js : List Jot) (well : AllWell js) where
    by_many : {b : Bool} → leb (length js) most_moves ≡ b → line_read t (line_text js) ≡ checked (unless b 31 fine) (moves_from t 0 js)
    unfolding line_read
    by_many q = ap (read_by t) (form_back js well) ∙ ap (λ (b : Bool). checked (unless b 31 fine) (moves_from t 0 js)) q

    pub text_moves : length js ≤ most_moves → line_read t (line_text js) ≡ moves_from t 0 js
    text_moves h = by_many (le-leb (length js) most_moves h)

    pub text_many : most_moves < length js → line_read t (line_text js) ≡ refuses 31
    text_many h = by_many (lt-leb (length js) most_moves h)

-- what was read was read from a board that is fine, with room for it
pub answered : (b : Board) (text : List ℕ) (lent : ℕ) {ms : List Move} → read_asked b text lent ≡ gives ms → line_read (shown b) text ≡ gives ms
unfolding read_asked
answered b text lent e = (checked_gives (after (examined b) (unless (leb list_room lent) 21 fine)) (line_read (shown b) text) e).1

-- the records of one move more
pub bytes_last : (ms : List Move) (m : Move) → bytes_of (ms ++ (m ∷ [])) ≡ bytes_of ms ++ record_of m
unfolding bytes_of
bytes_last [] m = append-nil (record_of m)
bytes_last (n ∷ ms) m =
    ap (λ (l : List ℕ). record_of n ++ l) (bytes_last ms m) ∙ sym (append_assoc (record_of n) (bytes_of ms) (record_of m))
