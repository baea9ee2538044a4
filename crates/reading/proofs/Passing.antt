-- A line read move after move: what is left to read gives, after the moves already made, what the whole line gives.
use mathlib.Core.Path.{◌≡◌, refl, sym, ap, ap₂, ◌∙◌, subst}
use mathlib.Core.Bool.{Bool}
use mathlib.Core.List.{List, [], ◌∷◌, ◌++◌}
use Prim.Native.Nat.{ℕ, suc, ◌+◌, ◌*◌, ◌≤◌}
use native.Mathlib.Numerals.{add-one}
use native.Mathlib.Omega.{arith}
use borrow.Author.Tests.{le-leb}
use lib.ListN.{length}
use Rattle.std.specs.Prelude.{Ok, Err}
use Rattle.base.specs.Answer.{Answer, refused, unless}
use Rattle.board.specs.Table.{Table}
use Rattle.board.specs.Verdict.{fine}
use Rattle.board.specs.Record.{shown}
use Rattle.board.specs.Refusal.{number_of}
use Rattle.board.specs.Inner.{Sound}
use Rattle.board.specs.declared.Board.{Board}
use Rattle.board.specs.declared.Refusal.{Refusal}
use Rattle.moves.specs.Play.{after_move}
use Rattle.moves.specs.Written.{list_room, Adds}
use Rattle.moves.specs.declared.Move.{Move}
use Rattle.moves.proofs.Writing.{adds_none, adds_more, adds_long}
use Rattle.notation.specs.Jot.{WellMade, AllWell}
use Rattle.notation.specs.Form.{Reading, jots, wrong, line_in}
use Rattle.sense.specs.Meant.{meant}
use Rattle.sense.specs.Outcome.{Outcome, gives, refuses_at, checked, most_moves, counted}
use Rattle.reading.specs.Lines.{ruled, first, read_on, moves_from, read_by, line_read}
use Rattle.reading.specs.Inner.{Took, left_in, CutAt, NoLine, Few, LeftBy, ReadTo}
use Rattle.notation.specs.declared.Jot.{Jot}
use Rattle.sense.specs.declared.LineError.TheVariants.{At}
use Rattle.notation.proofs.Stopping.{form_well}
use Rattle.reading.proofs.Cutting.{left_start, left_none}

-- ---- some moves before what comes of a line

unfoldable pub before : List Move → Outcome (List Move) → Outcome (List Move)
before [] o = o
before (m ∷ ms) o = first m (before ms o)

before_more : (ms : List Move) (m : Move) (o : Outcome (List Move)) → before (ms ++ (m ∷ [])) o ≡ before ms (first m o)
unfolding before
before_more [] m o = refl
before_more (k ∷ ms) m o = ap (first k) (before_more ms m o)

before_end : (ms : List Move) → before ms (gives []) ≡ gives ms
unfolding before
before_end [] = refl
before_end (m ∷ ms) = ap (first m) (before_end ms)

before_stop : (ms : List Move) (n p : ℕ) → before ms (refuses_at n p) ≡ refuses_at n p
unfolding before
before_stop [] n p = refl
before_stop (m ∷ ms) n p = ap (first m) (before_stop ms n p)

-- ---- the loop

pub record Passing (t : Table) (text old : List ℕ) (b : Board) (now : List ℕ) (n at : ℕ) : Type 0 where
  pub rest : List Jot
  pub done : List Move
  pub room : list_room ≤ length old
  pub left : left_in text at ≡ jots rest
  pub well : AllWell rest
  pub few : n + length rest ≤ most_moves
  pub sound : Sound b
  pub adds : Adds old now 0 n done
  pub whole : line_read t text ≡ before done (moves_from (shown b) n rest)

module _ {text old : List ℕ} (room : list_room ≤ length old) {b : Board} (s : Sound b) where
  pub passing_start : Few (line_in text) → Passing (shown b) text old b old 0 0
  unfolding line_read before
  passing_start f = by_reading (line_in text) refl f
    where
      by_reading : (r : Reading) → line_in text ≡ r → Few r → Passing (shown b) text old b old 0 0
      by_reading (wrong p) q f = absurd f
      by_reading (jots js) q f =
          record {
            rest = js;
            done = [];
            room = room;
            left = left_start text ∙ q;
            well = form_well text q;
            few = omega arith;
            sound = s;
            adds = adds_none old 0 refl;
            whole =
                ap (read_by (shown b)) q
                ∙ ap (λ (ok : Bool). checked (unless ok 31 fine) (moves_from (shown b) 0 js)) (le-leb (length js) most_moves f);
          }

module _ {t : Table} {text old : List ℕ} {b : Board} {now : List ℕ} {n at : ℕ} (p : Passing t text old b now n at) where
  made : length p.done ≡ n
  made = let m = p.adds.many in omega arith

  pub passing_long : length now ≡ length old
  passing_long =
      let r = p.room in
      let f = p.few in
      let m = made in
      adds_long (omega arith) p.adds

  pub passing_never : {A : Type 0} → NoLine text at → A
  passing_never l = absurd (l.never p.rest p.left)

  module _ {j : Jot} {next : ℕ} (c : CutAt text at j next) where
    abbrev later : List Jot
    later = (c.first p.rest p.left).0

    here : p.rest ≡ j ∷ later
    here = (c.first p.rest p.left).1.0

    pub passing_well : WellMade j
    passing_well = (subst AllWell here p.well).0

    pub passing_few : n + 1 ≤ most_moves
    passing_few = let f = p.few in let l = ap length here in omega arith

    pub passing_room : (n + 1) * 5 ≤ length now
    passing_room = let f = passing_few in let l = passing_long in let r = p.room in omega arith

    unfolded : line_read t text ≡ before p.done (read_on n (ruled (shown b) (meant (shown b) j)) (λ m. moves_from (after_move (shown b) m) (suc n) later))
    unfolding moves_from
    unfolded = p.whole ∙ ap (λ (js : List Jot). before p.done (moves_from (shown b) n js)) here

    pub passing_turn : {d : Board} {new : List ℕ} → Took b d (meant (shown b) j) now new n → Passing t text old d new (n + 1) next
    passing_turn {d} k =
        let f = p.few in
        let l = ap length here in
        let e = made in
        let r = p.room in
        record {
          rest = later;
          done = p.done ++ (k.move ∷ []);
          room = r;
          left = (c.first p.rest p.left).1.1;
          well = (subst AllWell here p.well).1;
          few = omega arith;
          sound = k.sound;
          adds = adds_more (omega arith) p.adds k.adds;
          whole =
              unfolded
              ∙ ap (λ (a : Answer Move). before p.done (read_on n a (λ m. moves_from (after_move (shown b) m) (suc n) later))) k.rules
              ∙ sym (before_more p.done k.move (moves_from (after_move (shown b) k.move) (suc n) later))
              ∙ ap₂ (λ (u : Table) (i : ℕ). before (p.done ++ (k.move ∷ [])) (moves_from u i later)) (sym k.shows) (sym (add-one n));
        }

    pub passing_stop : {why : Refusal} {new : List ℕ} → ruled (shown b) (meant (shown b) j) ≡ refused (number_of why) → ReadTo (line_read t text) old new (Err (At why n))
    passing_stop {why} {new} e =
        let q = unfolded
        ∙ ap (λ (a : Answer Move). before p.done (read_on n a (λ m. moves_from (after_move (shown b) m) (suc n) later))) e
        ∙ before_stop p.done (number_of why) n in
        record { told = sym (ap counted q); left = subst (λ (o : Outcome (List Move)). LeftBy o old new) (sym q) tt }

  pub passing_end : length text ≤ at → ReadTo (line_read t text) old now (Ok n)
  unfolding moves_from
  passing_end h =
      let r : jots [] ≡ jots p.rest = sym (left_none text at h) ∙ p.left in
      let none : p.rest ≡ [] = cc in
      let q = p.whole ∙ ap (λ (js : List Jot). before p.done (moves_from (shown b) n js)) none ∙ before_end p.done in
      record {
        told = ap gives (sym made) ∙ sym (ap counted q);
        left = subst (λ (o : Outcome (List Move)). LeftBy o old now) (sym q) p.adds.room;
      }
