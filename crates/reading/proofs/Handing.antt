-- A line read as it is asked for: the answer, and the lent room, which a refusal leaves as it was.
use Rattle.board.specs.Refusal.{answered}
use mathlib.Core.Path.{◌≡◌, refl, sym, ap, ◌∙◌, subst}
use mathlib.Core.Bool.{Bool}
use mathlib.Core.List.{List, ◌++◌}
use Prim.Native.Nat.{ℕ, ◌+◌, ◌*◌, ◌<◌, ◌≤◌}
use native.Mathlib.Omega.{arith}
use borrow.Author.Tests.{le-leb, lt-leb}
use lib.Dec.{leb}
use lib.ListN.{length, take, drop}
use lib.Seq.{take_at}
use Rattle.std.specs.Prelude.{Result, Ok, Err}
use Rattle.base.specs.Answer.{unless}
use Rattle.board.specs.Table.{Table}
use Rattle.board.specs.Verdict.{Verdict, fine, after}
use Rattle.board.specs.Record.{examined, shown}
use Rattle.board.specs.declared.Board.{Board}
use Rattle.board.specs.declared.Refusal.{Refusal}
use Rattle.board.specs.declared.Refusal.TheVariants.{WrongList, WrongText, LittleRoom}
use Rattle.moves.specs.Written.{list_room, bytes_of, written}
use Rattle.moves.specs.declared.Move.{Move}
use Rattle.moves.proofs.Writing.{bytes_long}
use Rattle.notation.specs.Form.{Reading, jots, wrong, line_in, formed_by}
use Rattle.sense.specs.Outcome.{Outcome, gives, refuses, refuses_at, checked, most_moves, counted, line_told}
use Rattle.reading.specs.Lines.{moves_from, read_by, line_read}
use Rattle.reading.specs.Asked.{read_asked, list_after, Reads}
use Rattle.reading.specs.Inner.{LeftBy, ReadTo, kept, ReadInto}
use Rattle.notation.specs.declared.WrongSign.{WrongSign}
use Rattle.sense.specs.declared.LineError.{LineError}
use Rattle.sense.specs.declared.LineError.TheVariants as line

-- ---- the moves read

pub record Gave (o : Outcome (List Move)) (old now : List ℕ) (n : ℕ) : Type 0 where
  pub moves : List Move
  pub gave : o ≡ gives moves
  pub many : length moves ≡ n
  pub room : now ≡ written old 0 moves

module _ {o : Outcome (List Move)} {old now : List ℕ} {r : Result ℕ LineError} (t : ReadTo o old now r) where
  pub read_gave : {n : ℕ} → r ≡ Ok n → Gave o old now n
  read_gave {n} e = by o refl (sym (ap line_told e) ∙ t.told) t.left
    where
      by : (x : Outcome (List Move)) → o ≡ x → gives n ≡ counted x → LeftBy x old now → Gave o old now n
      by (gives ms) q c l = record { moves = ms; gave = q; many = let z : length ms ≡ n = cc in z; room = l }
      by (refuses k) q c l = let z : ◌≡◌ {A = ℕ} 0 1 = cc in absurd (let w : ⊥ = omega arith in w)
      by (refuses_at k p) q c l = let z : ◌≡◌ {A = ℕ} 0 1 = cc in absurd (let w : ⊥ = omega arith in w)

  -- a refusal leaves lent room alone
  pub refuses_room : (lent : List ℕ) → ((n : ℕ) → line_told r ≡ gives n → ⊥) → lent ≡ list_after o lent
  refuses_room lent d = by o t.told
    where
      by : (x : Outcome (List Move)) → line_told r ≡ counted x → lent ≡ list_after x lent
      by (gives ms) c = absurd (d (length ms) c)
      by (refuses k) c = refl
      by (refuses_at k p) c = refl

module _ {o : Outcome (List Move)} {old now : List ℕ} {n : ℕ} (g : Gave o old now n) where
  -- the records are the first bytes
  used : take (n * 5) now ≡ bytes_of g.moves
  unfolding written
  used =
      let m = g.many in
      let l = bytes_long g.moves in
      ap (take (n * 5)) g.room
      ∙ take_at (bytes_of g.moves) (drop ((0 + length g.moves) * 5) old) (n * 5) (omega arith)

  pub into_gave : {lent part : List ℕ} → part ≡ take (n * 5) now → ReadInto o lent (part ++ drop (n * 5) lent) (Ok n)
  unfolding written
  into_gave {lent} {part} p =
      let room : part ++ drop (n * 5) lent ≡ written lent 0 g.moves =
      ap (λ (s : List ℕ). s ++ drop (n * 5) lent) (p ∙ used)
      ∙ ap (λ (i : ℕ). bytes_of g.moves ++ drop i lent) (let m = g.many in let z : n * 5 ≡ (0 + length g.moves) * 5 = omega arith in z) in
      record {
        told = ap gives (sym g.many) ∙ sym (ap counted g.gave);
        room = room ∙ sym (ap (λ (x : Outcome (List Move)). list_after x lent) g.gave);
      }

-- ---- the records that go into lent room

module _ {r : Result ℕ LineError} {n : ℕ} (e : n ≡ kept r) where
  counts : {m : ℕ} → r ≡ Ok m → r ≡ Ok n
  counts q = q ∙ ap Ok (sym (e ∙ ap kept q))

  -- a refusal puts nothing there
  pub kept_into : {o : Outcome (List Move)} {old now : List ℕ} → ReadTo o old now r → {lent part : List ℕ} → part ≡ take (n * 5) now → ReadInto o lent (part ++ drop (n * 5) lent) r
  kept_into {o} {old} {now} d {lent} {part} p = by r refl
    where
      none : n ≡ 0 → ((m : ℕ) → line_told r ≡ gives m → ⊥) → ReadInto o lent (part ++ drop (n * 5) lent) r
      none z never =
          let same : part ++ drop (n * 5) lent ≡ lent =
          ap (λ (s : List ℕ). s ++ drop (n * 5) lent) p ∙ ap (λ (i : ℕ). take (i * 5) now ++ drop (i * 5) lent) z in
          record { told = d.told; room = same ∙ refuses_room d lent never }

      by : (x : Result ℕ LineError) → r ≡ x → ReadInto o lent (part ++ drop (n * 5) lent) r
      by (Ok m) q = subst (ReadInto o lent (part ++ drop (n * 5) lent)) (sym (counts q)) (into_gave (read_gave d (counts q)) p)
      by (Err (line.Refused why)) q = none (e ∙ ap kept q) (λ m u. let w = sym (ap line_told q) ∙ u in let z : ◌≡◌ {A = ℕ} 0 1 = cc in omega arith)
      by (Err (line.At why at)) q = none (e ∙ ap kept q) (λ m u. let w = sym (ap line_told q) ∙ u in let z : ◌≡◌ {A = ℕ} 0 1 = cc in omega arith)

-- ---- how many moves are written

module _ (t : Table) (text : List ℕ) {n : ℕ} (e : formed_by (line_in text) ≡ Ok n) where
  pub formed_many : most_moves < n → {lent : List ℕ} → ReadInto (line_read t text) lent lent (Err (line.Refused WrongList))
  unfolding line_read
  formed_many h {lent} = by (line_in text) e
    where
      by : (r : Reading) → formed_by r ≡ Ok n → ReadInto (read_by t r) lent lent (Err (line.Refused WrongList))
      by (jots js) q =
          let l : length js ≡ n = cc in
          subst (λ (ok : Bool). ReadInto (checked (unless ok 31 fine) (moves_from t 0 js)) lent lent (Err (line.Refused WrongList)))
          (sym (lt-leb (length js) most_moves (omega arith))) (record { told = refl; room = refl })
      by (wrong p) q = let z : ◌≡◌ {A = ℕ} 0 1 = cc in absurd (let w : ⊥ = omega arith in w)

pub formed_wrong : (t : Table) (text : List ℕ) {p : ℕ} → formed_by (line_in text) ≡ Err (record { place = p }) → {lent : List ℕ}
    → ReadInto (line_read t text) lent lent (Err (line.At WrongText p))
unfolding line_read
formed_wrong t text {p} e {lent} = by (line_in text) e
  where
    by : (r : Reading) → formed_by r ≡ Err (record { place = p }) → ReadInto (read_by t r) lent lent (Err (line.At WrongText p))
    by (jots js) q = let z : ◌≡◌ {A = ℕ} 0 1 = cc in absurd (let w : ⊥ = omega arith in w)
    by (wrong k) q = let wrong_sign : record { place = k } ≡ record { place = p } = cc in let same : k ≡ p = ap (λ (w : WrongSign). w.place) wrong_sign in record { told = ap (refuses_at 42) (sym same); room = refl }

-- ---- as it is asked for

module _ (b : Board) (text lent : List ℕ) where
  reads_as : {o : Outcome (List Move)} {new : List ℕ} {r : Result ℕ LineError} → read_asked b text (length lent) ≡ o → ReadInto o lent new r → Reads b text lent new r
  reads_as e i =
      record {
        told = i.told ∙ sym (ap counted e);
        room = i.room ∙ sym (ap (λ (o : Outcome (List Move)). list_after o lent) e);
      }

  by_verdict : {v : Verdict} → examined b ≡ v → read_asked b text (length lent) ≡ checked (after v (unless (leb list_room (length lent)) 21 fine)) (line_read (shown b) text)
  unfolding read_asked
  by_verdict e = ap (λ (v : Verdict). checked (after v (unless (leb list_room (length lent)) 21 fine)) (line_read (shown b) text)) e

  pub bad_board : {r : Result (Unit {0}) Refusal} {why : Refusal} → answered r ≡ examined b → r ≡ Err why → Reads b text lent lent (Err (line.Refused why))
  bad_board e q = reads_as (by_verdict (sym e ∙ ap answered q)) (record { told = refl; room = refl })

  module _ (ok : examined b ≡ fine) where
    pub little_room_lem : length lent < list_room → Reads b text lent lent (Err (line.Refused LittleRoom))
    little_room_lem h =
        reads_as
        (by_verdict ok ∙ ap (λ (g : Bool). checked (unless g 21 fine) (line_read (shown b) text)) (lt-leb list_room (length lent) h))
        (record { told = refl; room = refl })

    pub good_room : list_room ≤ length lent → {new : List ℕ} {r : Result ℕ LineError} → ReadInto (line_read (shown b) text) lent new r → Reads b text lent new r
    good_room h i =
        reads_as
        (by_verdict ok ∙ ap (λ (g : Bool). checked (unless g 21 fine) (line_read (shown b) text)) (le-leb list_room (length lent) h))
        i
