-- What was written from a board reads back on it to the same records, and what was read is written back to the same text.
use mathlib.Core.Path.{◌≡◌, refl, sym, ap, ap₂, ◌∙◌, subst}
use mathlib.Core.Bool.{Bool, true, false, cond}
use mathlib.Core.List.{List, [], ◌∷◌, ◌++◌}
use Prim.Native.Nat.{ℕ, zero, suc, ◌+◌, ◌*◌, ◌/◌, ◌≤◌}
use native.Mathlib.Omega.{arith}
use borrow.Author.Tests.{le-leb, leb-true, eq-eqb, eqb-true}
use lib.Dec.{eqb, leb}
use lib.ListN.{length, get_or, take, drop, length-drop, take-append-drop}
use lib.Seq.{get_or-take, get_or-drop}
use Rattle.base.specs.Words.{concat}
use Rattle.base.specs.Answer.{Answer, given, refused, unless}
use Rattle.base.proofs.Answers.{given_by}
use Rattle.base.proofs.Words.{first}
use Rattle.board.specs.Table.{Table}
use Rattle.board.specs.Verdict.{Verdict, fine, after}
use Rattle.board.specs.Record.{examined, shown}
use Rattle.board.specs.Inner.{Sound, Sized}
use Rattle.board.specs.declared.Board.{Board}
use Rattle.board.proofs.Soundness.{sound, sound_fine}
use Rattle.board.proofs.Fair.{shows_fair}
use Rattle.moves.specs.Record.{move_of}
use Rattle.moves.specs.Written.{list_room, bytes_of}
use Rattle.moves.specs.declared.Move.{Move}
use Rattle.moves.proofs.Saying.{record_of_move, said_of_record, move_of_record}
use Rattle.moves.proofs.Writing.{bytes_long}
use Rattle.replay.specs.Step.{stepped}
use Rattle.replay.specs.Line.{go_on, line_from, records_in, is_line}
use Rattle.replay.specs.Played.{Legal, records_of}
use Rattle.replay.proofs.Lining.{records_none, records_first}
use Rattle.replay.proofs.Keeping.{Bytes}
use Rattle.replay.proofs.Replaying.{a_line, line_five}
use Rattle.replay.proofs.Stepping.{sound_after, shown-after}
use Rattle.replay.proofs.Legal.{records_written, line_legal}
use Rattle.sense.specs.Outcome.{Outcome, gives, checked, most_moves, checked_at}
use Rattle.reading.specs.Lines.{line_read}
use Rattle.writing.specs.Lines.{text_of, writable_first, Writable}
use Rattle.sense.specs.Meant.{writable}
use Rattle.reading.specs.Asked.{read_asked}
use Rattle.writing.specs.Asked.{text_room, moves_of, moves_in, write_asked}
use Rattle.writing.proofs.Writing.{steps}
use Rattle.paper.proofs.Reading.{read_back_lem, read_texted}

-- ---- an answer that is given passed its tests

module _ {A : Type 0} where
  pub checked_gives : (v : Verdict) (o : Outcome A) {x : A} → checked v o ≡ gives x → (v ≡ fine) × (o ≡ gives x)
  checked_gives (given u) o e = (refl, e)
  checked_gives (refused n) o e = let z : ◌≡◌ {A = ℕ} 0 1 = cc in absurd (let w : ⊥ = omega arith in w)

  pub checked_at_gives : (v : Verdict) (p : ℕ) (o : Outcome A) {x : A} → checked_at v p o ≡ gives x → (v ≡ fine) × (o ≡ gives x)
  checked_at_gives (given u) p o e = (refl, e)
  checked_at_gives (refused n) p o e = let z : ◌≡◌ {A = ℕ} 0 1 = cc in absurd (let w : ⊥ = omega arith in w)

after-fine : (v w : Verdict) → after v w ≡ fine → (v ≡ fine) × (w ≡ fine)
after-fine (given u) w e = (refl, e)
after-fine (refused n) w e = let z : ◌≡◌ {A = ℕ} 0 1 = cc in absurd (let w : ⊥ = omega arith in w)

-- ---- a list is writable if the first that is not comes after its end

writable-all : (ms : List Move) → writable_first ms ≡ length ms → Writable ms
unfolding writable_first
writable-all [] e = tt
writable-all (m ∷ ms) e = by_sign (writable m) refl e (writable-all ms)
  where
    by_sign : (b : Bool) → writable m ≡ b → cond b (suc (writable_first ms)) 0 ≡ suc (length ms) → (writable_first ms ≡ length ms → Writable ms) → (writable m ≡ true) × Writable ms
    by_sign true q e on = (q, on (omega arith))
    by_sign false q e on = absurd (let z : ⊥ = omega arith in z)

all-writable : (ms : List Move) → Writable ms → writable_first ms ≡ length ms
unfolding writable_first
all-writable [] w = refl
all-writable (m ∷ ms) w = rw w.0 (ap suc (all-writable ms w.1))

-- ---- records that can be played are those of their moves

-- each has a count that a byte holds
abbrev Counts : List (List ℕ) → Type 0
Counts [] = Unit {0}
Counts (r ∷ rs) = (get_or r 3 0 ≤ 255) × Counts rs

records_counts : (n : ℕ) (l : List ℕ) → length l / 5 ≡ n → Bytes l → Counts (records_in l)
records_counts zero l e f = subst Counts (sym (records_none l (omega arith))) tt
records_counts (suc n) l e f =
    subst Counts (sym (records_first l (omega arith))) (
      (let q = get_or-take 5 l 3 0 (omega arith) in let h = f 3 in omega arith),
      records_counts n (drop 5 l) (let d = length-drop 5 l in omega arith) (λ k. let q = get_or-drop 5 l k 0 in let h = f (5 + k) in omega arith),
    )

-- five bytes each, and nothing after them
records_all : (n : ℕ) (l : List ℕ) → length l ≡ n * 5 → concat (records_in l) ≡ l
unfolding concat
records_all zero [] e = ap concat (records_none [] (omega arith))
records_all zero (x ∷ l) e = absurd (let z : ⊥ = omega arith in z)
records_all (suc n) l e =
    ap concat (records_first l (omega arith))
    ∙ ap (λ (r : List ℕ). take 5 l ++ r) (records_all n (drop 5 l) (let d = length-drop 5 l in omega arith))
    ∙ take-append-drop 5 l

record Plays (t : Table) (rs : List (List ℕ)) : Type 0 where
  legal : Legal t (moves_of rs)
  bytes : bytes_of (moves_of rs) ≡ concat rs

plays : (rs : List (List ℕ)) (b : Board) → Sound b → Counts rs → (line_from b rs).verdict ≡ fine → Plays (shown b) rs
unfolding line_from moves_of bytes_of concat
plays [] b s k e = record { legal = tt; bytes = refl }
plays (r ∷ rs) b s k e = by_step (stepped b r) refl e (plays rs)
  where
    by_step : (a : Answer Board) → stepped b r ≡ a → (go_on b a (λ c. line_from c rs)).verdict ≡ fine
        → ((c : Board) → Sound c → Counts rs → (line_from c rs).verdict ≡ fine → Plays (shown c) rs) → Plays (shown b) (r ∷ rs)
    by_step (given c) q e on =
        let st = steps b r q in
        let said = said_of_record r k.0 st.can in
        let later = on c (subst Sound (sym st.board) (sound_after b s (move_of r) said st.ok)) k.1 e in
        let there = ap shown st.board ∙ shown-after b s (move_of r) said st.ok in
        record {
          legal = (said, (st.ok, subst (λ (t : Table). Legal t (moves_of rs)) there later.legal));
          bytes = ap₂ (λ (x y : List ℕ). x ++ y) (record_of_move r st.can) later.bytes;
        }
    by_step (refused n) q e on = let z : ◌≡◌ {A = ℕ} 0 1 = cc in absurd (let w : ⊥ = omega arith in w)

-- ---- reading what was written

-- what a list that is written is
pub record Wrote (b : Board) (bytes text : List ℕ) : Type 0 where
  pub sound : Sound b
  pub legal : Legal (shown b) (moves_in bytes)
  pub writes : Writable (moves_in bytes)
  pub few : length (moves_in bytes) ≤ most_moves
  pub records : bytes_of (moves_in bytes) ≡ bytes
  pub same : text_of (shown b) (moves_in bytes) ≡ text

pub wrote : (b : Board) (bytes : List ℕ) (lent : ℕ) → Sized b → Bytes bytes → {text : List ℕ} → write_asked b bytes lent ≡ gives text → Wrote b bytes text
unfolding write_asked moves_in is_line
wrote b bytes lent z f {text} e =
    let o = checked_gives (after (examined b) (unless (is_line bytes) 31 fine)) _ e in
    let v = after-fine (examined b) (unless (is_line bytes) 31 fine) o.0 in
    let line = (given_by (is_line bytes) 31 fine v.1).0 in
    let p = checked_at_gives (line_from b (records_in bytes)).verdict (line_from b (records_in bytes)).moves _ o.1 in
    let w = checked_at_gives (unless (eqb (writable_first (moves_in bytes)) (length (moves_in bytes))) 43 fine) (writable_first (moves_in bytes)) _ p.1 in
    let r = (checked_gives (unless (leb text_room lent) 21 fine) (gives (text_of (shown b) (moves_in bytes))) w.1).1 in
    let s = sound b z v.0 in
    let five = line_five bytes line in
    let long = leb-true (length bytes) list_room (first (leb (length bytes) list_room) _ line) in
    let k = plays (records_in bytes) b s (records_counts (length bytes / 5) bytes refl f) p.0 in
    let same = k.bytes ∙ records_all (length bytes / 5) bytes (omega arith) in
    let n = bytes_long (moves_in bytes) in
    let m = ap length same in
    record {
      sound = s;
      legal = k.legal;
      writes = writable-all (moves_in bytes) (eqb-true _ _ (given_by (eqb (writable_first (moves_in bytes)) (length (moves_in bytes))) 43 fine w.0).0);
      few = omega arith;
      records = same;
      same = (let q : text_of (shown b) (moves_in bytes) ≡ text = cc in q);
    }

-- the answer of a board that is fine, with enough room
pub read_answer : {b : Board} (text : List ℕ) (lent : ℕ) → Sound b → list_room ≤ lent → read_asked b text lent ≡ line_read (shown b) text
unfolding read_asked
read_answer {b} text lent s h = rw (sound_fine s, le-leb list_room lent h)

-- the same moves, and so the same records
pub written_read : (b : Board) (bytes : List ℕ) (lent room : ℕ) → Sized b → Bytes bytes → {text : List ℕ} → write_asked b bytes lent ≡ gives text → list_room ≤ room
    → (read_asked b text room ≡ gives (moves_in bytes)) × (bytes_of (moves_in bytes) ≡ bytes)
written_read b bytes lent room z f {text} e h =
    let w = wrote b bytes lent z f e in (
      read_answer text room w.sound h
          ∙ ap (line_read (shown b)) (sym w.same)
          ∙ read_back_lem (shown b) (moves_in bytes) (shows_fair w.sound) w.legal w.writes w.few,
      w.records,
    )

-- so two lists that were written from one board to one text are the same bytes
pub written_once : (b : Board) (bytes others : List ℕ) (lent room : ℕ) → Sized b → Bytes bytes → Bytes others → {text : List ℕ}
    → write_asked b bytes lent ≡ gives text → write_asked b others room ≡ gives text → bytes ≡ others
written_once b bytes others lent room z f g {text} d e =
    let p = written_read b bytes lent list_room z f d (omega arith) in
    let q = written_read b others room list_room z g e (omega arith) in
    let m : moves_in bytes ≡ moves_in others = (let x = p.0 in let y = q.0 in cc) in
    sym p.1 ∙ ap bytes_of m ∙ q.1

-- ---- writing what was read

moves_of_records : (ms : List Move) → moves_of (records_of ms) ≡ ms
unfolding moves_of records_of
moves_of_records [] = refl
moves_of_records (m ∷ ms) = ap₂ (λ (n : Move) (ns : List Move). n ∷ ns) (move_of_record m) (moves_of_records ms)

pub moves_written : (ms : List Move) → moves_in (bytes_of ms) ≡ ms
unfolding moves_in
moves_written ms = ap moves_of (records_written ms) ∙ moves_of_records ms

module _ (b : Board) (ms : List Move) (s : Sound b) (l : Legal (shown b) ms) (w : Writable ms) (few : length ms ≤ most_moves) where
  pub write_answer : (lent : ℕ) → text_room ≤ lent → write_asked b (bytes_of ms) lent ≡ gives (text_of (shown b) ms)
  unfolding write_asked
  write_answer lent h =
      rw (
        sound_fine s,
        a_line (bytes_of ms) (let n = bytes_long ms in omega arith) (let n = bytes_long ms in omega arith),
        records_written ms,
        line_legal ms b s l,
        moves_written ms,
        eq-eqb (writable_first ms) (length ms) (all-writable ms w),
        le-leb text_room lent h,
      )

-- the same text
pub read_written : (b : Board) (text : List ℕ) (lent room : ℕ) → Sized b → {ms : List Move} → read_asked b text lent ≡ gives ms → text_room ≤ room
    → write_asked b (bytes_of ms) room ≡ gives text
unfolding read_asked
read_written b text lent room z {ms} e h =
    let o = checked_gives (after (examined b) (unless (leb list_room lent) 21 fine)) (line_read (shown b) text) e in
    let s = sound b z (after-fine (examined b) (unless (leb list_room lent) 21 fine) o.0).0 in
    let r = read_texted (shown b) text (shows_fair s) o.1 in
    write_answer b ms s r.legal r.writes r.few room h ∙ ap (λ (l : List ℕ). gives l) r.same
