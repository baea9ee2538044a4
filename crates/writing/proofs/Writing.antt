-- A list written move by move: each on the board that those before it leave, a space before each but the first.
use Rattle.std.specs.Prelude.{Option, Some, None}
use mathlib.Core.Path.{◌≡◌, refl, sym, ap, ap₂, ◌∙◌, subst}
use mathlib.Core.Bool.{Bool, true, false, cond}
use mathlib.Core.List.{List, [], ◌∷◌, ◌++◌, append_assoc, append-nil}
use Prim.Native.Nat.{ℕ, ◌+◌, ◌<◌, ◌≤◌}
use native.Mathlib.Omega.{arith}
use borrow.Author.Tests.{eq-eqb, ne_eqb}
use lib.ListN.{length, take, drop, length-append, take-append-drop}
use Rattle.base.specs.Answer.{Answer, given, refused, unless, given_or}
use Rattle.base.specs.Put.{Puts}
use Rattle.base.proofs.Putting.{puts_same, puts_long, puts_room, puts_more}
use Rattle.board.specs.Verdict.{Verdict, fine, after}
use Rattle.board.specs.Table.{Table}
use Rattle.board.specs.Record.{shown, board_of}
use Rattle.board.specs.Inner.{Sound}
use Rattle.board.specs.declared.Board.{Board}
use Rattle.moves.specs.Move.{sayable}
use Rattle.moves.specs.Record.{possible, move_of, move_asked}
use Rattle.moves.specs.Play.{allowed, after_move}
use Rattle.moves.specs.Causes.{ruling, played}
use Rattle.moves.specs.declared.Move.{Move}
use Rattle.moves.proofs.Ruling.{fine-allowed}
use Rattle.play.specs.Change.{Becomes, Ready}
use Rattle.replay.specs.Step.{recorded, played_on, stepped}
use Rattle.replay.specs.Line.{go_on, line_from, records_in}
use Rattle.replay.proofs.Lining.{records_none}
use Rattle.replay.proofs.Stepping.{became, sound_after}
use Rattle.notation.specs.Jot.{space, jot_text, line_text}
use Rattle.sense.specs.Meant.{jot_of}
use Rattle.writing.specs.Lines.{jots_of, text_of}
use Rattle.writing.specs.Asked.{moves_of, moves_in}
use Rattle.writing.specs.Inner.{gap, next_text, Next, Notes, Whole}
use Rattle.notation.specs.declared.Jot.{Jot}
use Rattle.notation.proofs.Forming.{jot_long}
use Rattle.writing.proofs.Looking.{records_front}

-- ---- a space before each move but the first

pub gap_none : (at : ℕ) → at ≡ 0 → gap at ≡ []
unfolding gap
gap_none at e = ap (λ (b : Bool). cond b [] (space ∷ [])) (eq-eqb at 0 e)

pub gap_some : (at : ℕ) → (at ≡ 0 → ⊥) → gap at ≡ space ∷ []
unfolding gap
gap_some at d = ap (λ (b : Bool). cond b [] (space ∷ [])) (ne_eqb at 0 d)

pub puts_nothing : {old s : List ℕ} {at : ℕ} → s ≡ [] → Puts old old at at s
puts_nothing {old} {s} {at} e =
    puts_same (sym e)
    (record { room = sym (ap (λ (n : ℕ). take at old ++ drop n old) (let q : at + 0 ≡ at = omega arith in q) ∙ take-append-drop at old); after = (let q : at ≡ at + 0 = omega arith in q) })

module _ (at : ℕ) (j : Jot) where
  next_long : length (next_text at j) ≡ length (gap at) + length (jot_text j)
  unfolding next_text
  next_long = length-append (gap at) (jot_text j)

  pub gap-room : {room : ℕ} → at + length (next_text at j) ≤ room → at + length (gap at) ≤ room
  gap-room h = let l = next_long in omega arith

  -- the space, and the move after it
  module _ {old mid : List ℕ} {start : ℕ} (h : at + length (next_text at j) ≤ length old) (g : Puts old mid at start (gap at)) {k : Jot} (e : k ≡ j) where
    pub jot_room : start + length (jot_text k) ≤ length mid
    unfolding next_text
    jot_room = puts_room (gap-room h) g (jot_text k) (subst (λ (i : Jot). at + length (gap at ++ jot_text i) ≤ length old) (sym e) h)

    pub jot_next : {new : List ℕ} {r : ℕ} → Puts mid new start r (jot_text k) → Puts old new at r (next_text at j)
    unfolding next_text
    jot_next p = puts_same (ap (λ (i : Jot). gap at ++ jot_text i) e) (puts_more (gap-room h) g p)

-- ---- one record

module _ (bytes : List ℕ) (can : possible bytes ≡ true) (d : Option Move) (e : given_or 30 d ≡ move_asked bytes) where
  told : given_or 30 d ≡ given (move_of bytes)
  unfolding move_asked
  told = e ∙ ap (λ (b : Bool). unless b 30 (given (move_of bytes))) can

  pub decoded_move : {m : Move} → d ≡ Some m → m ≡ move_of bytes
  decoded_move {m} q = let t : given m ≡ given (move_of bytes) = ap (given_or 30) (sym q) ∙ told in let s : m ≡ move_of bytes = cc in s

  pub decoded_some : {A : Type 0} → d ≡ None → A
  decoded_some q =
      let t : refused 30 ≡ given (move_of bytes) = ap (given_or 30) (sym q) ∙ told in
      let z : ◌≡◌ {A = ℕ} 0 1 = cc in absurd (let w : ⊥ = omega arith in w)

module _ {b : Board} {bytes : List ℕ} {at room : ℕ} (n : Next b bytes at room) {m : Move} (q : m ≡ move_of bytes) where
  pub next_fits : at + length (next_text at (jot_of (shown b) m)) ≤ room
  next_fits = subst (λ (k : Move). at + length (next_text at (jot_of (shown b) k)) ≤ room) (sym q) n.fits

  allows : allowed (shown b) m ≡ true
  allows = ap (allowed (shown b)) q ∙ n.ok

  module _ (said : sayable m ≡ true) where
    pub next_ready : Ready b m
    next_ready = record { sound = n.sound; said = said; allows = allows }

    pub next_notes : {old new : List ℕ} {r : ℕ} {d : Board} → Puts old new at r (next_text at (jot_of (shown b) m)) → Becomes d (after_move (shown b) m)
        → Notes b bytes old new at r d
    next_notes {old} {new} {r} {d} p s =
        let same = became s in
        record {
          puts = subst (λ (k : Move). Puts old new at r (next_text at (jot_of (shown b) k))) q p;
          becomes = subst (λ (k : Move). Becomes d (after_move (shown b) k)) q s;
          sound = subst Sound same (sound_after b n.sound m said allows);
        }

-- ---- what is left to write

-- a space before each
pub later : List Jot → List ℕ
later [] = []
later (j ∷ js) = (space ∷ jot_text j) ++ later js

-- at a place
unfoldable pub left : ℕ → List Jot → List ℕ
left at [] = []
left at (j ∷ js) = next_text at j ++ later js

line_later : (j : Jot) (js : List Jot) → line_text (j ∷ js) ≡ jot_text j ++ later js
unfolding line_text later
line_later j [] = sym (append-nil (jot_text j))
line_later j (k ∷ js) = ap (λ (l : List ℕ). jot_text j ++ (space ∷ l)) (line_later k js)

left_start : (js : List Jot) → line_text js ≡ left 0 js
unfolding left line_text next_text
left_start [] = refl
left_start (j ∷ js) = line_later j js ∙ ap (λ (l : List ℕ). (l ++ jot_text j) ++ later js) (sym (gap_none 0 refl))

left_later : (at : ℕ) → 1 ≤ at → (js : List Jot) → left at js ≡ later js
unfolding left later next_text
left_later at h [] = refl
left_later at h (j ∷ js) = ap (λ (l : List ℕ). (l ++ jot_text j) ++ later js) (gap_some at (λ e. let z : ⊥ = omega arith in z))

left_next : (at : ℕ) (j : Jot) (js : List Jot) → left at (j ∷ js) ≡ next_text at j ++ left (at + length (next_text at j)) js
unfolding left
left_next at j js =
    let l = next_long at j in
    let k = (jot_long j).0 in
    ap (λ (s : List ℕ). next_text at j ++ s) (sym (left_later (at + length (next_text at j)) (omega arith) js))

-- ---- a line that can be played, record by record

-- one record that is played
pub record Steps (b c : Board) (r : List ℕ) : Type 0 where
  pub can : possible r ≡ true
  pub ok : allowed (shown b) (move_of r) ≡ true
  pub board : c ≡ board_of (after_move (shown b) (move_of r))

played_steps : (b : Board) (m : Move) {c : Board} → recorded (played (shown b) m) ≡ given c → (allowed (shown b) m ≡ true) × (c ≡ board_of (after_move (shown b) m))
unfolding played
played_steps b m {c} e = by_ruling (ruling (shown b) m) refl e
  where
    by_ruling : (v : Verdict) → ruling (shown b) m ≡ v → recorded (after v (given (after_move (shown b) m))) ≡ given c → (allowed (shown b) m ≡ true) × (c ≡ board_of (after_move (shown b) m))
    by_ruling (given u) q e = (fine-allowed (shown b) m q, let s : c ≡ board_of (after_move (shown b) m) = cc in s)
    by_ruling (refused n) q e = let z : ◌≡◌ {A = ℕ} 0 1 = cc in absurd (let w : ⊥ = omega arith in w)

pub steps : (b : Board) (r : List ℕ) {c : Board} → stepped b r ≡ given c → Steps b c r
unfolding stepped move_asked
steps b r {c} e = by_record (possible r) refl e
  where
    by_record : (ok : Bool) → possible r ≡ ok → played_on b (unless ok 30 (given (move_of r))) ≡ given c → Steps b c r
    by_record true q e = let p = played_steps b (move_of r) e in record { can = q; ok = p.0; board = p.1 }
    by_record false q e = let z : ◌≡◌ {A = ℕ} 0 1 = cc in absurd (let w : ⊥ = omega arith in w)

record Turns (b : Board) (r : List ℕ) (rs : List (List ℕ)) : Type 0 where
  can : possible r ≡ true
  ok : allowed (shown b) (move_of r) ≡ true
  rest : (line_from (board_of (after_move (shown b) (move_of r))) rs).verdict ≡ fine

line_turns : (b : Board) (r : List ℕ) (rs : List (List ℕ)) → (line_from b (r ∷ rs)).verdict ≡ fine → Turns b r rs
unfolding line_from
line_turns b r rs e = by_step (stepped b r) refl e
  where
    by_step : (a : Answer Board) → stepped b r ≡ a → (go_on b a (λ c. line_from c rs)).verdict ≡ fine → Turns b r rs
    by_step (given c) q e =
        let s = steps b r q in
        record { can = s.can; ok = s.ok; rest = ap (λ (d : Board). (line_from d rs).verdict) (sym s.board) ∙ e }
    by_step (refused n) q e = let z : ◌≡◌ {A = ℕ} 0 1 = cc in absurd (let w : ⊥ = omega arith in w)

-- ---- what the loop knows

-- so far every record was written and played; what is written and what is left are the whole text
pub record Written (bytes : List ℕ) (b now : Board) (old new rest : List ℕ) (to : ℕ) : Type 0 where
  pub sound : Sound now
  pub plays : (line_from now (records_in rest)).verdict ≡ fine
  pub done : List ℕ
  pub puts : Puts old new 0 to done
  pub whole : text_of (shown b) (moves_in bytes) ≡ done ++ left to (jots_of (shown now) (moves_in rest))

module _ {bytes : List ℕ} {b : Board} {old : List ℕ} (w : Whole b bytes (length old)) where
  pub written_start : {rest : List ℕ} → rest ≡ bytes → Written bytes b b old old rest 0
  unfolding text_of
  written_start e =
      record {
        sound = w.sound;
        plays = ap (λ (l : List ℕ). (line_from b (records_in l)).verdict) e ∙ w.plays;
        done = [];
        puts = puts_nothing refl;
        whole = left_start (jots_of (shown b) (moves_in bytes)) ∙ ap (λ (l : List ℕ). left 0 (jots_of (shown b) (moves_in l))) (sym e);
      }

  module _ {now : Board} {new rest : List ℕ} {to : ℕ} (r : Written bytes b now old new rest to) where
    done_fits : length r.done ≤ length old
    done_fits =
        let l = ap length r.whole in
        let f = w.fits in
        let a = length-append r.done (left to (jots_of (shown now) (moves_in rest))) in
        omega arith

    pub written_long : length new ≡ length old
    written_long = let g = done_fits in puts_long (let q : 0 + length r.done ≤ length old = omega arith in q) r.puts

    -- the next record, and those after it
    abbrev jot_now : List ℕ → Jot
    jot_now next = jot_of (shown now) (move_of next)

    module _ (next later : List ℕ) (e : rest ≡ next ++ later) (five : length next ≡ 5) where
      turns : Turns now next (records_in later)
      turns =
          line_turns now next (records_in later)
          (ap (λ (rs : List (List ℕ)). (line_from now rs).verdict) (sym (records_front next later five) ∙ ap records_in (sym e)) ∙ r.plays)

      whole_next : text_of (shown b) (moves_in bytes)
          ≡ (r.done ++ next_text to (jot_now next)) ++ left (to + length (next_text to (jot_now next))) (jots_of (after_move (shown now) (move_of next)) (moves_in later))
      unfolding moves_in moves_of jots_of
      whole_next =
          r.whole
          ∙ ap (λ (rs : List (List ℕ)). r.done ++ left to (jots_of (shown now) (moves_of rs))) (ap records_in e ∙ records_front next later five)
          ∙ ap (λ (l : List ℕ). r.done ++ l) (left_next to (jot_now next) (jots_of (after_move (shown now) (move_of next)) (moves_in later)))
          ∙ sym (append_assoc r.done (next_text to (jot_now next)) (left (to + length (next_text to (jot_now next))) (jots_of (after_move (shown now) (move_of next)) (moves_in later))))

      next_room : to + length (next_text to (jot_now next)) ≤ length new
      next_room =
          let l = ap length whole_next in
          let f = w.fits in
          let a = length-append (r.done ++ next_text to (jot_now next)) (left (to + length (next_text to (jot_now next))) (jots_of (after_move (shown now) (move_of next)) (moves_in later))) in
          let d = length-append r.done (next_text to (jot_now next)) in
          let n = written_long in
          let t = r.puts.after in
          omega arith

      pub written_next : Next now next to (length new)
      written_next = let t = turns in record { sound = r.sound; can = t.can; ok = t.ok; fits = next_room }

      pub written_turn : {more : List ℕ} {end : ℕ} {then : Board} → Notes now next new more to end then → Written bytes b then old more later end
      written_turn {more} {end} {then} n =
          let t = turns in
          let g = done_fits in
          record {
            sound = n.sound;
            plays = ap (λ (d : Board). (line_from d (records_in later)).verdict) (sym (became n.becomes)) ∙ t.rest;
            done = r.done ++ next_text to (jot_now next);
            puts = puts_more (let q : 0 + length r.done ≤ length old = omega arith in q) r.puts n.puts;
            whole = whole_next
                ∙ ap₂ (λ (k : ℕ) (u : Table). (r.done ++ next_text to (jot_now next)) ++ left k (jots_of u (moves_in later))) (sym n.puts.after) (sym n.becomes.shows);
          }

    pub written_end : length rest < 5 → Puts old new 0 to (text_of (shown b) (moves_in bytes))
    unfolding left moves_in moves_of jots_of
    written_end h =
        puts_same
        (sym (r.whole
        ∙ ap (λ (rs : List (List ℕ)). r.done ++ left to (jots_of (shown now) (moves_of rs))) (records_none rest h)
        ∙ append-nil r.done))
        r.puts
