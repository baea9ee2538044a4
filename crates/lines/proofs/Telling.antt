-- The chain written turn by turn, a step, and step after step.
use Rattle.std.specs.Prelude.{Some, None}
use mathlib.Core.Path.{◌≡◌, refl, sym, ap, ◌∙◌}
use mathlib.Core.List.{List, [], ◌∷◌, ◌++◌, append_assoc, append-nil}
use Prim.Native.Nat.{ℕ, zero, suc, ◌+◌, ◌-◌, ◌*◌, ◌<◌, ◌≤◌}
use native.Mathlib.Omega.{arith}
use lib.ListN.{length, get_or, take, drop, length-append, drop_of_length-le}
use lib.Seq.{length-take-le}
use Rattle.board.specs.Table.{Table}
use Rattle.board.specs.Record.{shown, board_of}
use Rattle.board.specs.Inner.{Sound}
use Rattle.board.specs.declared.Board.{Board}
use Rattle.board.proofs.Records.{record_of_shown}
use Rattle.moves.specs.Play.{after_move}
use Rattle.moves.specs.declared.Move.{Move}
use Rattle.play.specs.Change.{Becomes}
use Rattle.replay.specs.Played.{after_moves}
use Rattle.replay.proofs.Legal.{after-append}
use Rattle.moves.specs.Written.{Adds}
use Rattle.moves.proofs.Writing.{adds_none, adds_same, adds_long, adds_more}
use Rattle.safe.specs.Safe.{first_safe}
use Rattle.safe.specs.Chain.{chain_of, chain}
use Rattle.safe.proofs.Chaining.{chain_next, chain_none, chain_stops}
use Rattle.safe.proofs.Handing.{chain_ready}
use Rattle.candidates.specs.Children.{child_moves}
use Rattle.candidates.proofs.Bearing.{child_some, child_reached, next_sound}
use Rattle.nodes.specs.Step.{move_in}
use Rattle.nodes.specs.Line.{table_by, line_by, line_to, steps_to}
use Rattle.nodes.specs.Nodes.{Nodes}
use Rattle.nodes.specs.Path.{Plays, Leads, Climbs}
use Rattle.nodes.proofs.Walking.{Descending, descend_start, descend_line, descend_turn, path_steps}
use Rattle.lines.specs.Written.{Writes}
use Rattle.lines.specs.declared.Written.{Written}

-- ---- the chain

-- the moves passed are written and played, and what is left of the chain goes on from here
pub record Going (b : Board) (old : List ℕ) (n : ℕ) (board : Board) (now : List ℕ) (records moves : ℕ) : Type 0 where
  pub passed : List Move
  pub sound : Sound board
  pub upto : moves ≤ 52
  pub shows : shown board ≡ after_moves (shown b) passed
  pub on : passed ++ chain_of (52 - moves) (shown board) ≡ chain (shown b)
  pub adds : Adds old now n records passed

pub going_start : {b : Board} (old : List ℕ) (n : ℕ) → Sound b → Going b old n b old n 0
unfolding chain after_moves
going_start old n s =
    record { passed = []; sound = s; upto = omega arith; shows = refl; on = refl; adds = adds_none old n refl }

module _ {b : Board} {old : List ℕ} {n : ℕ} (room : (n + length (chain (shown b))) * 5 ≤ length old) {board : Board} {now : List ℕ}
    {records moves : ℕ} (g : Going b old n board now records moves) where
  so_far : (n + length g.passed) * 5 ≤ length old
  so_far = let a = length-append g.passed (chain_of (52 - moves) (shown board)) in let e = ap length g.on in omega arith

  pub going_long : length now ≡ length old
  going_long = adds_long so_far g.adds

  module _ {m : Move} (below : moves < 52) (e : first_safe (shown board) ≡ Some m) where
    left : chain_of (52 - moves) (shown board) ≡ m ∷ chain_of (52 - (moves + 1)) (after_move (shown board) m)
    left =
        ap (λ (k : ℕ). chain_of k (shown board)) (let q : 52 - moves ≡ suc (52 - (moves + 1)) = omega arith in q)
        ∙ chain_next (52 - (moves + 1)) (shown board) e

    pub going_room : (records + 1) * 5 ≤ length now
    going_room =
        let a = length-append g.passed (chain_of (52 - moves) (shown board)) in
        let c = ap length g.on in
        let d = ap length left in
        let l = going_long in
        let r = g.adds.many in
        omega arith

    pub going_turn : {next : Board} {then : List ℕ} {more : ℕ} → Adds now then records more (m ∷ []) → Becomes next (after_move (shown board) m)
        → Going b old n next then more (moves + 1)
    unfolding after_moves
    going_turn {next} a d =
        record {
          passed = g.passed ++ (m ∷ []);
          sound = next_sound (chain_ready g.sound e) d;
          upto = omega arith;
          shows = d.shows ∙ ap (λ (t : Table). after_move t m) g.shows ∙ sym (after-append g.passed (m ∷ []) (shown b));
          on =
              append_assoc g.passed (m ∷ []) (chain_of (52 - (moves + 1)) (shown next))
              ∙ ap (λ (l : List Move). g.passed ++ l) (ap (λ (t : Table). m ∷ chain_of (52 - (moves + 1)) t) d.shows ∙ sym left) ∙ g.on;
          adds = adds_more so_far g.adds a;
        }

  done : chain_of (52 - moves) (shown board) ≡ [] → Writes b (chain (shown b)) old now n (record { board = board; records = records })
  done e =
      let all : g.passed ≡ chain (shown b) = sym (append-nil g.passed) ∙ ap (λ (l : List Move). g.passed ++ l) (sym e) ∙ g.on in
      record {
        adds = adds_same all g.adds;
        board = sym (record_of_shown board g.sound.in_columns) ∙ ap board_of (g.shows ∙ ap (after_moves (shown b)) all);
        sound = g.sound;
      }

  pub going_stop : first_safe (shown board) ≡ None → Writes b (chain (shown b)) old now n (record { board = board; records = records })
  going_stop e = done (chain_stops (52 - moves) (shown board) e)

  pub going_full : 52 ≤ moves → Writes b (chain (shown b)) old now n (record { board = board; records = records })
  going_full h = done (ap (λ (k : ℕ). chain_of k (shown board)) (let q : 52 - moves ≡ 0 = omega arith in q) ∙ chain_none (shown board))

-- ---- a step: its move, and then the chain on the board after it

module _ (b : Board) (step n : ℕ) (old : List ℕ) {m : Move} (e : m ≡ move_in step) (room : (n + length (child_moves (shown b) (move_in step))) * 5 ≤ length old) where
  pub first-room : (n + 1) * 5 ≤ length old
  first-room = let s = child_some (shown b) (move_in step) in omega arith

  module _ {mid : List ℕ} {first : ℕ} (a : Adds old mid n first (m ∷ [])) {next : Board} (d : Becomes next (after_move (shown b) m)) where
    both : child_moves (shown b) (move_in step) ≡ m ∷ chain (shown next)
    unfolding child_moves
    both = ap (child_moves (shown b)) (sym e) ∙ ap (λ (t : Table). m ∷ chain t) (sym d.shows)

    mid_long : length mid ≡ length old
    mid_long = adds_long first-room a

    pub rest_room : (first + length (chain (shown next))) * 5 ≤ length mid
    rest_room = let l = mid_long in let c = ap length both in let r = a.many in omega arith

    pub step_writes : {new : List ℕ} {r : Written} → Writes next (chain (shown next)) mid new first r → Writes b (child_moves (shown b) (move_in step)) old new n r
    unfolding after_moves
    step_writes w =
        record {
          adds = adds_same (sym both) (adds_more first-room a w.adds);
          board =
              w.board ∙ ap (λ (t : Table). board_of (after_moves t (chain (shown next)))) d.shows
              ∙ ap (λ (ms : List Move). board_of (after_moves (shown b) ms)) (sym both);
          sound = w.sound;
        }

pub written_plays : {b : Board} {step : ℕ} {old new : List ℕ} {n : ℕ} {r : Written} → Writes b (child_moves (shown b) (move_in step)) old new n r → Plays b step r.board
written_plays {b} {step} w = record { board = w.board ∙ ap board_of (child_reached (shown b) (move_in step)); sound = w.sound }

-- ---- step after step

-- fewer steps have no more moves
line_upto : (t : Table) (j : ℕ) (steps : List ℕ) → length (line_by t (drop j steps)) ≤ length (line_by t steps)
unfolding line_by
line_upto t zero steps = omega arith
line_upto t (suc j) [] = omega arith
line_upto t (suc j) (w ∷ steps) =
    let h = line_upto t j steps in
    let l = length-append (line_by t steps) (child_moves (table_by t steps) (move_in w)) in
    omega arith

-- the steps from place `left` of a path on are made and written
pub record Telling (root : Board) (path : List ℕ) (deep : ℕ) (old : List ℕ) (board : Board) (left : ℕ) (now : List ℕ) (records : ℕ) : Type 0 where
  pub down : Descending root path deep board left
  pub adds : Adds old now 0 records (line_by (shown root) (drop left (take deep path)))

pub telling_start : {root : Board} {path : List ℕ} {deep : ℕ} (old : List ℕ) → Leads root path deep → Telling root path deep old root deep old 0
unfolding line_by
telling_start {root} {path} {deep} old w =
    let l = length-take-le deep path w.fits in
    record {
      down = descend_start w;
      adds = adds_none old 0 (ap (line_by (shown root)) (drop_of_length-le (take deep path) {i = deep} (omega arith)));
    }

module _ {root : Board} {path : List ℕ} {deep : ℕ} (w : Leads root path deep) {old : List ℕ} (room : length (line_by (shown root) (take deep path)) * 5 ≤ length old)
    {board : Board} {left : ℕ} {now : List ℕ} {records : ℕ} (k : Telling root path deep old board left now records) where
  abbrev told : List Move
  told = line_by (shown root) (drop left (take deep path))

  told-room : (0 + length told) * 5 ≤ length old
  told-room = let u = line_upto (shown root) left (take deep path) in omega arith

  pub telling_long : length now ≡ length old
  telling_long = adds_long told-room k.adds

  module _ (some : 0 < left) where
    pub telling_room : (records + length (child_moves (shown board) (move_in (get_or path (left - 1) 0)))) * 5 ≤ length now
    telling_room =
        let u = line_upto (shown root) (left - 1) (take deep path) in
        let e = ap length (descend_line w k.down some) in
        let a = length-append told (child_moves (shown board) (move_in (get_or path (left - 1) 0))) in
        let l = telling_long in
        let m = k.adds.many in
        omega arith

    pub telling_turn : {then : List ℕ} {r : Written} → Writes board (child_moves (shown board) (move_in (get_or path (left - 1) 0))) now then records r
        → Telling root path deep old r.board (left - 1) then r.records
    telling_turn x =
        record {
          down = descend_turn w k.down some (written_plays x);
          adds = adds_same (sym (descend_line w k.down some)) (adds_more told-room k.adds x.adds);
        }

-- ---- the path of a node

pub node_room : {t : Table} {words : List ℕ} {n : ℕ} → Nodes t words n → (i : ℕ) → i < n → {old path : List ℕ} {deep lent : ℕ}
    → Climbs (steps_to words i) old path deep → 1000 ≤ lent → length (line_by t (take deep path)) * 5 ≤ lent
unfolding line_to
node_room {t} k i b c room = let s = k.short i b in let e = ap (λ (steps : List ℕ). length (line_by t steps)) (path_steps c) in omega arith

pub node_line : (t : Table) (words : List ℕ) (i : ℕ) {old path : List ℕ} {deep : ℕ} → Climbs (steps_to words i) old path deep
    → {list new : List ℕ} {r : ℕ} → Adds list new 0 r (line_by t (take deep path)) → Adds list new 0 r (line_to t words i)
unfolding line_to
node_line t words i c a = adds_same (ap (line_by t) (path_steps c)) a
