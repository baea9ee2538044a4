-- Up from a node to the root, step by step; and down again on a board.
use Rattle.base.specs.Answer.{given_or}
use Rattle.std.specs.Prelude.{None, Some, Option}
use mathlib.Core.Path.{◌≡◌, sym, ap, ap₂, ◌∙◌, subst}
use mathlib.Core.List.{List, [], ◌∷◌, ◌++◌, append_assoc, append-nil}
use Prim.Native.Nat.{ℕ, zero, suc, ◌+◌, ◌-◌, ◌<◌, ◌≤◌}
use native.Mathlib.Numerals.{add-one}
use native.Mathlib.Omega.{arith}
use lib.ListN.{length, get_or, set, take, drop, length-append, length-set, drop_of_length-le}
use lib.Seq.{length-take-le, take_at, drop-cons, set_at, get_or-take}
use Rattle.board.specs.Table.{Table}
use Rattle.board.specs.Record.{shown, board_of}
use Rattle.board.specs.Inner.{Sound}
use Rattle.board.specs.declared.Board.{Board}
use Rattle.board.proofs.Records.{record_of_shown, shown_of_record}
use Rattle.board.proofs.Fair.{shows_fair, fair_laid}
use Rattle.moves.specs.Record.{move_asked}
use Rattle.moves.specs.declared.Move.{Move}
use Rattle.moves.specs.Play.{after_move}
use Rattle.play.specs.Change.{Becomes, Ready}
use Rattle.replay.proofs.Stepping.{became}
use Rattle.candidates.specs.Children.{child_moves, child_table}
use Rattle.candidates.specs.Inner.{Bears}
use Rattle.candidates.proofs.Bearing.{child_fair, child_alone, next_sound}
use Rattle.candidates.proofs.Picking.{told_move, never_impossible}
use Rattle.nodes.specs.Step.{record_in, move_in, cost_in, parent_at, step_at}
use Rattle.nodes.specs.Line.{steps_to, table_by, line_by, table_to}
use Rattle.nodes.specs.Nodes.{Makes, Costs, AllSteps, AllMake, AllCost, Linked}
use Rattle.nodes.specs.Path.{Climbs, Plays, Leads}
use Rattle.nodes.proofs.Digits.{makes_playable}
use Rattle.nodes.proofs.Climbing.{steps_root, steps_next}

-- ---- up

-- the steps passed stand in the room, and those from here on are what is left
pub record Climbing (words : List ℕ) (n i : ℕ) (old now : List ℕ) (at deep : ℕ) : Type 0 where
  pub passed : List ℕ
  pub born : at < n
  pub deepness : length passed ≡ deep
  pub long : length now ≡ length old
  pub room : now ≡ passed ++ drop deep old
  pub on : passed ++ steps_to words at ≡ steps_to words i

module _ {words : List ℕ} {n i : ℕ} (l : Linked words n) {old now : List ℕ} {at deep : ℕ} (c : Climbing words n i old now at deep) where
  module _ (room : length (steps_to words i) ≤ length old) (some : 0 < at) where
    next : steps_to words at ≡ step_at words at ∷ steps_to words (parent_at words at)
    next = steps_next l at some c.born

    pub climb_room : deep < length old
    climb_room =
        let e = ap length c.on in
        let a = length-append c.passed (steps_to words at) in
        let s = ap length next in
        let d = c.deepness in
        omega arith

    pub climb_turn : {step up : ℕ} → step ≡ step_at words at → up ≡ parent_at words at → Climbing words n i old (set now deep step) up (deep + 1)
    climb_turn {step} {up} p q =
        record {
          passed = c.passed ++ (step ∷ []);
          born = let o = l.older at some c.born in let b = c.born in omega arith;
          deepness = length-append c.passed (step ∷ []) ∙ (let d = c.deepness in omega arith);
          long = length-set now deep step ∙ c.long;
          room =
              ap (λ (l : List ℕ). set l deep step) (c.room ∙ ap (λ (l : List ℕ). c.passed ++ l) (drop-cons old deep 0 climb_room))
              ∙ set_at c.passed (get_or old deep 0) (drop (suc deep) old) step deep c.deepness
              ∙ ap (λ (k : ℕ). c.passed ++ (step ∷ drop k old)) (sym (add-one deep))
              ∙ sym (append_assoc c.passed (step ∷ []) (drop (deep + 1) old));
          on =
              append_assoc c.passed (step ∷ []) (steps_to words up)
              ∙ ap (λ (l : List ℕ). c.passed ++ l) (ap₂ (λ (w j : ℕ). w ∷ steps_to words j) p q ∙ sym next) ∙ c.on;
        }

  pub climb_end : at ≤ 0 → Climbs (steps_to words i) old now deep
  climb_end h =
      let all : steps_to words i ≡ c.passed =
      sym c.on
      ∙ ap (λ (j : ℕ). c.passed ++ steps_to words j) (let q : at ≡ 0 = omega arith in q)
      ∙ ap (λ (l : List ℕ). c.passed ++ l) (steps_root words)
      ∙ append-nil c.passed in
      let d = c.deepness in
      record {
        room = c.room ∙ ap₂ (λ (l : List ℕ) (k : ℕ). l ++ drop k old) (sym all) (sym d ∙ ap length (sym all));
        many = sym d ∙ ap length (sym all);
      }

-- ---- one step

module _ {b : Board} (s : Sound b) {step : ℕ} (k : Makes (shown b) step) where
  pub step_ready : Ready b (move_in step)
  step_ready = let p = makes_playable k in record { sound = s; said = p.said; allows = p.allows }

  module _ {d : Option Move} (e : given_or 30 d ≡ move_asked (record_in step)) where
    pub step_is : {m : Move} → d ≡ Some m → m ≡ move_in step
    unfolding move_in
    step_is q = told_move (record_in step) k.told e q

    pub step_never : d ≡ None → ⊥
    step_never q = never_impossible (record_in step) k.told e q

    pub step_goes : {m : Move} → d ≡ Some m → Ready b m
    step_goes q = subst (Ready b) (sym (step_is q)) step_ready

    pub step_plays : {m : Move} {many : ℕ} {r : Board} → d ≡ Some m → Bears b m many r → Sound r → Plays b step r
    step_plays q h t = record { board = h.becomes ∙ ap (λ (m : Move). board_of (child_table (shown b) m)) (step_is q); sound = t }

    -- one move was spent on the step: the move alone makes it
    pub step_alone : {m : Move} {before cost : ℕ} {next : Board} → d ≡ Some m → Costs (shown b) before step → cost ≡ cost_in step → cost - before ≡ 1
        → Becomes next (after_move (shown b) m) → Plays b step next
    step_alone {m} q n c one e =
        let lone = child_alone (shown b) (move_in step) (let s = n.sum in omega arith) in
        record {
          board = sym (became e) ∙ ap board_of (ap (after_move (shown b)) (step_is q) ∙ sym lone);
          sound = next_sound (step_goes q) e;
        }

-- ---- down

-- the step at a place, and those before it
step_at_lem : (steps : List ℕ) (j : ℕ) → j < length steps → drop j steps ≡ get_or steps j 0 ∷ drop (j + 1) steps
step_at_lem steps j h = drop-cons steps j 0 h ∙ ap (λ (k : ℕ). get_or steps j 0 ∷ drop k steps) (sym (add-one j))

-- what holds of all steps holds from some place on, and of the step there
module _ (P : List ℕ → ℕ → Type 0) where
  all_drop : (j : ℕ) (steps : List ℕ) → AllSteps P steps → AllSteps P (drop j steps)
  all_drop zero steps a = a
  all_drop (suc j) [] a = tt
  all_drop (suc j) (w ∷ steps) a = all_drop j steps a.1

  all_at : (steps : List ℕ) → AllSteps P steps → (j : ℕ) → j < length steps → P (drop (j + 1) steps) (get_or steps j 0)
  all_at steps a j h = (subst (AllSteps P) (step_at_lem steps j h) (all_drop j steps a)).0

table_at : (t : Table) (steps : List ℕ) (j : ℕ) → j < length steps
    → table_by t (drop j steps) ≡ child_table (table_by t (drop (j + 1) steps)) (move_in (get_or steps j 0))
unfolding table_by
table_at t steps j h = ap (table_by t) (step_at_lem steps j h)

-- the steps from place `left` of a path on were made on the root's board
pub record Descending (root : Board) (path : List ℕ) (deep : ℕ) (board : Board) (left : ℕ) : Type 0 where
  pub upto : left ≤ deep
  pub sound : Sound board
  pub shows : shown board ≡ table_by (shown root) (drop left (take deep path))

-- one step more
pub plays_shows : {b : Board} {step : ℕ} {r : Board} → Sound b → Makes (shown b) step → Plays b step r → shown r ≡ child_table (shown b) (move_in step)
plays_shows {b} {step} s k p =
    let t = child_table (shown b) (move_in step) in
    ap shown p.board ∙ shown_of_record t (fair_laid t (child_fair (shown b) (shows_fair s) (move_in step) (makes_playable k)))

pub descend_start : {root : Board} {path : List ℕ} {deep : ℕ} → Leads root path deep → Descending root path deep root deep
unfolding table_by
descend_start {root} {path} {deep} w =
    let l = length-take-le deep path w.fits in
    record {
      upto = omega arith;
      sound = w.sound;
      shows = sym (ap (table_by (shown root)) (drop_of_length-le (take deep path) {i = deep} (omega arith)));
    }

module _ {root : Board} {path : List ℕ} {deep : ℕ} (w : Leads root path deep) {board : Board} {left : ℕ} (d : Descending root path deep board left) where
  module _ (some : 0 < left) where
    below : left - 1 < deep
    below = let u = d.upto in omega arith

    inside : left - 1 < length (take deep path)
    inside = let b = below in let l = length-take-le deep path w.fits in omega arith

    step_here : get_or (take deep path) (left - 1) 0 ≡ get_or path (left - 1) 0
    step_here = get_or-take deep path (left - 1) 0 below

    before : table_by (shown root) (drop (left - 1 + 1) (take deep path)) ≡ shown board
    before = ap (λ (k : ℕ). table_by (shown root) (drop k (take deep path))) (let q : left - 1 + 1 ≡ left = omega arith in q) ∙ sym d.shows

    pub descend_makes : Makes (shown board) (get_or path (left - 1) 0)
    descend_makes =
        subst (Makes (shown board)) step_here
        (subst (λ (u : Table). Makes u (get_or (take deep path) (left - 1) 0)) before (all_at (λ steps w. Makes (table_by (shown root) steps) w) (take deep path) w.makes (left - 1) inside))

    pub descend_turn : {next : Board} → Plays board (get_or path (left - 1) 0) next → Descending root path deep next (left - 1)
    descend_turn p =
        record {
          upto = let u = d.upto in omega arith;
          sound = p.sound;
          shows =
              plays_shows d.sound descend_makes p
              ∙ ap₂ (λ (u : Table) (w : ℕ). child_table u (move_in w)) (sym before) (sym step_here)
              ∙ sym (table_at (shown root) (take deep path) (left - 1) inside);
        }

    -- the line grows by the moves of the step
    pub descend_line : line_by (shown root) (drop (left - 1) (take deep path))
        ≡ line_by (shown root) (drop left (take deep path)) ++ child_moves (shown board) (move_in (get_or path (left - 1) 0))
    unfolding line_by
    descend_line =
        let rest = ap (λ (k : ℕ). line_by (shown root) (drop k (take deep path))) (let q : left - 1 + 1 ≡ left = omega arith in q) in
        let u = before in
        let v = step_here in
        ap (line_by (shown root)) (step_at_lem (take deep path) (left - 1) inside) ∙ (let z : line_by (shown root) (drop (left - 1 + 1) (take deep path)) ++ child_moves (table_by (shown root) (drop (left - 1 + 1) (take deep path))) (move_in (get_or (take deep path) (left - 1) 0)) ≡ line_by (shown root) (drop left (take deep path)) ++ child_moves (shown board) (move_in (get_or path (left - 1) 0)) = cc in z)

  pub descend_end : left ≤ 0 → board ≡ board_of (table_by (shown root) (take deep path))
  descend_end h =
      sym (record_of_shown board d.sound.in_columns)
      ∙ ap board_of (d.shows ∙ ap (λ (k : ℕ). table_by (shown root) (drop k (take deep path))) (let q : left ≡ 0 = omega arith in q))

-- the steps are made, and so many moves were spent
pub record Replaying (root : Board) (path : List ℕ) (deep : ℕ) (board : Board) (cost left : ℕ) : Type 0 where
  pub down : Descending root path deep board left
  pub spent : cost ≡ length (line_by (shown root) (drop left (take deep path)))

pub replay_start : {root : Board} {path : List ℕ} {deep : ℕ} → Leads root path deep → Replaying root path deep root 0 deep
unfolding line_by
replay_start {root} {path} {deep} w =
    let l = length-take-le deep path w.fits in
    record {
      down = descend_start w;
      spent = sym (ap (λ (steps : List ℕ). length (line_by (shown root) steps)) (drop_of_length-le (take deep path) {i = deep} (omega arith)));
    }

module _ {root : Board} {path : List ℕ} {deep : ℕ} (w : Leads root path deep) {board : Board} {cost left : ℕ} (d : Replaying root path deep board cost left)
    (some : 0 < left) where
  pub replay_costs : Costs (shown board) cost (get_or path (left - 1) 0)
  replay_costs =
      let steps = take deep path in
      let a = all_at (λ steps w. Costs (table_by (shown root) steps) (length (line_by (shown root) steps)) w) steps w.costs (left - 1) (inside w d.down some) in
      let s = a.sum in
      let u = before w d.down some in
      let v = step_here w d.down some in
      let n : length (line_by (shown root) (drop (left - 1 + 1) steps)) ≡ cost =
      ap (λ (k : ℕ). length (line_by (shown root) (drop k steps))) (let q : left - 1 + 1 ≡ left = omega arith in q) ∙ sym d.spent in
      record { sum = cc }

  pub replay_turn : {next : Board} {then : ℕ} → Plays board (get_or path (left - 1) 0) next → then ≡ cost_in (get_or path (left - 1) 0)
      → Replaying root path deep next then (left - 1)
  replay_turn p q =
      let line = descend_line w d.down some in
      record {
        down = descend_turn w d.down some p;
        spent =
            let s = replay_costs.sum in
            let n = d.spent in
            let a = length-append (line_by (shown root) (drop left (take deep path))) (child_moves (shown board) (move_in (get_or path (left - 1) 0))) in
            let e = ap length line in
            omega arith;
      }

-- ---- the path of a node

module _ {steps old new : List ℕ} {r : ℕ} (c : Climbs steps old new r) where
  pub path_steps : take r new ≡ steps
  path_steps = ap (take r) c.room ∙ take_at steps (drop (length steps) old) r (sym c.many)

  path_fits : r ≤ length new
  path_fits = let l = ap length c.room ∙ length-append steps (drop (length steps) old) in let m = c.many in omega arith

  pub path_leads : {root : Board} → Sound root → AllMake (shown root) steps → AllCost (shown root) steps → Leads root new r
  path_leads {root} s a q =
      record {
        sound = s;
        fits = path_fits;
        makes = subst (AllMake (shown root)) (sym path_steps) a;
        costs = subst (AllCost (shown root)) (sym path_steps) q;
      }

pub node_board : (t : Table) (words : List ℕ) (i : ℕ) {old path : List ℕ} {deep : ℕ} {b : Board} → Climbs (steps_to words i) old path deep
    → b ≡ board_of (table_by t (take deep path)) → b ≡ board_of (table_to t words i)
unfolding table_to
node_board t words i c e = e ∙ ap (λ (steps : List ℕ). board_of (table_by t steps)) (path_steps c)
