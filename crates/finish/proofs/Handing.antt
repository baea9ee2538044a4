-- The answer: its number, its pops, its list.
use mathlib.Core.Path.{◌≡◌, refl, sym, ap, ◌∙◌, subst}
use mathlib.Core.Bool.{Bool, true, false, not, ◌&&◌}
use mathlib.Core.List.{List}
use Prim.Native.Nat.{ℕ, ◌<◌, ◌≤◌}
use native.Mathlib.Omega.{arith}
use borrow.Author.Tests.{eq-eqb, ne_eqb}
use lib.Dec.{eqb}
use Rattle.board.specs.Table.{Table}
use Rattle.board.specs.Record.{shown, board_of}
use Rattle.board.specs.Inner.{Sound}
use Rattle.board.specs.declared.Board.{Board}
use Rattle.board.proofs.Fair.{shows_fair}
use Rattle.questions.specs.Questions.{won_on}
use Rattle.questions.proofs.Asking.{shown_foundation}
use Rattle.moves.specs.declared.Move.{Move}
use Rattle.moves.proofs.Writing.{written_none}
use Rattle.nodes.specs.Line.{line_to, table_to}
use Rattle.nodes.specs.Nodes.{Nodes}
use Rattle.nodes.proofs.Reaching.{node_shown}
use Rattle.search.specs.Freecell.{freecell}
use Rattle.search.specs.Solve.{best_said, progressed, answer}
use Rattle.memory.specs.declared.Room.{Room}
use Rattle.memory.specs.declared.Counts.{Counts}
use Rattle.memory.specs.declared.Ended.{Ended}
use Rattle.memory.specs.declared.Ended.TheVariants as ended
use Rattle.memory.specs.Memory.{Memory}
use Rattle.memory.specs.View.{node_of, state_of, end_of}
use Rattle.finish.specs.Said.{said_number}
use Rattle.finish.specs.declared.Said.{Said}
use Rattle.finish.specs.declared.Said.TheVariants.{BestAtLimit, BestExhausted, Limit, Exhausted, BestIsWon}
use Rattle.finish.specs.declared.Judged.{Judged}
use Rattle.finish.specs.Inner.{Closed, Gives, line_or, limit_said, answer_by}

-- no list: nothing is written
pub gives_none : (without with : Said) (l : List Move) (pops : ℕ) (old : List ℕ)
    → Gives (line_or false with without l pops) old old (record { said = without; pops = pops; moves = 0 })
gives_none without with l pops old = record { number = refl; pops = refl; moves = refl; list = sym (written_none old 0) }

-- ---- whether the best line is handed over

module _ (partial : Bool) (best : ℕ) where
  pub best_comes : partial ≡ true → 0 < best → (partial && not (eqb best 0)) ≡ true
  best_comes p h = rw (p, ne_eqb best 0 (λ q. let z : ⊥ = omega arith in z))

  pub best_is_root : partial ≡ true → best ≤ 0 → (partial && not (eqb best 0)) ≡ false
  best_is_root p h = rw (p, eq-eqb best 0 (omega arith))

  pub best_unasked : partial ≡ false → (partial && not (eqb best 0)) ≡ false
  best_unasked p = rw p

-- with the flag known
module _ (with without : Said) (l : List Move) (pops : ℕ) {old new : List ℕ} {r : Judged} {b : Bool} where
  pub gives_line : b ≡ true → Gives (line_or true with with l pops) old new r → Gives (line_or b with without l pops) old new r
  gives_line q g = subst (λ (x : Bool). Gives (line_or x with without l pops) old new r) (sym q) (record { number = g.number; pops = g.pops; moves = g.moves; list = g.list })

pub gives_nothing : (with without : Said) (l : List Move) (pops : ℕ) (old : List ℕ) {b : Bool} → b ≡ false
    → Gives (line_or b with without l pops) old old (record { said = without; pops = pops; moves = 0 })
gives_nothing with without l pops old q =
    subst (λ (x : Bool). Gives (line_or x with without l pops) old old (record { said = without; pops = pops; moves = 0 })) (sym q) (gives_none without with l pops old)

-- ---- what the best line is called at the limit

module _ {root : Board} (s : Sound root) {words : List ℕ} {n i : ℕ} (nodes : Nodes (shown root) words n) (h : i < n)
    {b : Board} (e : b ≡ board_of (table_to (shown root) words i)) {w : Bool} (q : w ≡ won_on b.foundation) where
  -- the board of the node is asked
  last_won : won_on (table_to (shown root) words i).foundation ≡ w
  last_won =
      sym (q ∙ ap won_on (shown_foundation b) ∙ ap (λ (t : Table). won_on t.foundation) (ap shown e ∙ node_shown nodes i h (shows_fair s)))

  pub said_finished : w ≡ true → BestIsWon ≡ limit_said (won_on (table_to (shown root) words i).foundation)
  said_finished t = sym (ap limit_said (last_won ∙ t))

  pub said_unfinished : w ≡ false → BestAtLimit ≡ limit_said (won_on (table_to (shown root) words i).foundation)
  said_unfinished t = sym (ap limit_said (last_won ∙ t))

-- with its name known
pub gives_called : (b : Bool) {with called : Said} (without : Said) (l : List Move) (pops : ℕ) {old new : List ℕ} {r : Judged} → with ≡ called
    → Gives (line_or b with without l pops) old new r → Gives (line_or b called without l pops) old new r
gives_called b {with} {called} without l pops {old} {new} {r} q g = subst (λ (s : Said). Gives (line_or b s without l pops) old new r) q g

-- ---- how the search ended is known

module _ {t : Table} {nodes : List ℕ} {e : Ended} where
  pub closed_won : {i : ℕ} {c : Counts} → e ≡ ended.Won i c → Closed t nodes e → (i < c.born) × Nodes t nodes c.born
  closed_won q c = subst (Closed t nodes) q c

  pub closed_limit : {c : Counts} → e ≡ ended.Limit c → Closed t nodes e → (c.best < c.born) × Nodes t nodes c.born
  closed_limit q c = subst (Closed t nodes) q c

  pub closed_exhausted : {c : Counts} → e ≡ ended.Exhausted c → Closed t nodes e → (c.best < c.born) × Nodes t nodes c.born
  closed_exhausted q c = subst (Closed t nodes) q c

pub gives_by : (t : Table) (nodes : List ℕ) (partial : Bool) {e d : Ended} {old new : List ℕ} {r : Judged} → e ≡ d
    → Gives (answer_by t nodes partial d) old new r → Gives (answer_by t nodes partial e) old new r
gives_by t nodes partial {e} {d} {old} {new} {r} q g = subst (λ (x : Ended). Gives (answer_by t nodes partial x) old new r) (sym q) g

-- ---- it is the definition's answer

module _ (t : Table) (r : Room) (m : Memory) (partial : Bool) where
  best_answer : (b : Bool) (with without : Said) (c : Counts)
      → line_or b with without (line_to t m.nodes c.best) c.pops ≡ progressed freecell b (said_number with) (said_number without) (state_of t r m c)
  unfolding state_of node_of
  best_answer true with without c = refl
  best_answer false with without c = refl

  limit_number : (w : Bool) → said_number (limit_said w) ≡ best_said w
  limit_number true = refl
  limit_number false = refl

  pub answer_is : (e : Ended) → answer_by t m.nodes partial e ≡ answer freecell partial (end_of t r m e)
  unfolding state_of node_of
  answer_is (ended.Won i c) = refl
  answer_is (ended.Limit c) =
      let w = won_on (table_to t m.nodes c.best).foundation in
      let b = partial && not (eqb c.best 0) in
      best_answer b (limit_said w) Limit c
      ∙ ap (λ (n : ℕ). progressed freecell b n (said_number Limit) (state_of t r m c)) (limit_number w)
  answer_is (ended.Exhausted c) = best_answer (partial && not (eqb c.best 0)) BestExhausted Exhausted c
  answer_is (ended.OutOfNodes p) = refl
