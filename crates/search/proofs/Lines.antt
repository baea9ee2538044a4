-- T1: every line that a search answers with leads from its board to a good one, within the depth; if it is called won, it ends won; at
-- the limit 5 says that it does too, 1 that it does not.
use mathlib.Core.Path.{◌≡◌, refl, sym, subst}
use mathlib.Core.Bool.{Bool, true, false, cond, ◌||◌}
use mathlib.Core.List.{List, [], ◌∷◌}
use Prim.Native.Nat.{ℕ, ◌≤◌}
use native.Mathlib.Omega.{arith}
use borrow.Author.Tests.{ltb-false}
use lib.Dec.{ltb}
use lib.ListN.{length}
use Rattle.search.specs.Game.{Game, Laws, among}
use Rattle.search.specs.Solve.{Perhaps, none, some, Node, State, End, won, limit, exhausted, out_of_nodes_at}
use Rattle.search.specs.Solve.{MAX_DEPTH, at_limit, when_exhausted, best_exhausted, cost, as_good, before, queued, better, start, child_of, dropped, bearing, taken, run, brings, best_at_limit, progressed, answer, solve_as, solve}
use Rattle.search.specs.Claims.{is_some, brings_list}
use Rattle.search.proofs.Numbers.{limit_said_lem, said_won, said_unwon, said_brings, not_at_limit}
use Rattle.search.proofs.Kept.{EndKept, kept}

module _ (G : Game) (L : Laws G) (b : G.Board) where
  -- a node whose line leads to its board, within the depth
  pub record Fine (n : Node G) : Type 0 where
    pub leads : L.Leads b n.line n.board
    pub good : L.Good n.board
    pub short : length n.line ≤ MAX_DEPTH

  abbrev AllFine : List (Node G) → Type 0
  AllFine [] = Unit {0}
  AllFine (n ∷ l) = Fine n × AllFine l

  pub record Sane (s : State G) : Type 0 where
    pub all : AllFine s.waiting
    pub best : Fine s.best

  -- ---- what is kept

  either_all : (t : Bool) (l m : List (Node G)) → AllFine l → AllFine m → AllFine (cond t l m)
  either_all true l m p q = p
  either_all false l m p q = q

  either : (t : Bool) (n m : Node G) → Fine n → Fine m → Fine (cond t n m)
  either true n m p q = p
  either false n m p q = q

  queued_fine : (m : Node G) → Fine m → (l : List (Node G)) → AllFine l → AllFine (queued G m l)
  unfolding queued
  queued_fine m f [] a = (f, tt)
  queued_fine m f (n ∷ l) a = either_all (before G m n) (m ∷ n ∷ l) (n ∷ queued G m l) (f, a) (a.0, queued_fine m f l a.1)

  first_false : (x y : Bool) → (x || y) ≡ false → x ≡ false
  first_false true y e = e
  first_false false y e = refl

  pub takes : (s : State G) (n : Node G) (l : List (Node G)) → s.waiting ≡ n ∷ l → Sane s → Sane (taken G l s) × Fine n
  unfolding taken
  takes s n l e p = let a = subst AllFine e p.all in (record { all = a.1; best = p.best }, a.0)

  pub bears : (n : Node G) (k : G.Move) (s : State G) → Fine n → among k (G.candidates n.board)
      → dropped G (child_of G n k s) s ≡ false → Sane s → Sane (bearing G (child_of G n k s) s)
  unfolding bearing dropped better child_of
  bears n k s f i e p =
      let m = child_of G n k s in
      let fine : Fine m =
      record {
        leads = L.both_lead f.leads (L.child_leads n.board k f.good i);
        good = L.child_good n.board k f.good i;
        short = ltb-false MAX_DEPTH (cost G m) (first_false (ltb MAX_DEPTH (cost G m)) (as_good (s.known m.board) (cost G m)) e);
      } in
      record {
        all = queued_fine m fine s.waiting p.all;
        best = either (ltb (G.progress s.best.board) (G.progress m.board)) m s.best fine p.best;
      }

  pub start_sane : L.Good b → Sane (start G b)
  unfolding start
  start_sane g =
      let root : Fine (record { number = 0; line = []; board = b }) = record { leads = L.none_leads b; good = g; short = omega arith } in
      record { all = (root, tt); best = root }

  abbrev pub BestFine : End G → Type 0
  BestFine (won l p) = Unit {0}
  BestFine (limit s) = Fine s.best
  BestFine (exhausted s) = Fine s.best
  BestFine (out_of_nodes_at p) = Unit {0}

  end_fine : (e : End G) → EndKept G Sane Fine takes bears e → BestFine e
  end_fine (won l p) q = tt
  end_fine (limit s) q = q.best
  end_fine (exhausted s) q = q.best
  end_fine (out_of_nodes_at p) q = tt

  -- the best node at an end is fine
  pub best_fine : L.Good b → (budget capacity : ℕ) → BestFine (run G budget capacity (start G b))
  best_fine g budget capacity =
      end_fine (run G budget capacity (start G b)) (kept G Sane Fine takes bears budget capacity (start G b) (start_sane g))

  -- ---- the answer

  -- a line that is answered: it leads to a good board within the depth, to a won one if it is called won or 5, to one that is not if 1
  pub record Answered (number : ℕ) (l : List G.Move) : Type 0 where
    pub end : G.Board
    pub leads : L.Leads b l end
    pub good : L.Good end
    pub short : length l ≤ MAX_DEPTH
    pub wins : number ≡ 0 → G.won end ≡ true
    pub finishes : number ≡ 5 → G.won end ≡ true
    pub unfinished : number ≡ 1 → G.won end ≡ false

  abbrev Told : ℕ → Perhaps (List G.Move) → Type 0
  Told number none = Unit {0}
  Told number (some l) = Answered number l

  best_told : (s : State G) (t : Bool) (x y : ℕ) → (x ≡ 0 → ⊥) → (x ≡ 5 → G.won s.best.board ≡ true)
      → (x ≡ 1 → G.won s.best.board ≡ false) → Sane s → Told (progressed G t x y s).number (progressed G t x y s).list
  best_told s true x y d f u p =
      record {
        end = s.best.board;
        leads = p.best.leads;
        good = p.best.good;
        short = p.best.short;
        wins = λ q. absurd (d q);
        finishes = f;
        unfinished = u;
      }
  best_told s false x y d f u p = tt

  end_told : (partial : Bool) (e : End G) → EndKept G Sane Fine takes bears e → Told (answer G partial e).number (answer G partial e).list
  end_told partial (won l p) q =
      let f = q.known in
      record {
        end = q.node.board;
        leads = subst (λ (m : List G.Move). L.Leads b m q.node.board) q.line f.leads;
        good = f.good;
        short = subst (λ (m : List G.Move). length m ≤ MAX_DEPTH) q.line f.short;
        wins = λ z. q.wins;
        finishes = λ z. q.wins;
        unfinished = λ z. absurd (let w : ⊥ = omega arith in w);
      }
  end_told partial (limit s) q =
      best_told s (brings G partial s) (best_at_limit G s) at_limit
      (λ z. not_at_limit {n = 0} (λ e. omega arith) (λ e. omega arith) (limit_said_lem (G.won s.best.board) z))
      (said_won (G.won s.best.board)) (said_unwon (G.won s.best.board)) q
  end_told partial (exhausted s) q =
      best_told s (brings G partial s) best_exhausted when_exhausted (λ z. let w : ⊥ = omega arith in w)
      (λ z. absurd (let w : ⊥ = omega arith in w)) (λ z. absurd (let w : ⊥ = omega arith in w)) q
  end_told partial (out_of_nodes_at p) q = tt

  solve_told : L.Good b → (budget capacity : ℕ) (partial w : Bool) → G.won b ≡ w
      → Told (solve_as G w b budget capacity partial).number (solve_as G w b budget capacity partial).list
  solve_told g budget capacity partial true e =
      record {
        end = b;
        leads = L.none_leads b;
        good = g;
        short = omega arith;
        wins = λ z. e;
        finishes = λ z. e;
        unfinished = λ z. absurd (let w : ⊥ = omega arith in w);
      }
  solve_told g budget capacity partial false e =
      end_told partial (run G budget capacity (start G b)) (kept G Sane Fine takes bears budget capacity (start G b) (start_sane g))

  -- T1
  pub lines_lead : L.Good b → (budget capacity : ℕ) (partial : Bool) (l : List G.Move) → (solve G b budget capacity partial).list ≡ some l
      → Answered (solve G b budget capacity partial).number l
  unfolding solve
  lines_lead g budget capacity partial l e =
      subst (Told (solve_as G (G.won b) b budget capacity partial).number) e (solve_told g budget capacity partial (G.won b) refl)

module _ (G : Game) where
  -- ---- which answers bring a list

  best_number : (t : Bool) (x y : ℕ) (s : State G) → brings_list x ≡ true → brings_list y ≡ false
      → is_some (progressed G t x y s).list ≡ brings_list (progressed G t x y s).number
  best_number true x y s e f = sym e
  best_number false x y s e f = sym f

  list_number : (p : Bool) (e : End G) → is_some (answer G p e).list ≡ brings_list (answer G p e).number
  list_number p (won l n) = refl
  list_number p (limit s) = best_number (brings G p s) (best_at_limit G s) at_limit s (said_brings (G.won s.best.board)) refl
  list_number p (exhausted s) = best_number (brings G p s) best_exhausted when_exhausted s refl refl
  list_number p (out_of_nodes_at n) = refl

  -- answers 0, 1, 2 and 5 bring a list, the others none
  pub list_when : (b : G.Board) (budget capacity : ℕ) (p : Bool) → is_some (solve G b budget capacity p).list ≡ brings_list (solve G b budget capacity p).number
  unfolding solve
  list_when b budget capacity p = by_start (G.won b)
    where
      by_start : (w : Bool) → is_some (solve_as G w b budget capacity p).list ≡ brings_list (solve_as G w b budget capacity p).number
      by_start true = refl
      by_start false = list_number p (run G budget capacity (start G b))
