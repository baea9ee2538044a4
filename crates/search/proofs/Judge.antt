-- The theorems T1 to T5 for FreeCell. A board that is accepted (`examined b ≡ fine`) is `Sound` by `sound` of board/proofs/Soundness.antt.
use mathlib.Core.Path.{◌≡◌, refl, sym, ap, ◌∙◌}
use mathlib.Core.Bool.{Bool, true, false}
use mathlib.Core.List.{List}
use mathlib.Core.Logic.{◌⊎◌, inl, inr}
use Prim.Native.Nat.{ℕ, ◌≤◌}
use native.Mathlib.Omega.{arith}
use borrow.Author.Tests.{le-leb}
use lib.Signed.{le_z}
use Rattle.base.proofs.Words.{true_or_not}
use Rattle.board.specs.Table.{Table}
use Rattle.board.specs.Record.{shown}
use Rattle.board.specs.Inner.{Sound}
use Rattle.board.specs.declared.Board.{Board}
use Rattle.board.proofs.Fair.{shows_fair}
use Rattle.questions.specs.Questions.{won_on}
use Rattle.moves.specs.declared.Move.{Move}
use Rattle.replay.specs.Played.{after_moves, Legal}
use Rattle.replay.proofs.Legal.{legal_fair, legal_cards, line_legal}
use Rattle.features.specs.Features.{Bounded, features_of}
use Rattle.score.specs.Scores.{progress_key}
use Rattle.features.proofs.Bounds.{fair_bounded}
use Rattle.score.proofs.Keys.{progress-order}
use Rattle.search.specs.Solve.{some, none, State, Answer, limit, start, run}
use Rattle.search.specs.Freecell.{freecell, judge}
use Rattle.search.specs.Claims.{is_some, brings_list, is_best_at_limit, is_best, is_limit, OutOfNodes, Follows, Struck, best_of, Borne, Becomes}
use Rattle.search.specs.Played.{ends_won, PlayedOut, final_score}
use Rattle.search.proofs.Numbers.{limit_said_lem}
use Rattle.search.proofs.Ruled.{Reaches, freecell_laws}
use Rattle.search.proofs.Lines.{Answered, lines_lead, list_when}
use Rattle.search.proofs.Masters as masters
use Rattle.search.proofs.Pops.{pops_within, limit_spends}
use Rattle.search.proofs.Room.{no_room_only_then, no_room_always_then}
use Rattle.search.proofs.OneRun as one
use Rattle.search.proofs.Striking as striking
use Rattle.search.proofs.Finishing as finishing

-- ---- T1: lists that can be played

module _ (b : Board) (s : Sound b) (budget capacity : ℕ) (partial : Bool) (l : List Move) where
  led : (judge (shown b) budget capacity partial).list ≡ some l
      → Answered freecell freecell_laws (shown b) (judge (shown b) budget capacity partial).number l
  unfolding judge
  led e = lines_lead freecell freecell_laws (shown b) (shows_fair s) budget capacity partial l e

  -- every list that is handed over can be played from the board, move by move; it has at most 200 moves; all 52 cards are still
  -- there after it; if the hand is called won, it is; and at the limit 5 says that the last board is won, 1 that it is not
  pub T1 : (judge (shown b) budget capacity partial).list ≡ some l → PlayedOut b (judge (shown b) budget capacity partial).number l
  T1 e =
      let r = led e in
      let legal : Legal (shown b) l = r.leads.legal in
      let cards = legal_cards l (shown b) (shows_fair s) legal in
      let within = r.short in
      record {
        legal = legal;
        replays = line_legal l b s legal;
        short = omega arith;
        cards = cards;
        pack = λ k h. cards _ ∙ s.once k h;
        wins = λ z. last r.leads.there ∙ r.wins z;
        finishes = λ z. last r.leads.there ∙ r.finishes z;
        unfinished = λ z. last r.leads.there ∙ r.unfinished z;
      }
    where
      last : {u : Table} → after_moves (shown b) l ≡ u → ends_won (shown b) l ≡ won_on u.foundation
      last e = ap (λ (t : Table). won_on t.foundation) e

-- answers 0, 1, 2 and 5 bring a list, the others none
pub T1_list : (t : Table) (budget capacity : ℕ) (partial : Bool) → is_some (judge t budget capacity partial).list ≡ brings_list (judge t budget capacity partial).number
unfolding judge
T1_list t budget capacity partial = list_when freecell t budget capacity partial

-- ---- T2: two masters agree

module _ (t : Table) (a c x y : ℕ) (p q : Bool) where
  -- two controllers that both call a hand won hand over the same list, whatever their budgets, capacities and flags
  pub T2_list : (judge t a c p).number ≡ 0 → (judge t x y q).number ≡ 0 → (judge t a c p).list ≡ (judge t x y q).list
  unfolding judge
  T2_list e f = masters.one_winning_list freecell t a c x y p q e f

  -- never won on one and exhausted on the other
  pub T2_apart : (judge t a c p).number ≡ 0 → ((judge t x y q).number ≡ 2) ⊎ ((judge t x y q).number ≡ 4) → ⊥
  unfolding judge
  T2_apart e f = masters.not_won_and_exhausted freecell t a c x y p q e f

-- ---- T3: more keeps what was found

-- with budget and capacity no smaller and the same flag, won and exhausted stay: the same answer, list and count
pub T3_stays : (t : Table) (a c x y : ℕ) (p : Bool) → a ≤ x → c ≤ y
    → ((judge t a c p).number ≡ 0) ⊎ (((judge t a c p).number ≡ 2) ⊎ ((judge t a c p).number ≡ 4)) → judge t x y p ≡ judge t a c p
unfolding judge
T3_stays t a c x y p h k f = masters.larger_settings freecell t a c x y p h k f

-- and where both bring a best-progress list, the final score is no lower with the larger settings
module _ (b : Board) (s : Sound b) {a c x y : ℕ} (h : a ≤ x) (k : c ≤ y) (p : Bool) (l m : List Move) where
  reached : (budget capacity : ℕ) (l : List Move) → (judge (shown b) budget capacity p).list ≡ some l → Reaches (shown b) l (after_moves (shown b) l)
  reached budget capacity l e = record { legal = (T1 b s budget capacity p l e).legal; there = refl }

  last_bounded : (l : List Move) → Reaches (shown b) l (after_moves (shown b) l) → Bounded (features_of (after_moves (shown b) l))
  last_bounded l r = fair_bounded (after_moves (shown b) l) (legal_fair l (shown b) (shows_fair s) r.legal)

  keys_rise : is_best (judge (shown b) a c p).number → (judge (shown b) a c p).list ≡ some l
      → is_best (judge (shown b) x y p).number → (judge (shown b) x y p).list ≡ some m
      → Reaches (shown b) l (after_moves (shown b) l) → Reaches (shown b) m (after_moves (shown b) m)
      → progress_key (features_of (after_moves (shown b) l)) ≤ progress_key (features_of (after_moves (shown b) m))
  unfolding judge
  keys_rise i e j f r q =
      masters.never_lower freecell freecell_laws (shown b) (shows_fair s) h k p l m (after_moves (shown b) l) (after_moves (shown b) m) r q i e j f

  pub T3_score : is_best (judge (shown b) a c p).number → (judge (shown b) a c p).list ≡ some l
      → is_best (judge (shown b) x y p).number → (judge (shown b) x y p).list ≡ some m
      → le_z (final_score (shown b) l) (final_score (shown b) m) ≡ true
  unfolding final_score
  T3_score i e j f =
      let r = reached a c l e in
      let q = reached x y m f in
      let d = features_of (after_moves (shown b) l) in
      let g = features_of (after_moves (shown b) m) in
      sym (progress-order d g (last_bounded l r) (last_bounded m q)) ∙ le-leb (progress_key d) (progress_key g) (keys_rise i e j f r q)

-- ---- T4: pops, the limit, and 23

-- no more pops than the budget
pub T4_pops : (t : Table) (budget capacity : ℕ) (partial : Bool) → (judge t budget capacity partial).pops ≤ budget
unfolding judge
T4_pops t budget capacity partial = pops_within freecell t budget capacity partial

-- the limit is told only when the budget is spent
pub T4_limit : (t : Table) (budget capacity : ℕ) (partial : Bool)
    → is_limit (judge t budget capacity partial).number → (judge t budget capacity partial).pops ≡ budget
unfolding judge
T4_limit t budget capacity partial e = limit_spends freecell t budget capacity partial e

module _ (t : Table) (budget capacity : ℕ) (partial : Bool) where
  -- 23 is given only when a child passes the depth and cost tests and the nodes already fill the capacity
  pub T4_no_room_only_then : (judge t budget capacity partial).number ≡ 23
      → (won_on t.foundation ≡ false) × OutOfNodes freecell budget capacity (start freecell t) (judge t budget capacity partial).pops
  unfolding judge
  T4_no_room_only_then e = no_room_only_then freecell t budget capacity partial e

  -- and always then
  pub T4_no_room_always_then : (pops : ℕ) → won_on t.foundation ≡ false → OutOfNodes freecell budget capacity (start freecell t) pops
      → judge t budget capacity partial ≡ record { number = 23; list = none; pops = pops }
  unfolding judge
  T4_no_room_always_then pops w r = no_room_always_then freecell t budget capacity partial pops w r

-- the settings say only where a run stops: with larger ones it ends alike, or goes on from where the smaller one stopped
pub T4_prefix : (t : Table) {a c x y : ℕ} → a ≤ x → c ≤ y → Follows freecell a c x y (start freecell t) (run freecell a c (start freecell t))
T4_prefix t {a} {c} h k = one.prefix freecell h k (start freecell t) (run freecell a c (start freecell t)) refl

-- after so many pops two searches of one board stand at the same state, whatever their capacities
pub T4_same_state : (t : Table) (pops c d : ℕ) (u v : State freecell) → run freecell pops c (start freecell t) ≡ limit u
    → run freecell pops d (start freecell t) ≡ limit v → u ≡ v
T4_same_state t pops c d u v e f = one.same_state freecell pops c d (start freecell t) u v e f

-- ---- T5: a best line that finishes

-- where 1 was given before request (v), the answer brings the best line, and is called 5 if that ends won, else 1
pub T5_called : (t : Table) (budget capacity : ℕ) (partial : Bool) (r : Struck freecell t budget capacity partial)
    → judge t budget capacity partial ≡ best_of freecell r.state
unfolding judge
T5_called t budget capacity partial r = striking.called freecell t budget capacity partial r

pub T5_brings : (t : Table) (budget capacity : ℕ) (partial : Bool) → Struck freecell t budget capacity partial → is_best_at_limit (judge t budget capacity partial).number
T5_brings t budget capacity partial r =
    limit_said_lem (freecell.won r.state.best.board) (sym (ap (λ (a : Answer freecell). a.number) (T5_called t budget capacity partial r)))

-- and 1 and 5 are given only there
pub T5_struck : (t : Table) (budget capacity : ℕ) (partial : Bool) → is_best_at_limit (judge t budget capacity partial).number → Struck freecell t budget capacity partial
unfolding judge
T5_struck t budget capacity partial e = striking.struck freecell t budget capacity partial e

module _ (b : Board) (s : Sound b) (budget capacity : ℕ) (partial : Bool) (l : List Move) (e : (judge (shown b) budget capacity partial).list ≡ some l) where
  -- 5 is given where 1 was and the last board of the list is won ..
  pub T5_then : Struck freecell (shown b) budget capacity partial → ends_won (shown b) l ≡ true
      → (judge (shown b) budget capacity partial).number ≡ 5
  T5_then r w = by (T5_brings (shown b) budget capacity partial r)
    where
      by : is_best_at_limit (judge (shown b) budget capacity partial).number → (judge (shown b) budget capacity partial).number ≡ 5
      by (inl q) = true_or_not (ends_won (shown b) l) w ((T1 b s budget capacity partial l e).unfinished q)
      by (inr q) = q

  -- .. and only there
  pub T5_only : (judge (shown b) budget capacity partial).number ≡ 5 → Struck freecell (shown b) budget capacity partial × (ends_won (shown b) l ≡ true)
  T5_only q = (T5_struck (shown b) budget capacity partial (inr q), (T1 b s budget capacity partial l e).finishes q)

-- 1 and 5 are given with the flag alone
pub T5_flag : (t : Table) (budget capacity : ℕ) (partial : Bool) → is_best_at_limit (judge t budget capacity partial).number → partial ≡ true
unfolding judge
T5_flag t budget capacity partial e = striking.flagged freecell t budget capacity partial e

-- with budget and capacity no smaller and the same flag, 5 becomes 0, 5 with the same list, 23, or 2 with the same list, the last only
-- where two boards that the run bears, one won and one not, share a signature
pub T5 : (b : Board) → Sound b → {a c x y : ℕ} → a ≤ x → c ≤ y → (p : Bool) (l : List Move) → (judge (shown b) a c p).number ≡ 5
    → (judge (shown b) a c p).list ≡ some l → Becomes freecell (Borne freecell x y (start freecell (shown b))) l (judge (shown b) x y p)
unfolding judge
T5 b s h k p l e q = finishing.finishes freecell freecell_laws (shown b) (shows_fair s) h k p l e q
