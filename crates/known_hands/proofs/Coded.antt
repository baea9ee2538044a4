-- P1 to P11 for the code: a call of `solve`, of `heuristic_of` or `progress_of`, of `max_movable_cards` or of `is_safe` that keeps its
-- promise answers each hand as the table says.
use Rattle.std.specs.Prelude.{Result}
use mathlib.Core.Path.{◌≡◌, refl, sym, ap, ◌∙◌, subst}
use mathlib.Core.Bool.{Bool, true, false, not, xor, ◌&&◌}
use mathlib.Core.List.{List, [], ◌∷◌}
use mathlib.Core.Logic.{inl, inr}
use Prim.Native.Nat.{ℕ}
use lib.IntN.{ℤ}
use borrow.Author.Tests.{eqb-true}
use lib.Dec.{eqb, ltb}
use Rattle.base.specs.Answer.{given}
use Rattle.card.specs.Card.{is_card}
use Rattle.base.proofs.Words.{first, second}
use Rattle.board.specs.Table.{Table}
use Rattle.board.specs.Verdict.{Verdict, fine, after}
use Rattle.board.specs.Record.{shown, examined}
use Rattle.board.specs.Refusal as refusal
use Rattle.board.specs.declared.Board.{Board}
use Rattle.board.specs.declared.Refusal.{Refusal}
use Rattle.rules.specs.Limit.{most_moved}
use Rattle.rules.specs.Asked.{most_asked}
use Rattle.features.specs.Features.{features_of}
use Rattle.score.specs.Scores.{heuristic, progress}
use Rattle.score.specs.Asked.{heuristic_asked, progress_asked}
use Rattle.safe.specs.Safe.{safe}
use Rattle.safe.specs.Asked.{safe_asked}
use Rattle.search.specs.Game.{among}
use Rattle.search.specs.Freecell.{freecell, judge}
use Rattle.search.specs.Solve.{Answer, Perhaps}
use Rattle.solver.specs.Told.{Call, capacity, Accepted}
use Rattle.solver.proofs.Calls.{sought, gives}
use Rattle.known_hands.specs.Hands.{Hand, Question, scores, judging, limit, safely, same_score, same_list, same_answer, answered, for_each, holds, all_hold, hands}
use Rattle.known_hands.specs.Boards.{is_board}
use Rattle.known_hands.specs.Answered.{Answers, Scored}
use Rattle.known_hands.proofs.Known.{known_hands_lem}

-- ---- what the table claims of a hand

one_holds : (h : Hand) (hs : List Hand) → among h hs → all_hold hs ≡ true → holds h ≡ true
unfolding all_hold
one_holds h [] i e = absurd i
one_holds h (x ∷ hs) (inl q) e = ap holds q ∙ first (holds x) (all_hold hs) e
one_holds h (x ∷ hs) (inr i) e = one_holds h hs i (second (holds x) (all_hold hs) e)

one_flag : (p : Bool → Bool) (b : Bool) (flags : List Bool) → among b flags → for_each p flags ≡ true → p b ≡ true
unfolding for_each
one_flag p b [] i e = absurd i
one_flag p b (x ∷ l) (inl q) e = ap p q ∙ first (p x) (for_each p l) e
one_flag p b (x ∷ l) (inr i) e = one_flag p b l i (second (p x) (for_each p l) e)

asked : (h : Hand) → holds h ≡ true → answered h.board h.question ≡ true
unfolding holds
asked h e = second (is_board h.board) (answered h.board h.question) e

-- the question of a hand of the table is answered so on its board
claimed : (h : Hand) → among h hands → {z : Question} → h.question ≡ z → {t : Table} → t ≡ h.board → answered t z ≡ true
claimed h i {z} q table =
    subst (λ (u : Table). answered u z ≡ true) (sym table) (subst (λ (x : Question). answered h.board x ≡ true) q (asked h (one_holds h hands i known_hands_lem)))

module _ (a : Answer freecell) (n pops : ℕ) (list : Perhaps (List ℕ)) (e : same_answer a n pops list ≡ true) where
  number_is : a.number ≡ n
  unfolding same_answer
  number_is = eqb-true a.number n (first (eqb a.number n) (eqb a.pops pops && same_list a.list list) e)

  rest : (eqb a.pops pops && same_list a.list list) ≡ true
  unfolding same_answer
  rest = second (eqb a.number n) (eqb a.pops pops && same_list a.list list) e

  pops_is : a.pops ≡ pops
  pops_is = eqb-true a.pops pops (first (eqb a.pops pops) (same_list a.list list) rest)

  list_is : same_list a.list list ≡ true
  list_is = second (eqb a.pops pops) (same_list a.list list) rest

-- ---- what a call answers

-- for every hand of the table that is judged, and every accepted call with its board, budget, capacity and one of its flags
pub code_hands : (h : Hand) → among h hands → (budget cap : ℕ) (flags : List Bool) (n pops : ℕ) (list : Perhaps (List ℕ)) → h.question ≡ judging budget cap flags n pops list
    → {b : Board} (c : Call b) → Accepted c → shown b ≡ h.board → c.budget ≡ budget → capacity c ≡ cap → among c.partial flags → Answers c n pops list
code_hands h i budget cap flags n pops list q {b} c ok table spent room flag =
    let p : same_answer (judge h.board budget cap c.partial) n pops list ≡ true =
    one_flag (λ x. same_answer (judge h.board budget cap x) n pops list) c.partial flags flag (claimed h i q refl) in
    let same : judge h.board budget cap c.partial ≡ sought c =
    ap (λ (t : Table). judge t budget cap c.partial) (sym table) ∙ ap (λ (x : ℕ). judge (shown b) x cap c.partial) (sym spent) ∙ ap (λ (x : ℕ). judge (shown b) c.budget x c.partial) (sym room) in
    let k = subst (λ (a : Answer freecell). same_answer a n pops list ≡ true) same p in
    let g = gives c ok in
    record {
      answer = g.number ∙ number_is (sought c) n pops list k;
      pops = g.pops ∙ pops_is (sought c) n pops list k;
      moves = (sought c).list;
      said = list_is (sought c) n pops list k;
      list = g.list;
    }

-- ---- what the scores are

module _ (b : Board) (ok : examined b ≡ fine) where
  heuristic-told : heuristic_asked b ≡ given (heuristic (features_of (shown b)))
  unfolding heuristic_asked
  heuristic-told = ap (λ (v : Verdict). after v (given (heuristic (features_of (shown b))))) ok

  progress-told : progress_asked b ≡ given (progress (features_of (shown b)))
  unfolding progress_asked
  progress-told = ap (λ (v : Verdict). after v (given (progress (features_of (shown b))))) ok

  -- for every hand of the table that asks for scores, and every well-formed board that shows it
  pub code_scores : (h : Hand) → among h hands → (x y : ℤ) → h.question ≡ scores x y → shown b ≡ h.board → (r s : Result ℤ Refusal) → refusal.answered r ≡ heuristic_asked b
      → refusal.answered s ≡ progress_asked b → Scored r x × Scored s y
  code_scores h i x y q table r s e f =
      let claim : (same_score (heuristic (features_of (shown b))) x && same_score (progress (features_of (shown b))) y) ≡ true = claimed h i q table in
      let one = first (same_score (heuristic (features_of (shown b))) x) (same_score (progress (features_of (shown b))) y) claim in
      let other = second (same_score (heuristic (features_of (shown b))) x) (same_score (progress (features_of (shown b))) y) claim in (
        record { value = heuristic (features_of (shown b)); told = e ∙ heuristic-told; same = one },
        record { value = progress (features_of (shown b)); told = f ∙ progress-told; same = other },
      )

-- ---- the limit, and what is safe

same_flag : (x y : Bool) → not (xor x y) ≡ true → x ≡ y
unfolding xor
same_flag true true e = refl
same_flag true false e = sym e
same_flag false true e = e
same_flag false false e = refl

module _ (b : Board) (ok : examined b ≡ fine) where
  limit_told : (to : ℕ) → ltb to 8 ≡ true → most_asked b to ≡ given (most_moved (shown b).cells (shown b).columns to)
  unfolding most_asked
  limit_told to e = rw (ok, e)

  safe-told : (x : ℕ) → is_card x ≡ true → safe_asked b x ≡ given (safe (shown b).foundation x)
  unfolding safe_asked
  safe-told x e = rw (ok, e)

  -- for every hand of the table that asks for the limit into a column, and every well-formed board that shows it
  pub code_limit : (h : Hand) → among h hands → (to n : ℕ) → h.question ≡ limit to n → shown b ≡ h.board → (r : Result ℕ Refusal) → refusal.answered r ≡ most_asked b to
      → refusal.answered r ≡ given n
  code_limit h i to n q table r e =
      let most : ℕ = most_moved (shown b).cells (shown b).columns to in
      let claim : (ltb to 8 && eqb most n) ≡ true = claimed h i q table in
      e ∙ limit_told to (first (ltb to 8) (eqb most n) claim) ∙ ap given (eqb-true most n (second (ltb to 8) (eqb most n) claim))

  -- for every hand of the table that asks whether a card is safe, and every well-formed board that shows it
  pub code_safe : (h : Hand) → among h hands → (x : ℕ) (flag : Bool) → h.question ≡ safely x flag → shown b ≡ h.board → (r : Result Bool Refusal) → refusal.answered r ≡ safe_asked b x
      → refusal.answered r ≡ given flag
  code_safe h i x flag q table r e =
      let is : Bool = safe (shown b).foundation x in
      let claim : (is_card x && not (xor is flag)) ≡ true = claimed h i q table in
      e ∙ safe-told x (first (is_card x) (not (xor is flag)) claim) ∙ ap given (same_flag is flag (second (is_card x) (not (xor is flag)) claim))
