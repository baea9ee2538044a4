-- T1 and T4 (search/proofs/Judge.antt) over the code: what holds of any call that keeps the promise of `solve`, whatever the scratch held.
use mathlib.Core.Path.{◌≡◌, refl, sym, ap, ap₂, ◌∙◌, subst}
use mathlib.Core.Bool.{Bool, true, false, ◌||◌}
use mathlib.Core.List.{List, [], ◌∷◌, ◌++◌}
use mathlib.Core.Logic.{◌⊎◌, inl, inr}
use Prim.Native.Nat.{ℕ, ◌+◌, ◌*◌, ◌≤◌}
use native.Mathlib.Omega.{arith}
use borrow.Author.Tests.{leb-true, eqb-true, le-leb}
use lib.Dec.{eqb, leb}
use lib.ListN.{length, take, drop}
use lib.Seq.{take_at, drop_at}
use Rattle.base.specs.Answer.{given, refused, unless}
use Rattle.base.proofs.Words.{true_or_not}
use Rattle.board.specs.Verdict.{Verdict, fine, after, only_cards, none_twice, none_missing, verdict_on}
use Rattle.board.specs.Table.{Table, cards_on}
use Rattle.board.specs.Record.{shapely, examined, shown}
use Rattle.board.specs.Inner.{Sound, Sized}
use Rattle.board.specs.Refusal.{number_of, is_said}
use Rattle.board.specs.declared.Board.{Board}
use Rattle.board.specs.declared.Refusal.{Refusal}
use Rattle.board.proofs.Unique.{never_said}
use Rattle.board.proofs.Soundness.{passed, sound}
use Rattle.questions.specs.Questions.{won_on}
use Rattle.moves.specs.Record.{record_of}
use Rattle.moves.specs.declared.Move.{Move}
use Rattle.moves.proofs.Saying.{one_move_lem}
use Rattle.moves.specs.Written.{bytes_of, written}
use Rattle.moves.proofs.Writing.{record_long, bytes_long, written_none, written_long}
use Rattle.search.specs.Solve.{Perhaps, some, none, State, End, won, limit, exhausted, out_of_nodes_at, Answer, best_said, start, run, brings, progressed, answer, solve_as, solve}
use Rattle.search.specs.Freecell.{freecell, judge}
use Rattle.search.specs.Claims.{is_some, brings_list, is_best_at_limit, is_best, is_limit, OutOfNodes, Struck}
use Rattle.search.specs.Played.{ends_won, PlayedOut}
use Rattle.search.proofs.Judge as proved
use Rattle.memory.specs.Memory.{Memory, lent}
use Rattle.finish.specs.Said.{Told, moves_of}
use Rattle.solver.specs.Searched.{Outcome, outcome, accepted, searched_by, answered_with, searched}
use Rattle.solver.specs.Told.{Call, IsAnswer, number, capacity, verdict, Accepted, handed, HandsOver, NoList, Cleared, Untouched}

-- ---- refusals have numbers from 12 to 22

abbrev Between : ℕ → Type 0
Between n = (12 ≤ n) × (n ≤ 22)

module _ {n : ℕ} where
  fine_not : fine ≡ refused n → Between n
  fine_not e = let z : ◌≡◌ {A = ℕ} 0 1 = cc in absurd (let w : ⊥ = omega arith in w)

  in_test : (ok : Bool) (k : ℕ) (v : Verdict) → 12 ≤ k → k ≤ 22 → (v ≡ refused n → Between n) → unless ok k v ≡ refused n → Between n
  in_test true k v h l f e = f e
  in_test false k v h l f e = let q : k ≡ n = cc in (omega arith, omega arith)

  in_either : (v w : Verdict) → (v ≡ refused n → Between n) → (w ≡ refused n → Between n) → after v w ≡ refused n → Between n
  in_either (given u) w f g e = g e
  in_either (refused k) w f g e = f e

  refusal_number : (b : Board) (budget capacity lent : ℕ) → accepted b budget capacity lent ≡ refused n → Between n
  unfolding accepted examined verdict_on
  refusal_number b budget capacity lent =
      in_either (examined b) _
      (in_test (shapely b) 12 _ (omega arith) (omega arith)
      (in_test (only_cards (shown b)) 13 _ (omega arith) (omega arith)
      (in_test (none_twice (cards_on (shown b))) 14 _ (omega arith) (omega arith)
      (in_test (none_missing (cards_on (shown b))) 15 _ (omega arith) (omega arith) fine_not))))
      (in_test (leb budget 1000000) 20 _ (omega arith) (omega arith)
      (in_test (leb 1000 lent) 21 _ (omega arith) (omega arith) (in_test (leb 1 capacity) 22 _ (omega arith) (omega arith) fine_not)))

no_answer : {n : ℕ} → Between n → IsAnswer n → ⊥
no_answer h (inl k) = let l = h.0 in omega arith
no_answer h (inr k) = let l = h.1 in omega arith

-- no refusal has an answer's number
pub refusal_says : (why : Refusal) → IsAnswer (number_of why) → ⊥
refusal_says why (inl h) =
    let n = number_of why in
    true_or_not (is_said n) (ap (λ (t : Bool). t || (eqb n 23 || eqb n 24)) (le-leb n 5 h)) (never_said why)
refusal_says why (inr e) = true_or_not (is_said (number_of why)) (ap is_said e) (never_said why)

-- the definition answers with an answer's number
progress_answer : (h : Bool) (with without : ℕ) (s : State freecell) → with ≤ 5 → without ≤ 5 → IsAnswer (progressed freecell h with without s).number
progress_answer true with without s k l = inl k
progress_answer false with without s k l = inl l

said_small : (w : Bool) → best_said w ≤ 5
said_small true = omega arith
said_small false = omega arith

end_answer : (partial : Bool) (e : End freecell) → IsAnswer (answer freecell partial e).number
end_answer partial (won l p) = inl (omega arith)
end_answer partial (limit s) = progress_answer (brings freecell partial s) _ _ s (said_small (won_on s.best.board.foundation)) (omega arith)
end_answer partial (exhausted s) = progress_answer (brings freecell partial s) _ _ s (omega arith) (omega arith)
end_answer partial (out_of_nodes_at p) = inr refl

solve_answer : (w : Bool) (t : Table) (budget capacity : ℕ) (partial : Bool) → IsAnswer (solve_as freecell w t budget capacity partial).number
solve_answer true t budget capacity partial = inl (omega arith)
solve_answer false t budget capacity partial = end_answer partial (run freecell budget capacity (start freecell t))

pub judge_answer : (t : Table) (budget capacity : ℕ) (partial : Bool) → IsAnswer (judge t budget capacity partial).number
unfolding judge solve
judge_answer t budget capacity partial = solve_answer (won_on t.foundation) t budget capacity partial

pub won_or_exhausted : {n : ℕ} → (n ≡ 0) ⊎ ((n ≡ 2) ⊎ (n ≡ 4)) → IsAnswer n
won_or_exhausted (inl e) = inl (omega arith)
won_or_exhausted (inr (inl e)) = inl (omega arith)
won_or_exhausted (inr (inr e)) = inl (omega arith)

at_limit_lem : {n : ℕ} → is_limit n → IsAnswer n
at_limit_lem (inl (inl e)) = inl (omega arith)
at_limit_lem (inl (inr e)) = inl (omega arith)
at_limit_lem (inr e) = inl (omega arith)

pub best_progress : {n : ℕ} → is_best n → brings_list n ≡ true
best_progress (inl (inl e)) = ap brings_list e
best_progress (inl (inr e)) = ap brings_list e
best_progress (inr e) = ap brings_list e

-- who brings a list is an answer
pub brings_answer : (n : ℕ) → brings_list n ≡ true → IsAnswer n
brings_answer n e = by (leb n 2) refl e
  where
    by : (t : Bool) → leb n 2 ≡ t → (t || eqb n 5) ≡ true → IsAnswer n
    by true q h = inl (let k = leb-true n 2 q in omega arith)
    by false q h = inl (let k = eqb-true n 5 h in omega arith)

-- ---- what is accepted

both_fine : (v w : Verdict) → after v w ≡ fine → (v ≡ fine) × (w ≡ fine)
both_fine (given u) w e = (refl, e)
both_fine (refused k) w e = let z : ◌≡◌ {A = ℕ} 0 1 = cc in absurd (let q : ⊥ = omega arith in q)

-- what an accepted search fulfils
pub record Asks (b : Board) (budget capacity lent : ℕ) : Type 0 where
  pub good : examined b ≡ fine
  pub cheap : budget ≤ 1000000
  pub wide : 1000 ≤ lent
  pub some : 1 ≤ capacity

pub asks : (b : Board) (budget capacity lent : ℕ) → accepted b budget capacity lent ≡ fine → Asks b budget capacity lent
unfolding accepted
asks b budget capacity lent e =
    let v = both_fine (examined b) _ e in
    let x = passed (leb budget 1000000) 20 _ v.1 in
    let y = passed (leb 1000 lent) 21 _ x.1 in
    let z = passed (leb 1 capacity) 22 _ y.1 in
    record { good = v.0; cheap = leb-true budget 1000000 x.0; wide = leb-true 1000 lent y.0; some = leb-true 1 capacity z.0 }

-- ---- the list as the bytes written

module _ (old : List ℕ) (ms : List Move) where
  written-first : written old 0 ms ≡ bytes_of ms ++ drop (length ms * 5) old
  unfolding written
  written-first = ap (λ (k : ℕ). bytes_of ms ++ drop (k * 5) old) (let q : 0 + length ms ≡ length ms = omega arith in q)

  written_list : {n : ℕ} {new : List ℕ} → n ≡ length ms → new ≡ written old 0 ms → take (n * 5) new ≡ bytes_of ms
  written_list {n} h e =
      ap (take (n * 5)) (e ∙ written-first)
      ∙ take_at (bytes_of ms) (drop (length ms * 5) old) (n * 5) (let l = bytes_long ms in omega arith)

  written_beyond : {n : ℕ} {new : List ℕ} → n ≡ length ms → new ≡ written old 0 ms → drop (n * 5) new ≡ drop (n * 5) old
  written_beyond {n} h e =
      ap (drop (n * 5)) (e ∙ written-first)
      ∙ drop_at (bytes_of ms) (drop (length ms * 5) old) (n * 5) (let l = bytes_long ms in omega arith)
      ∙ ap (λ (k : ℕ). drop (k * 5) old) (sym h)

-- the bytes say the list
pub one_list_lem : (l m : List Move) → length l ≡ length m → bytes_of l ≡ bytes_of m → l ≡ m
unfolding bytes_of
one_list_lem [] [] h e = refl
one_list_lem [] (n ∷ m) h e = absurd (let w : ⊥ = omega arith in w)
one_list_lem (k ∷ l) [] h e = absurd (let w : ⊥ = omega arith in w)
one_list_lem (k ∷ l) (n ∷ m) h e =
    ap₂ (λ (x : Move) (y : List Move). x ∷ y)
    (one_move_lem k n (sym (take_at (record_of k) (bytes_of l) 5 (record_long k)) ∙ ap (take 5) e ∙ take_at (record_of n) (bytes_of m) 5 (record_long n)))
    (one_list_lem l m (omega arith) (sym (drop_at (record_of k) (bytes_of l) 5 (record_long k)) ∙ ap (drop 5) e ∙ drop_at (record_of n) (bytes_of m) 5 (record_long n)))

-- ---- one call

-- an answer was given, as its caller is told
pub record Gave (a : Answer freecell) (old new : List ℕ) (t : Told) : Type 0 where
  pub number : t.number ≡ a.number
  pub pops : t.pops ≡ a.pops
  pub moves : t.moves ≡ length (moves_of a.list)
  pub list : new ≡ written old 0 (moves_of a.list)

module _ {b : Board} (c : Call b) where
  -- the answer of the definition
  abbrev pub sought : Answer freecell
  sought = judge (shown b) c.budget (capacity c) c.partial

  by : (v : Verdict) → verdict c ≡ v
      → outcome c.result c.scratch_after.nodes c.scratch_after.heap c.scratch_after.keys c.scratch_after.costs c.list_after
      ≡ searched_by c.scratch.nodes c.scratch.heap c.scratch.keys c.scratch.costs c.list v b c.budget c.partial
  unfolding searched
  by v e = c.holds ∙ ap (λ (w : Verdict). searched_by c.scratch.nodes c.scratch.heap c.scratch.keys c.scratch.costs c.list w b c.budget c.partial) e

  pub gives : Accepted c → Gave sought c.list c.list_after c.result
  unfolding answered_with
  gives a =
      let o = by fine a in
      record {
        number = ap (λ (x : Outcome). x.number) o;
        pops = ap (λ (x : Outcome). x.pops) o;
        moves = ap (λ (x : Outcome). x.moves) o;
        list = ap (λ (x : Outcome). x.list) o;
      }

  clears : Accepted c → Cleared c
  unfolding answered_with
  clears a =
      let o = by fine a in
      record {
        nodes = ap (λ (x : Outcome). x.nodes) o;
        heap = ap (λ (x : Outcome). x.heap) o;
        keys = ap (λ (x : Outcome). x.keys) o;
        costs = ap (λ (x : Outcome). x.costs) o;
      }

  pub turned : {n : ℕ} → verdict c ≡ refused n → (number c ≡ n) × Untouched c
  turned {n} e =
      let o = by (refused n) e in (
        ap (λ (x : Outcome). x.number) o,
        record {
          pops = ap (λ (x : Outcome). x.pops) o;
          none = record { many = ap (λ (x : Outcome). x.moves) o; same = ap (λ (x : Outcome). x.list) o };
          scratch = ap (λ (x : Outcome). let m : Memory = lent x.nodes x.heap x.keys x.costs in m) o;
        },
      )

  by_verdict : (v : Verdict) → verdict c ≡ v → IsAnswer (number c) → Accepted c
  by_verdict (given u) e a = e
  by_verdict (refused n) e a =
      absurd (no_answer (refusal_number b c.budget (capacity c) (length c.list) e) (subst IsAnswer (turned e).0 a))

  -- who is answered was accepted
  pub answered-accepted : IsAnswer (number c) → Accepted c
  answered-accepted = by_verdict (verdict c) refl

  -- a board that is accepted is well formed
  pub sound_here : Sized b → Accepted c → Sound b
  sound_here z a = sound b z (asks b c.budget (capacity c) (length c.list) a).good

  -- the bytes of the list are those of the definition's list
  pub handed_is : Accepted c → handed c ≡ bytes_of (moves_of sought.list)
  handed_is a = let g = gives a in written_list c.list (moves_of sought.list) g.moves g.list

  -- ---- what every call keeps

  -- an answer leaves all the scratch zero, whatever it held
  pub answer_clears : IsAnswer (number c) → Cleared c
  answer_clears a = clears (answered-accepted a)

  -- a refusal changes nothing
  refused_by : (v : Verdict) → verdict c ≡ v → (IsAnswer (number c) → ⊥) → Untouched c
  refused_by (given u) e f = absurd (f (subst IsAnswer (sym (gives e).number) (judge_answer (shown b) c.budget (capacity c) c.partial)))
  refused_by (refused n) e f = (turned e).1

  pub refusal_keeps : (IsAnswer (number c) → ⊥) → Untouched c
  refusal_keeps = refused_by (verdict c) refl

  -- ---- T1: lists that can be played

  module _ (z : Sized b) (a : Accepted c) where
    hands-over : (l : List Move) → sought.list ≡ some l → HandsOver c
    hands-over l e =
        let g = gives a in
        let same = ap moves_of e in
        let many : c.result.moves ≡ length l = g.moves ∙ ap length same in
        let new : c.list_after ≡ written c.list 0 l = g.list ∙ ap (written c.list 0) same in
        let played = proved.T1 b (sound_here z a) c.budget (capacity c) c.partial l e in
        let short = played.short in
        let wide = (asks b c.budget (capacity c) (length c.list) a).wide in
        record {
          moves = l;
          many = many;
          bytes = written_list c.list l many new;
          rest = written_beyond c.list l many new;
          long = ap length new ∙ written_long c.list 0 l (omega arith);
          plays = subst (λ (n : ℕ). PlayedOut b n l) (sym g.number) played;
        }

    by_list : (p : Perhaps (List Move)) → sought.list ≡ p → is_some p ≡ true → HandsOver c
    by_list none e h = true_or_not false h refl
    by_list (some l) e h = hands-over l e

  pub some_list : Accepted c → brings_list (number c) ≡ true → is_some sought.list ≡ true
  some_list a h = proved.T1_list (shown b) c.budget (capacity c) c.partial ∙ ap brings_list (sym (gives a).number) ∙ h

  -- 0, 1, 2 and 5: the first bytes of the list buffer are the records of a list that can be played from the board, move by move, and
  -- replays; it has at most 200 moves; all 52 cards are still there after it; if the hand is called won, it is, and at
  -- the limit 5 says that the last board is won, 1 that it is not. The bytes beyond stay. (The type of a board record always gives
  -- `Sized`.)
  pub T1 : Sized b → brings_list (number c) ≡ true → HandsOver c
  T1 z h =
      let a = answered-accepted (brings_answer (number c) h) in
      by_list z a sought.list refl (some_list a h)

  -- whatever list the bytes say is the definition's
  list_by : (p : Perhaps (List Move)) → sought.list ≡ p → is_some p ≡ true → Accepted c → (l : HandsOver c) → sought.list ≡ some l.moves
  list_by none e h a l = true_or_not false h refl
  list_by (some m) e h a l =
      let same = ap moves_of e in
      e ∙ ap (λ (k : List Move). some k)
      (one_list_lem m l.moves (sym (ap length same) ∙ sym (gives a).moves ∙ l.many) (ap bytes_of (sym same) ∙ sym (handed_is a) ∙ l.bytes))

  pub list_is : Accepted c → brings_list (number c) ≡ true → (l : HandsOver c) → sought.list ≡ some l.moves
  list_is a h l = list_by sought.list refl (some_list a h) a l

  -- the other answers, and the refusals, leave the list buffer as it was
  no_list_lem : (p : Perhaps (List Move)) → sought.list ≡ p → is_some p ≡ false → Accepted c → NoList c
  no_list_lem none e h a =
      let g = gives a in
      record { many = g.moves ∙ ap (λ (p : Perhaps (List Move)). length (moves_of p)) e; same = g.list ∙ ap (λ (p : Perhaps (List Move)). written c.list 0 (moves_of p)) e ∙ written_none c.list 0 }
  no_list_lem (some l) e h a = true_or_not true refl h

  no_list_by : (v : Verdict) → verdict c ≡ v → brings_list (number c) ≡ false → NoList c
  no_list_by (given u) e h =
      no_list_lem sought.list refl (proved.T1_list (shown b) c.budget (capacity c) c.partial ∙ ap brings_list (sym (gives e).number) ∙ h) e
  no_list_by (refused n) e h = (turned e).1.none

  pub T1_none : brings_list (number c) ≡ false → NoList c
  T1_none = no_list_by (verdict c) refl

  -- ---- T4: pops, the limit, and 23

  pops_by : (v : Verdict) → verdict c ≡ v → c.result.pops ≤ c.budget
  pops_by (given u) e = let p = (gives e).pops in let q = proved.T4_pops (shown b) c.budget (capacity c) c.partial in omega arith
  pops_by (refused n) e = let p = (turned e).1.pops in omega arith

  -- no more pops than the budget
  pub T4_pops : c.result.pops ≤ c.budget
  T4_pops = pops_by (verdict c) refl

  -- the limit is told only when the budget is spent
  pub T4_limit : is_limit (number c) → c.result.pops ≡ c.budget
  T4_limit f =
      let g = gives (answered-accepted (at_limit_lem f)) in
      g.pops ∙ proved.T4_limit (shown b) c.budget (capacity c) c.partial (subst is_limit g.number f)

  -- 23 is given only when a child passes the depth and cost tests and the nodes already fill the capacity
  pub T4_no_room_only_then : number c ≡ 23
      → (won_on (shown b).foundation ≡ false) × OutOfNodes freecell c.budget (capacity c) (start freecell (shown b)) c.result.pops
  T4_no_room_only_then e =
      let g = gives (answered-accepted (inr e)) in
      let r = proved.T4_no_room_only_then (shown b) c.budget (capacity c) c.partial (sym g.number ∙ e) in
      (r.0, subst (OutOfNodes freecell c.budget (capacity c) (start freecell (shown b))) (sym g.pops) r.1)

  -- and always then
  pub T4_no_room_always_then : (pops : ℕ) → Accepted c → won_on (shown b).foundation ≡ false
      → OutOfNodes freecell c.budget (capacity c) (start freecell (shown b)) pops → (number c ≡ 23) × (c.result.pops ≡ pops)
  T4_no_room_always_then pops a w r =
      let g = gives a in
      let e = proved.T4_no_room_always_then (shown b) c.budget (capacity c) c.partial pops w r in
      (g.number ∙ ap (λ (x : Answer freecell). x.number) e, g.pops ∙ ap (λ (x : Answer freecell). x.pops) e)

  -- ---- T5: a best line that finishes

  -- 1 and 5 are given with the flag alone
  pub T5_flag : is_best_at_limit (number c) → c.partial ≡ true
  T5_flag f =
      let g = gives (answered-accepted (at_limit_lem (inl f))) in
      proved.T5_flag (shown b) c.budget (capacity c) c.partial (subst is_best_at_limit g.number f)

  -- 5 is given where 1 was before request (v) and the last board of the list is won ..
  pub T5_then : Sized b → Accepted c → Struck freecell (shown b) c.budget (capacity c) c.partial → (l : HandsOver c)
      → ends_won (shown b) l.moves ≡ true → number c ≡ 5
  T5_then z a r l w =
      let n = (gives a).number in
      let h = best_progress (inl (subst is_best_at_limit (sym n) (proved.T5_brings (shown b) c.budget (capacity c) c.partial r))) in
      n ∙ proved.T5_then b (sound_here z a) c.budget (capacity c) c.partial l.moves (list_is a h l) r w

  -- .. and 1 and 5 only where 1 was; what they say of the last board is T1
  pub T5_struck : is_best_at_limit (number c) → Struck freecell (shown b) c.budget (capacity c) c.partial
  T5_struck f =
      let g = gives (answered-accepted (at_limit_lem (inl f))) in
      proved.T5_struck (shown b) c.budget (capacity c) c.partial (subst is_best_at_limit g.number f)
