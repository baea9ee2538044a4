-- T2, T3 and T5 (search/proofs/Judge.antt) over the code: what holds of any two calls on one board that keep the promise of `solve`, whatever the scratch held.
use Rattle.std.specs.Prelude.{Ok}
use mathlib.Core.Path.{◌≡◌, refl, sym, ap, ◌∙◌, subst}
use mathlib.Core.Bool.{Bool, true, false}
use mathlib.Core.List.{List}
use mathlib.Core.Logic.{◌⊎◌, inl, inr}
use Prim.Native.Nat.{ℕ, ◌*◌, ◌≤◌}
use native.Mathlib.Omega.{arith}
use lib.ListN.{length, take}
use lib.Signed.{le_z}
use Rattle.base.specs.Answer.{given, refused}
use Rattle.base.proofs.Words.{true_or_not}
use Rattle.board.specs.Verdict.{Verdict}
use Rattle.board.specs.Record.{shown}
use Rattle.board.specs.Inner.{Sized}
use Rattle.board.specs.declared.Board.{Board}
use Rattle.moves.specs.declared.Move.{Move}
use Rattle.moves.specs.Written.{bytes_of}
use Rattle.search.specs.Solve.{Perhaps, none, some, Answer}
use Rattle.search.specs.Freecell.{freecell, judge}
use Rattle.search.specs.Claims.{is_some, brings_list, is_best}
use Rattle.search.specs.Claims as search
use Rattle.search.specs.Played.{final_score}
use Rattle.search.proofs.Judge as proved
use Rattle.finish.specs.Said.{moves_of}
use Rattle.solver.specs.Searched.{accepted}
use Rattle.solver.specs.Told.{Call, number, capacity, verdict, Accepted, HandsOver, SameList, SameAnswer, SameSettings, NoLarger, BorneBy, Becomes, won_then, still, no_room_then, exhausted_then}
use Rattle.solver.proofs.Accepting.{all-fine}
use Rattle.solver.proofs.Calls.{won_or_exhausted, best_progress, brings_answer, asks, sought, gives, turned, answered-accepted, sound_here, handed_is, list_is, some_list}

module _ {b : Board} (x y : Call b) where
  alike : Accepted x → Accepted y → (sought x).list ≡ (sought y).list → SameList x y
  alike a d e =
      record {
        many = (gives x a).moves ∙ ap (λ (p : Perhaps (List Move)). length (moves_of p)) e ∙ sym (gives y d).moves;
        bytes = handed_is x a ∙ ap (λ (p : Perhaps (List Move)). bytes_of (moves_of p)) e ∙ sym (handed_is y d);
      }

  same_answer_lem : Accepted x → Accepted y → sought y ≡ sought x → SameAnswer x y
  same_answer_lem a d e =
      record {
        number = (gives x a).number ∙ ap (λ (r : Answer freecell). r.number) (sym e) ∙ sym (gives y d).number;
        pops = (gives x a).pops ∙ ap (λ (r : Answer freecell). r.pops) (sym e) ∙ sym (gives y d).pops;
        list = alike a d (ap (λ (r : Answer freecell). r.list) (sym e));
      }

  -- ---- earlier bytes

  module _ (s : SameSettings x y) where
    same_verdict : verdict y ≡ verdict x
    same_verdict =
        ap (λ (n : ℕ). accepted b n (capacity y) (length y.list)) (sym s.budget)
        ∙ ap (λ (n : ℕ). accepted b x.budget n (length y.list)) (sym s.room)
        ∙ ap (λ (n : ℕ). accepted b x.budget (capacity x) n) (sym s.list)

    same_sought : sought y ≡ sought x
    same_sought =
        ap (λ (n : ℕ). judge (shown b) n (capacity y) y.partial) (sym s.budget)
        ∙ ap (λ (n : ℕ). judge (shown b) x.budget n y.partial) (sym s.room)
        ∙ ap (λ (f : Bool). judge (shown b) x.budget (capacity x) f) (sym s.flag)

    same_by : (v : Verdict) → verdict x ≡ v → SameAnswer x y
    same_by (given u) e = same_answer_lem e (same_verdict ∙ e) same_sought
    same_by (refused n) e =
        let p = turned x e in
        let q = turned y (same_verdict ∙ e) in
        record {
          number = p.0 ∙ sym q.0;
          pops = p.1.pops ∙ sym q.1.pops;
          list =
              record {
                many = p.1.none.many ∙ sym q.1.none.many;
                bytes = ap (λ (n : ℕ). take (n * 5) x.list_after) p.1.none.many ∙ sym (ap (λ (n : ℕ). take (n * 5) y.list_after) q.1.none.many);
              };
        }

    -- what the scratch and the list buffer held before affects no answer
    pub earlier_bytes : SameAnswer x y
    earlier_bytes = same_by (verdict x) refl

  -- ---- T2: two masters agree

  -- two calls that both call a hand won hand over the same list, byte for byte, whatever was lent and asked
  pub T2_list : number x ≡ 0 → number y ≡ 0 → SameList x y
  T2_list e f =
      let a = answered-accepted x (inl (omega arith)) in
      let d = answered-accepted y (inl (omega arith)) in
      alike a d
      (proved.T2_list (shown b) x.budget (capacity x) y.budget (capacity y) x.partial y.partial (sym (gives x a).number ∙ e) (sym (gives y d).number ∙ f))

  -- never won in one and exhausted in the other
  pub T2_apart : number x ≡ 0 → (number y ≡ 2) ⊎ (number y ≡ 4) → ⊥
  T2_apart e f =
      let a = answered-accepted x (inl (omega arith)) in
      let d = answered-accepted y (won_or_exhausted (inr f)) in
      proved.T2_apart (shown b) x.budget (capacity x) y.budget (capacity y) x.partial y.partial (sym (gives x a).number ∙ e)
      (subst (λ (n : ℕ). (n ≡ 2) ⊎ (n ≡ 4)) (gives y d).number f)

  -- ---- T3: more keeps what was found

  module _ (less : NoLarger x y) where
    -- the larger call is accepted too, if its budget may be asked for and its list buffer is long enough
    pub T3_accepted : Accepted x → y.budget ≤ 1000000 → 1000 ≤ length y.list → Accepted y
    T3_accepted a h k =
        let q = asks b x.budget (capacity x) (length x.list) a in
        let one = q.some in
        let more = less.room in
        all-fine b y.budget (capacity y) (length y.list) {e = (Ok tt)} (sym q.good) refl h k (omega arith)

    -- the answer of the definition for y, with the flag of x
    flagged : sought y ≡ judge (shown b) y.budget (capacity y) x.partial
    flagged = ap (judge (shown b) y.budget (capacity y)) (sym less.flag)

    -- won and exhausted stay when budget and memory grow: the same answer, count of pops and list, byte for byte
    pub T3_stays : Accepted y → (number x ≡ 0) ⊎ ((number x ≡ 2) ⊎ (number x ≡ 4)) → SameAnswer x y
    T3_stays d f =
        let a = answered-accepted x (won_or_exhausted f) in
        same_answer_lem a d
        (flagged
        ∙ proved.T3_stays (shown b) x.budget (capacity x) y.budget (capacity y) x.partial less.budget less.room
        (subst (λ (n : ℕ). (n ≡ 0) ⊎ ((n ≡ 2) ⊎ (n ≡ 4))) (gives x a).number f))

    -- where both bring a best-progress list, the final score is no lower with the larger settings
    pub T3_score : Sized b → is_best (number x) → is_best (number y)
        → (l : HandsOver x) (m : HandsOver y) → le_z (final_score (shown b) l.moves) (final_score (shown b) m.moves) ≡ true
    T3_score z i j l m =
        let a = answered-accepted x (brings_answer (number x) (best_progress i)) in
        let d = answered-accepted y (brings_answer (number y) (best_progress j)) in
        proved.T3_score b (sound_here x z a) less.budget less.room x.partial l.moves m.moves
        (subst is_best (gives x a).number i)
        (list_is x a (best_progress i) l)
        (subst is_best ((gives y d).number ∙ ap (λ (r : Answer freecell). r.number) flagged) j)
        (ap (λ (r : Answer freecell). r.list) (sym flagged) ∙ list_is y d (best_progress j) m)

    -- ---- T5: a best line that finishes

    becomes_by : Accepted x → Accepted y → (l : List Move) → (sought x).list ≡ some l → search.Becomes freecell (BorneBy y) l (sought y) → Becomes x y
    becomes_by a d l e (search.won_then n) = won_then ((gives y d).number ∙ n)
    becomes_by a d l e (search.still n m) = still ((gives y d).number ∙ n) (alike a d (e ∙ sym m))
    becomes_by a d l e (search.no_room_then n) = no_room_then ((gives y d).number ∙ n)
    becomes_by a d l e (search.exhausted_then n m k) = exhausted_then ((gives y d).number ∙ n) (alike a d (e ∙ sym m)) k

    with_list : Sized b → (a : Accepted x) → Accepted y → number x ≡ 5 → (p : Perhaps (List Move)) → (sought x).list ≡ p → is_some p ≡ true → Becomes x y
    with_list z a d e none q h = true_or_not false h refl
    with_list z a d e (some l) q h =
        becomes_by a d l q
        (subst (search.Becomes freecell (BorneBy y) l) (sym flagged)
        (proved.T5 b (sound_here x z a) less.budget less.room x.partial l (sym (gives x a).number ∙ e) q))

    -- 5 becomes 0, 5 with the same list, 23, or 2 with the same list, the last only where two boards of the run, one won and one not, share
    -- a signature
    pub T5 : Sized b → Accepted y → number x ≡ 5 → Becomes x y
    T5 z d e =
        let a = answered-accepted x (inl (omega arith)) in
        with_list z a d e (sought x).list refl (some_list x a (ap brings_list e))
