-- A line is replayed record by record; a line after a line is their line together.
use Rattle.std.specs.Prelude.{Err, Ok}
use mathlib.Core.Path.{◌≡◌, refl, sym, ap, ap₂, ◌∙◌}
use mathlib.Core.List.{List, [], ◌∷◌, ◌++◌}
use Prim.Native.Nat.{ℕ, zero, suc, ◌+◌, ◌-◌, ◌*◌, ◌/◌, ◌%◌, ◌<◌, ◌≤◌}
use native.Mathlib.Omega.{arith}
use lib.ListN.{length, take, drop, length-drop, length-append}
use lib.Seq.{drop-drop, take-append-le, drop-append-le}
use Rattle.base.specs.Words.{listed}
use Rattle.base.specs.Answer.{Answer, given, refused}
use Rattle.base.proofs.Words.{listed_same}
use Rattle.board.specs.Verdict.{Verdict, fine}
use Rattle.board.specs.Refusal.{number_of}
use Rattle.board.specs.Inner.{Sound}
use Rattle.board.specs.declared.Board.{Board}
use Rattle.board.specs.declared.Refusal.{Refusal}
use Rattle.replay.specs.Step.{stepped}
use Rattle.replay.specs.Handed.{Ends}
use Rattle.replay.specs.Line.{Ending, one_more, go_on, line_from, records_in, continued}

-- ---- records in bytes

pub listed-first : {A : Type 0} (f : ℕ → A) (n : ℕ) → listed (suc n) f ≡ f 0 ∷ listed n (λ k. f (suc k))
unfolding listed
listed-first f zero = refl
listed-first f (suc n) = ap (λ (l : List _). l ++ (f (suc n) ∷ [])) (listed-first f n)

pub records_none : (l : List ℕ) → length l < 5 → records_in l ≡ []
unfolding records_in listed
records_none l h = ap (λ (n : ℕ). listed n (λ k. take 5 (drop (k * 5) l))) (let e : length l / 5 ≡ 0 = omega arith in e)

pub records_first : (l : List ℕ) → 5 ≤ length l → records_in l ≡ take 5 l ∷ records_in (drop 5 l)
unfolding records_in
records_first l h =
    ap (λ (n : ℕ). listed n (λ k. take 5 (drop (k * 5) l)))
    (let d = length-drop 5 l in let e : length l / 5 ≡ suc (length (drop 5 l) / 5) = omega arith in e)
    ∙ listed-first (λ k. take 5 (drop (k * 5) l)) (length (drop 5 l) / 5)
    ∙ ap (λ (rs : List (List ℕ)). take 5 l ∷ rs)
    (listed_same (λ k. take 5 (drop (suc k * 5) l)) (λ k. take 5 (drop (k * 5) (drop 5 l))) (length (drop 5 l) / 5)
    (λ k b. ap (take 5) (ap (λ (n : ℕ). drop n l) (let e : suc k * 5 ≡ 5 + k * 5 = omega arith in e) ∙ sym (drop-drop (k * 5) 5 l))))

pub records_append : (n : ℕ) (l m : List ℕ) → length l ≡ n * 5 → records_in (l ++ m) ≡ records_in l ++ records_in m
records_append zero [] m e = ap (λ (rs : List (List ℕ)). rs ++ records_in m) (sym (records_none [] (omega arith)))
records_append zero (x ∷ l) m e = absurd (let z : ⊥ = omega arith in z)
records_append (suc n) l m e =
    let a = length-append l m in
    records_first (l ++ m) (omega arith)
    ∙ ap₂ (λ (r : List ℕ) (rest : List ℕ). r ∷ records_in rest) (take-append-le 5 l m (omega arith)) (drop-append-le 5 l m (omega arith))
    ∙ ap (λ (rs : List (List ℕ)). take 5 l ∷ rs) (records_append n (drop 5 l) m (let d = length-drop 5 l in omega arith))
    ∙ ap (λ (rs : List (List ℕ)). rs ++ records_in m) (sym (records_first l (omega arith)))

-- ---- a line after a line

-- n moves were played before
abbrev pub more : ℕ → Ending → Ending
more n e = record { verdict = e.verdict; moves = n + e.moves; board = e.board }

none_more : (e : Ending) → e ≡ more 0 e
none_more e = ap (λ (n : ℕ). record { verdict = e.verdict; moves = n; board = e.board }) (let q : e.moves ≡ 0 + e.moves = omega arith in q)

one_more_on : (v : Verdict) (e f : Ending) → one_more (continued v e f) ≡ continued v (one_more e) f
one_more_on (given u) e f = ap (λ (n : ℕ). record { verdict = f.verdict; moves = n; board = f.board }) (let q : suc (e.moves + f.moves) ≡ suc e.moves + f.moves = omega arith in q)
one_more_on (refused n) e f = refl

-- what is left of a line once its first record has its answer
module _ (b : Board) (rs qs : List (List ℕ))
    (on : (c : Board) → line_from c (rs ++ qs) ≡ continued (line_from c rs).verdict (line_from c rs) (line_from (line_from c rs).board qs)) where
  abbrev first-line : Answer Board → Ending
  first-line a = go_on b a (λ c. line_from c rs)

  pub line_turn : (a : Answer Board) → go_on b a (λ c. line_from c (rs ++ qs))
      ≡ continued (first-line a).verdict (first-line a) (line_from (first-line a).board qs)
  line_turn (given c) = ap one_more (on c) ∙ one_more_on (line_from c rs).verdict (line_from c rs) (line_from (line_from c rs).board qs)
  line_turn (refused n) = refl

pub line-append : (rs qs : List (List ℕ)) (b : Board)
    → line_from b (rs ++ qs) ≡ continued (line_from b rs).verdict (line_from b rs) (line_from (line_from b rs).board qs)
unfolding line_from
line-append [] qs b = none_more (line_from b qs)
line-append (r ∷ rs) qs b = line_turn b rs qs (line-append rs qs) (stepped b r)

-- ---- what the loop knows

-- so far every record was played, and what is left to replay ends as the whole line does
pub record Runs (bytes : List ℕ) (b now : Board) (moves at : ℕ) : Type 0 where
  pub sound : Sound now
  pub place : at ≡ moves * 5
  pub upto : at ≤ length bytes
  pub left : line_from b (records_in bytes) ≡ more moves (line_from now (records_in (drop at bytes)))

module _ (bytes : List ℕ) (whole : length bytes % 5 ≡ 0) (b : Board) where
  pub runs_start : Sound b → Runs bytes b b 0 0
  runs_start s = record { sound = s; place = refl; upto = omega arith; left = none_more (line_from b (records_in bytes)) }

  module _ {now : Board} {moves at : ℕ} (r : Runs bytes b now moves at) where
    pub five_left : at < length bytes → at + 5 ≤ length bytes
    five_left h = let p = r.place in omega arith

    -- the bytes of the next record
    abbrev next_record : List ℕ
    next_record = take (at + 5 - at) (drop at bytes)

    -- the next record, and those after it
    next : at < length bytes → line_from b (records_in bytes)
        ≡ more moves (go_on now (stepped now next_record) (λ c. line_from c (records_in (drop (at + 5) bytes))))
    unfolding line_from
    next h =
        let f = five_left h in
        r.left
        ∙ ap (λ (rs : List (List ℕ)). more moves (line_from now rs))
        (records_first (drop at bytes) (let d = length-drop at bytes in omega arith)
        ∙ ap (λ (l : List ℕ). take 5 (drop at bytes) ∷ records_in l) (drop-drop 5 at bytes)
        ∙ ap (λ (n : ℕ). take n (drop at bytes) ∷ records_in (drop (at + 5) bytes)) (let q : 5 ≡ at + 5 - at = omega arith in q))

    pub runs_turn : {c : Board} → at < length bytes → stepped now next_record ≡ given c → Sound c
        → Runs bytes b c (moves + 1) (at + 5)
    runs_turn {c} h e s =
        record {
          sound = s;
          place = (let p = r.place in omega arith);
          upto = five_left h;
          left = next h
              ∙ ap (λ (a : Answer Board). more moves (go_on now a (λ d. line_from d (records_in (drop (at + 5) bytes))))) e
              ∙ ap (λ (n : ℕ). record { verdict = rest.verdict; moves = n; board = rest.board }) (let q : moves + suc rest.moves ≡ moves + 1 + rest.moves = omega arith in q);
        }
      where
        rest : Ending
        rest = line_from c (records_in (drop (at + 5) bytes))

    pub runs_stop : {n : ℕ} → at < length bytes → stepped now next_record ≡ refused n
        → line_from b (records_in bytes) ≡ record { verdict = refused n; moves = moves; board = now }
    runs_stop {n} h e =
        next h
        ∙ ap (λ (a : Answer Board). more moves (go_on now a (λ d. line_from d (records_in (drop (at + 5) bytes))))) e
        ∙ ap (λ (k : ℕ). record { verdict = refused n; moves = k; board = now }) (let q : moves + 0 ≡ moves = omega arith in q)

    pub runs_end : length bytes ≤ at → line_from b (records_in bytes) ≡ record { verdict = fine; moves = moves; board = now }
    unfolding line_from
    runs_end h =
        r.left
        ∙ ap (λ (rs : List (List ℕ)). more moves (line_from now rs)) (records_none (drop at bytes) (let d = length-drop at bytes in omega arith))
        ∙ ap (λ (k : ℕ). record { verdict = fine; moves = k; board = now }) (let q : moves + 0 ≡ moves = omega arith in q)

-- ---- what is handed back

module _ {e : Ending} {n : ℕ} {d : Board} where
  pub ends_no : {why : Refusal} → e ≡ record { verdict = refused (number_of why); moves = n; board = d } → Ends e (record { said = Err why; moves = n; board = d })
  ends_no q = record { said = ap (λ (f : Ending). f.verdict) (sym q); moves = ap (λ (f : Ending). f.moves) (sym q); board = ap (λ (f : Ending). f.board) (sym q) }

  pub ends_yes : e ≡ record { verdict = fine; moves = n; board = d } → Ends e (record { said = (Ok tt); moves = n; board = d })
  ends_yes q = record { said = ap (λ (f : Ending). f.verdict) (sym q); moves = ap (λ (f : Ending). f.moves) (sym q); board = ap (λ (f : Ending). f.board) (sym q) }
