-- The first move that cannot be written, by the first bytes of the records of a list that can be played.
use mathlib.Core.Path.{◌≡◌, refl, sym, ap, subst, ◌∙◌}
use mathlib.Core.Bool.{true}
use mathlib.Core.List.{List, [], ◌∷◌, ◌++◌}
use Prim.Native.Nat.{ℕ, zero, suc, ◌+◌, ◌*◌, ◌/◌, ◌%◌, ◌<◌, ◌≤◌}
use native.Mathlib.Omega.{arith}
use borrow.Author.Tests.{ltb-true, lt-ltb, le-leb, lt-leb, ne_eqb, le-ltb}
use lib.Dec.{eqb, leb, ltb}
use lib.ListN.{length, get_or, take, drop, length-drop, take-append-drop}
use lib.Seq.{get_or-take, get_or-drop, drop-drop, length-take-le}
use Rattle.base.specs.Answer.{Answer, given, refused}
use Rattle.base.proofs.Words.{both, first, second, second_fails, get_or-listed, length-listed}
use Rattle.card.specs.Card.{is_card}
use Rattle.board.specs.Verdict.{fine}
use Rattle.board.specs.declared.Board.{Board}
use Rattle.moves.specs.Record.{source_room, possible}
use Rattle.replay.specs.Step.{stepped}
use Rattle.replay.specs.Line.{go_on, line_from, records_in}
use Rattle.writing.specs.Lines.{writable_first}
use Rattle.writing.specs.Asked.{moves_in}
use Rattle.writing.proofs.Writing.{steps}
use Rattle.writing.proofs.Looking.{kind_writes, Looked, looked_start, looked_turn, looked_stop, looked_end}

-- ---- a record that is played has a kind

no_kind : (kind : ℕ) → 6 < kind → source_room kind ≡ 0
unfolding source_room
no_kind kind h =
    rw (ne_eqb kind 0 (λ e. let z : ⊥ = omega arith in z), lt-leb kind 3 (omega arith), lt-leb kind 6 (omega arith))

kind_there : (kind x : ℕ) → x < source_room kind → (1 ≤ kind) × (kind ≤ 6)
unfolding source_room
kind_there zero x h = absurd (let z : ⊥ = omega arith in z)
kind_there (suc zero) x h = (omega arith, omega arith)
kind_there (suc (suc zero)) x h = (omega arith, omega arith)
kind_there (suc (suc (suc zero))) x h = (omega arith, omega arith)
kind_there (suc (suc (suc (suc zero)))) x h = (omega arith, omega arith)
kind_there (suc (suc (suc (suc (suc zero))))) x h = (omega arith, omega arith)
kind_there (suc (suc (suc (suc (suc (suc zero)))))) x h = (omega arith, omega arith)
kind_there (suc (suc (suc (suc (suc (suc (suc k))))))) x h =
    absurd (let e = no_kind (suc (suc (suc (suc (suc (suc (suc k))))))) (omega arith) in let z : ⊥ = omega arith in z)

kind_possible : (r : List ℕ) → possible r ≡ true → (1 ≤ get_or r 0 0) × (get_or r 0 0 ≤ 6)
unfolding possible
kind_possible r e =
    let a = second (eqb (length r) 5) _ e in
    let b = second (is_card (get_or r 4 0)) _ a in
    kind_there (get_or r 0 0) (get_or r 1 0) (ltb-true (get_or r 1 0) (source_room (get_or r 0 0)) (first (ltb (get_or r 1 0) (source_room (get_or r 0 0))) _ b))

line-possible : (rs : List (List ℕ)) (b : Board) → (line_from b rs).verdict ≡ fine → (k : ℕ) → k < length rs → possible (get_or rs k []) ≡ true
unfolding line_from
line-possible [] b e k h = absurd (let z : ⊥ = omega arith in z)
line-possible (r ∷ rs) b e k h = by (stepped b r) refl e (line-possible rs) k h
  where
    by : (a : Answer Board) → stepped b r ≡ a → (go_on b a (λ c. line_from c rs)).verdict ≡ fine
        → ((c : Board) → (line_from c rs).verdict ≡ fine → (k : ℕ) → k < length rs → possible (get_or rs k []) ≡ true)
        → (k : ℕ) → k < suc (length rs) → possible (get_or (r ∷ rs) k []) ≡ true
    by (given c) q e on zero h = (steps b r q).can
    by (given c) q e on (suc k) h = on c e k (omega arith)
    by (refused n) q e on k h = let z : ◌≡◌ {A = ℕ} 0 1 = cc in absurd (let w : ⊥ = omega arith in w)

-- ---- the records, one after the other

module _ (bytes : List ℕ) where
  abbrev record_at : ℕ → List ℕ
  record_at k = take 5 (drop (k * 5) bytes)

  kind_at : (k : ℕ) → get_or (record_at k) 0 0 ≡ get_or bytes (k * 5) 0
  kind_at k =
      get_or-take 5 (drop (k * 5) bytes) 0 0 (omega arith) ∙ get_or-drop (k * 5) bytes 0 0
      ∙ ap (λ (i : ℕ). get_or bytes i 0) (let z : k * 5 + 0 ≡ k * 5 = omega arith in z)

  parts : (k : ℕ) → drop (k * 5) bytes ≡ record_at k ++ drop (suc k * 5) bytes
  parts k =
      sym (take-append-drop 5 (drop (k * 5) bytes))
      ∙ ap (λ (l : List ℕ). record_at k ++ l) (drop-drop 5 (k * 5) bytes ∙ ap (λ (n : ℕ). drop n bytes) (let z : k * 5 + 5 ≡ suc k * 5 = omega arith in z))

  five : length bytes % 5 ≡ 0 → (k : ℕ) → k * 5 < length bytes → length (record_at k) ≡ 5
  five whole k h = length-take-le 5 (drop (k * 5) bytes) (let d = length-drop (k * 5) bytes in omega arith)

module _ (b : Board) (bytes : List ℕ) (whole : length bytes % 5 ≡ 0) (plays : (line_from b (records_in bytes)).verdict ≡ fine) where
  kind_of : (k : ℕ) → k * 5 < length bytes → (1 ≤ get_or bytes (k * 5) 0) × (get_or bytes (k * 5) 0 ≤ 6)
  unfolding records_in
  kind_of k h =
      let n = length-listed (λ i. take 5 (drop (i * 5) bytes)) (length bytes / 5) in
      let p = line-possible (records_in bytes) b plays k (omega arith) in
      let r = kind_possible (record_at bytes k) (subst (λ (l : List ℕ). possible l ≡ true) (get_or-listed (λ i. take 5 (drop (i * 5) bytes)) (length bytes / 5) k [] (omega arith)) p) in
      let s = kind_at bytes k in
      (omega arith, omega arith)

  -- as far as no record is of kind 6, each can be written
  looked_to : (p : ℕ) → p * 5 ≤ length bytes → ((k : ℕ) → k < p → get_or bytes (k * 5) 0 ≡ 6 → ⊥) → Looked bytes (drop (p * 5) bytes) p
  looked_to zero h none = looked_start bytes refl refl
  looked_to (suc p) h none =
      let r = looked_to p (omega arith) (λ k l. none k (omega arith)) in
      let kind = get_or (record_at bytes p) 0 0 in
      let b = kind_of p (omega arith) in
      let s = kind_at bytes p in
      let d = none p (omega arith) in
      looked_turn r (record_at bytes p) (drop (suc p * 5) bytes) (parts bytes p) (five bytes whole p (omega arith)) (λ f t n code. kind_writes f t n code kind)
      (both (le-leb 1 kind (omega arith)) (lt-ltb kind 6 (omega arith))) {n = suc p} (omega arith)

  -- a record of kind 6 with none before it is the first that cannot be written
  pub first_sixth : (p : ℕ) → p * 5 < length bytes → get_or bytes (p * 5) 0 ≡ 6 → ((k : ℕ) → k < p → get_or bytes (k * 5) 0 ≡ 6 → ⊥)
      → (p ≡ writable_first (moves_in bytes)) × (p < length (moves_in bytes))
  first_sixth p h six none =
      let kind = get_or (record_at bytes p) 0 0 in
      let s = kind_at bytes p in
      looked_stop (looked_to p (omega arith) none) (record_at bytes p) (drop (suc p * 5) bytes) (parts bytes p) (five bytes whole p h) (λ f t n code. kind_writes f t n code kind)
      (second_fails (leb 1 kind) (ltb kind 6) (le-ltb kind 6 (omega arith))) {place = p} refl

  -- with none of kind 6 all can be written
  pub none_sixth : ((k : ℕ) → k * 5 < length bytes → get_or bytes (k * 5) 0 ≡ 6 → ⊥) → writable_first (moves_in bytes) ≡ length (moves_in bytes)
  none_sixth none =
      let d = length-drop (length bytes / 5 * 5) bytes in
      looked_end (looked_to (length bytes / 5) (omega arith) (λ k h. none k (omega arith))) (omega arith)
