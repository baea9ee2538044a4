-- Moves as records in a list of bytes: what was written is there, each record possible and its move ready.
use mathlib.Core.Path.{◌≡◌, refl, sym, ap, ap₂, ◌∙◌, subst}
use mathlib.Core.Bool.{Bool, true}
use mathlib.Core.List.{List, [], ◌∷◌, ◌++◌, append_assoc}
use Prim.Native.Nat.{ℕ, zero, suc, ◌+◌, ◌-◌, ◌*◌, ◌<◌, ◌≤◌}
use native.Mathlib.Nat.{not-suc-le-zero}
use native.Mathlib.Omega.{arith}
use lib.ListN.{length, take, drop}
use lib.Seq.{take_at, drop-append-add}
use Rattle.base.specs.Words.{listed}
use Rattle.base.proofs.Words.{listed_same}
use Rattle.board.specs.Record.{shown}
use Rattle.board.specs.Inner.{Sound}
use Rattle.board.specs.declared.Board.{Board}
use Rattle.moves.specs.Record.{possible, move_of, record_of}
use Rattle.moves.specs.declared.Move.{Move}
use Rattle.moves.proofs.Saying.{move_of_record, possible_said}
use Rattle.play.specs.Change.{Ready}
use Rattle.replay.proofs.Lining.{listed-first}
use Rattle.generate.specs.Found.{gather}
use Rattle.moves.specs.Written.{bytes_of, written, Adds}
use Rattle.moves.proofs.Writing.{record_long, adds_long}
use Rattle.safe.specs.Safe.{chosen}
use Rattle.candidates.specs.Inner.{AllPlayable, record_at, move_at, moves_in, Holds}

-- five bytes from place k * 5 on are record k
pub record_part : (bytes : List ℕ) (k : ℕ) → take (k * 5 + 5 - k * 5) (drop (k * 5) bytes) ≡ record_at bytes k
unfolding record_at
record_part bytes k = ap (λ (n : ℕ). take n (drop (k * 5) bytes)) (let q : k * 5 + 5 - k * 5 ≡ 5 = omega arith in q)

module _ (bytes : List ℕ) (k : ℕ) where
  pub part_move : move_of (take (k * 5 + 5 - k * 5) (drop (k * 5) bytes)) ≡ move_at bytes k
  unfolding move_at
  part_move = ap move_of (record_part bytes k)

  module _ {b : Board} {n : ℕ} (h : Holds b bytes n) (below : k < n) where
    pub part_ready : Ready b (move_of (take (k * 5 + 5 - k * 5) (drop (k * 5) bytes)))
    part_ready = subst (Ready b) (sym part_move) (h.ready k below)

    pub part_possible : possible (take (k * 5 + 5 - k * 5) (drop (k * 5) bytes)) ≡ true
    part_possible = ap possible (record_part bytes k) ∙ h.records.each k below

  module _ (p : Move → Bool) where
    abbrev partly : List Move
    partly = chosen p (move_of (take (k * 5 + 5 - k * 5) (drop (k * 5) bytes)) ∷ [])

    pub part_room : (at lent : ℕ) → (at + length (chosen p (move_at bytes k ∷ []))) * 5 ≤ lent → (at + length partly) * 5 ≤ lent
    part_room at lent h = subst (λ (m : Move). (at + length (chosen p (m ∷ []))) * 5 ≤ lent) (sym part_move) h

    pub part_adds : {old new : List ℕ} {at r : ℕ} → Adds old new at r partly → Adds old new at r (chosen p (move_at bytes k ∷ []))
    part_adds {old} {new} {at} {r} a = subst (λ (m : Move). Adds old new at r (chosen p (m ∷ []))) part_move a

-- ---- the first record, and the others

module _ (m : Move) (ms : List Move) (rest : List ℕ) where
  apart : bytes_of (m ∷ ms) ++ rest ≡ record_of m ++ (bytes_of ms ++ rest)
  unfolding bytes_of
  apart = append_assoc (record_of m) (bytes_of ms) rest

  first_record : record_at (bytes_of (m ∷ ms) ++ rest) 0 ≡ record_of m
  unfolding record_at
  first_record = ap (take 5) apart ∙ take_at (record_of m) (bytes_of ms ++ rest) 5 (record_long m)

  next_record : (k : ℕ) → record_at (bytes_of (m ∷ ms) ++ rest) (suc k) ≡ record_at (bytes_of ms ++ rest) k
  unfolding record_at
  next_record k =
      let long = record_long m in
      ap (take 5)
      (ap (drop (suc k * 5)) apart
      ∙ ap (λ (n : ℕ). drop n (record_of m ++ (bytes_of ms ++ rest))) (let q : suc k * 5 ≡ length (record_of m) + k * 5 = omega arith in q)
      ∙ drop-append-add (record_of m) (bytes_of ms ++ rest) (k * 5))

-- what holds of each record that is written holds of each that is read
each_record : (P : List ℕ → Type 0) (ms : List Move) (rest : List ℕ)
    → (t : List Move → Type 0) → ((m : Move) (l : List Move) → t (m ∷ l) → P (record_of m) × t l) → t ms → (k : ℕ) → k < length ms → P (record_at (bytes_of ms ++ rest) k)
each_record P [] rest t step a k h = absurd (not-suc-le-zero h)
each_record P (m ∷ ms) rest t step a zero h = subst P (sym (first_record m ms rest)) (step m ms a).0
each_record P (m ∷ ms) rest t step a (suc k) h =
    subst P (sym (next_record m ms rest k)) (each_record P ms rest t step (step m ms a).1 k (omega arith))

moves_read : (ms : List Move) (rest : List ℕ) → moves_in (bytes_of ms ++ rest) (length ms) ≡ ms
unfolding moves_in move_at listed
moves_read [] rest = refl
moves_read (m ∷ ms) rest =
    listed-first (λ k. move_of (record_at (bytes_of (m ∷ ms) ++ rest) k)) (length ms)
    ∙ ap₂ (λ (x : Move) (l : List Move). x ∷ l) (ap move_of (first_record m ms rest) ∙ move_of_record m)
    (listed_same (λ k. move_of (record_at (bytes_of (m ∷ ms) ++ rest) (suc k))) (λ k. move_of (record_at (bytes_of ms ++ rest) k)) (length ms)
    (λ k h. ap move_of (next_record m ms rest k))
    ∙ moves_read ms rest)

-- ---- after moves were written from the start of some room

module _ {old new : List ℕ} {n : ℕ} {ms : List Move} (a : Adds old new 0 n ms) where
  room_is : new ≡ bytes_of ms ++ drop (length ms * 5) old
  unfolding written
  room_is = a.room ∙ ap (λ (k : ℕ). bytes_of ms ++ drop (k * 5) old) (let q : 0 + length ms ≡ length ms = omega arith in q)

  many : n ≡ length ms
  many = let m = a.many in omega arith

  pub moves_written : moves_in new n ≡ ms
  moves_written = ap₂ moves_in room_is many ∙ moves_read ms (drop (length ms * 5) old)

  module _ {b : Board} (s : Sound b) (p : AllPlayable (shown b) ms) (room : length ms * 5 ≤ length old) where
    each_ready : (k : ℕ) → k < length ms → (possible (record_at (bytes_of ms ++ drop (length ms * 5) old) k) ≡ true) × Ready b (move_of (record_at (bytes_of ms ++ drop (length ms * 5) old) k))
    each_ready =
        each_record (λ r. (possible r ≡ true) × Ready b (move_of r)) ms (drop (length ms * 5) old) (AllPlayable (shown b))
        (λ m l q. ((possible_said m q.0.said, subst (Ready b) (sym (move_of_record m)) (record { sound = s; said = q.0.said; allows = q.0.allows })), q.1)) p

    pub holds-written : Holds b new n
    unfolding move_at
    holds-written =
        record {
          sound = s;
          records = record { fits = let l = adds_long (let q : (0 + length ms) * 5 ≤ length old = omega arith in q) a in let m = many in omega arith; each = λ k h. (both k h).0 };
          ready = λ k h. (both k h).1;
        }
      where
        both : (k : ℕ) → k < n → (possible (record_at new k) ≡ true) × Ready b (move_of (record_at new k))
        both k h =
            subst (λ (l : List ℕ). (possible (record_at l k) ≡ true) × Ready b (move_of (record_at l k))) (sym room_is)
            (each_ready k (let m = many in omega arith))

-- ---- moves one by one

-- one-element lists gathered are the list of the elements
pub gather_singles : (f : ℕ → Move) (n : ℕ) → gather n (λ k. f k ∷ []) ≡ listed n f
unfolding gather listed
gather_singles f zero = refl
gather_singles f (suc n) = ap (λ (l : List Move). l ++ (f n ∷ [])) (gather_singles f n)
