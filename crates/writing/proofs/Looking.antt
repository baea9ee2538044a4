-- The first record that cannot be written.
use mathlib.Core.Path.{◌≡◌, refl, sym, ap, ap₂, ◌∙◌}
use mathlib.Core.Bool.{Bool, true, false, cond, ◌&&◌}
use mathlib.Core.List.{List, [], ◌∷◌, ◌++◌}
use Prim.Native.Nat.{ℕ, zero, suc, ◌+◌, ◌*◌, ◌/◌, ◌<◌}
use native.Mathlib.Omega.{arith}
use borrow.Author.Tests.{le-leb, le-ltb, ne_eqb}
use lib.Dec.{leb, ltb}
use lib.ListN.{length, get_or, take, drop, length-append}
use lib.Seq.{take_at, drop_at}
use Rattle.base.proofs.Words.{length-listed}
use Rattle.moves.specs.Record.{move_said, move_of}
use Rattle.moves.specs.declared.Move.{Move}
use Rattle.replay.specs.Line.{records_in}
use Rattle.replay.proofs.Lining.{records_none, records_first}
use Rattle.sense.specs.Meant.{writable}
use Rattle.writing.specs.Lines.{writable_first}
use Rattle.writing.specs.Asked.{moves_of, moves_in}

-- ---- kinds 1 to 5 can be written

module _ (f t n code : ℕ) where
  pub kind_writes : (kind : ℕ) → (leb 1 kind && ltb kind 6) ≡ writable (move_said kind f t n code)
  unfolding move_said
  kind_writes zero = refl
  kind_writes (suc zero) = refl
  kind_writes (suc (suc zero)) = refl
  kind_writes (suc (suc (suc zero))) = refl
  kind_writes (suc (suc (suc (suc zero)))) = refl
  kind_writes (suc (suc (suc (suc (suc zero))))) = refl
  kind_writes (suc (suc (suc (suc (suc (suc k)))))) =
      let kind = suc (suc (suc (suc (suc (suc k))))) in
      rw (
        le-leb 1 kind (omega arith),
        le-ltb kind 6 (omega arith),
        ne_eqb kind 1 (λ e. let z : ⊥ = omega arith in z),
        ne_eqb kind 2 (λ e. let z : ⊥ = omega arith in z),
        ne_eqb kind 3 (λ e. let z : ⊥ = omega arith in z),
        ne_eqb kind 4 (λ e. let z : ⊥ = omega arith in z),
        ne_eqb kind 5 (λ e. let z : ⊥ = omega arith in z),
      )

-- ---- how many moves there are

moves_records : (rs : List (List ℕ)) → length (moves_of rs) ≡ length rs
unfolding moves_of
moves_records [] = refl
moves_records (r ∷ rs) = ap suc (moves_records rs)

pub moves_many : (bytes : List ℕ) → length (moves_in bytes) ≡ length bytes / 5
unfolding moves_in records_in
moves_many bytes = moves_records (records_in bytes) ∙ length-listed (λ k. take 5 (drop (k * 5) bytes)) (length bytes / 5)

-- ---- the records, one after the other

pub records_front : (r rest : List ℕ) → length r ≡ 5 → records_in (r ++ rest) ≡ r ∷ records_in rest
records_front r rest e =
    let l = length-append r rest in
    records_first (r ++ rest) (omega arith) ∙ ap₂ (λ (x y : List ℕ). x ∷ records_in y) (take_at r rest 5 e) (drop_at r rest 5 e)

-- what the loop knows: so far each can be written
pub record Looked (bytes rest : List ℕ) (moves : ℕ) : Type 0 where
  pub first : writable_first (moves_in bytes) ≡ moves + writable_first (moves_in rest)
  pub many : length (moves_in bytes) ≡ moves + length (moves_in rest)

pub looked_start : (bytes : List ℕ) {rest : List ℕ} {n : ℕ} → rest ≡ bytes → n ≡ 0 → Looked bytes rest n
looked_start bytes {rest} {n} e z =
    let f = ap (λ (l : List ℕ). writable_first (moves_in l)) e in
    let m = ap (λ (l : List ℕ). length (moves_in l)) e in
    record { first = omega arith; many = omega arith }

module _ {bytes rest : List ℕ} {moves : ℕ} (r : Looked bytes rest moves) where
  module _ (next later : List ℕ) (e : rest ≡ next ++ later) (five : length next ≡ 5) where
    front : moves_in rest ≡ move_of next ∷ moves_in later
    unfolding moves_in moves_of
    front = ap moves_of (ap records_in e ∙ records_front next later five)

    -- by the record's first byte
    module _ {k : Bool} (q : (f t n code : ℕ) → k ≡ writable (move_said (get_or next 0 0) f t n code)) where
      by_kind : k ≡ writable (move_of next)
      unfolding move_of
      by_kind = q (get_or next 1 0) (get_or next 2 0) (get_or next 3 0) (get_or next 4 0)

      pub looked_turn : k ≡ true → {n : ℕ} → n ≡ moves + 1 → Looked bytes later n
      unfolding writable_first
      looked_turn t {n} u =
          let f = r.first ∙ ap (λ (ms : List Move). moves + writable_first ms) front
          ∙ ap (λ (b : Bool). moves + cond b (suc (writable_first (moves_in later))) 0) (sym by_kind ∙ t) in
          let m = r.many ∙ ap (λ (ms : List Move). moves + length ms) front in
          record { first = omega arith; many = omega arith }

      pub looked_stop : k ≡ false → {place : ℕ} → place ≡ moves → (place ≡ writable_first (moves_in bytes)) × (place < length (moves_in bytes))
      unfolding writable_first
      looked_stop t {place} u =
          let f = r.first ∙ ap (λ (ms : List Move). moves + writable_first ms) front
          ∙ ap (λ (b : Bool). moves + cond b (suc (writable_first (moves_in later))) 0) (sym by_kind ∙ t) in
          let m = r.many ∙ ap (λ (ms : List Move). moves + length ms) front in
          (omega arith, omega arith)

  pub looked_end : length rest < 5 → writable_first (moves_in bytes) ≡ length (moves_in bytes)
  unfolding moves_in moves_of writable_first
  looked_end h =
      let none = records_none rest h in
      let f = r.first ∙ ap (λ (rs : List (List ℕ)). moves + writable_first (moves_of rs)) none in
      let m = r.many ∙ ap (λ (rs : List (List ℕ)). moves + length (moves_of rs)) none in
      omega arith
