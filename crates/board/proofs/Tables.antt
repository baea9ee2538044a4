-- Laws of the table's parts: cells one by one, and the parts of some bytes.
use mathlib.Core.Path.{◌≡◌, refl, ap, ◌∙◌}
use mathlib.Core.Bool.{Bool, true, false, cond}
use mathlib.Core.List.{List, [], ◌∷◌, ◌++◌}
use Prim.Native.Nat.{ℕ, ◌+◌, ◌-◌, ◌*◌, ◌<◌, ◌≤◌}
use native.Mathlib.Omega.{arith}
use lib.Dec.{eqb}
use lib.ListN.{length, get_or, take, drop, length-take, length-drop, get_or-eq_default}
use lib.Seq.{get_or-take, get_or-drop}
use borrow.Author.Tests.{eq-eqb, ne_eqb, leb-true}
use Rattle.base.specs.Words.{all, listed, concat}
use Rattle.card.specs.Card.{is_card}
use Rattle.base.proofs.Words.{piecewise, all_at}
use Rattle.board.specs.Table.{held}
use Rattle.board.specs.Verdict.{is_cell}
use Rattle.board.specs.Record.{at_most, spare_at, room}
use Rattle.board.specs.Inner.{GoodCells, GoodPiles, part_at}

-- ---- cells

pub cell_empty : (x : ℕ) → x ≡ 255 → held (x ∷ []) ≡ []
unfolding held
cell_empty x e = rw (eq-eqb x 255 e)

pub cell_card : (x : ℕ) → (x ≡ 255 → ⊥) → held (x ∷ []) ≡ x ∷ []
unfolding held
cell_card x d = rw (ne_eqb x 255 d)

pub cell_is_card : (x : ℕ) → is_cell x ≡ true → (x ≡ 255 → ⊥) → is_card x ≡ true
unfolding is_cell
cell_is_card x e d = rw (ne_eqb x 255 d) at e

pub held-append : (s t : List ℕ) → held (s ++ t) ≡ held s ++ held t
unfolding held
held-append [] t = refl
held-append (x ∷ s) t = in_front (eqb x 255) (held-append s t)
  where
    in_front : (b : Bool) → held (s ++ t) ≡ held s ++ held t → cond b (held (s ++ t)) (x ∷ held (s ++ t)) ≡ cond b (held s) (x ∷ held s) ++ held t
    in_front true e = e
    in_front false e = ap (λ (l : List ℕ). x ∷ l) e

pub held-each : (s : List ℕ) → concat (listed (length s) (λ k. held (get_or s k 0 ∷ []))) ≡ held s
unfolding held
held-each s = piecewise held refl held-append s

-- ---- parts

pub part_is : (starts counts codes : List ℕ) (i w : ℕ) → w ≡ get_or counts i 0
    → take ((get_or starts i 0 + w) - get_or starts i 0) (drop (get_or starts i 0) codes) ≡ part_at starts counts codes i
unfolding part_at
part_is starts counts codes i w e =
    ap (λ (n : ℕ). take n (drop (get_or starts i 0) codes)) (let q : (get_or starts i 0 + w) - get_or starts i 0 ≡ get_or counts i 0 = omega arith in q)

module _ (starts counts codes : List ℕ) (i : ℕ) where
  pub part_length : get_or starts i 0 + get_or counts i 0 ≤ length codes → length (part_at starts counts codes i) ≡ get_or counts i 0
  unfolding part_at
  part_length w =
      length-take (get_or counts i 0) (drop (get_or starts i 0) codes) ∙ (let l = length-drop (get_or starts i 0) codes in omega arith)

  pub part_code_lem : (row : ℕ) → row < get_or counts i 0 → get_or (part_at starts counts codes i) row 0 ≡ get_or codes (get_or starts i 0 + row) 0
  unfolding part_at
  part_code_lem row h = get_or-take (get_or counts i 0) (drop (get_or starts i 0) codes) row 0 h ∙ get_or-drop (get_or starts i 0) codes row 0

  pub part_past : (row : ℕ) → get_or counts i 0 ≤ row → get_or (part_at starts counts codes i) row 0 ≡ 0
  unfolding part_at
  part_past row h =
      get_or-eq_default (take (get_or counts i 0) (drop (get_or starts i 0) codes)) 0
      (let l = length-take (get_or counts i 0) (drop (get_or starts i 0) codes) in omega arith)

  -- a part depends on its own start and count alone
  pub part_same : (starts' counts' : List ℕ) → get_or starts' i 0 ≡ get_or starts i 0 → get_or counts' i 0 ≡ get_or counts i 0
      → part_at starts' counts' codes i ≡ part_at starts counts codes i
  unfolding part_at
  part_same starts' counts' s c =
      ap (λ (n : ℕ). take n (drop (get_or starts' i 0) codes)) c ∙ ap (λ (n : ℕ). take (get_or counts i 0) (drop n codes)) s

  pub part_at_lem : (start count : ℕ) → get_or starts i 0 ≡ start → get_or counts i 0 ≡ count → part_at starts counts codes i ≡ take count (drop start codes)
  unfolding part_at
  part_at_lem start count s c =
      ap (λ (n : ℕ). take n (drop (get_or starts i 0) codes)) c ∙ ap (λ (n : ℕ). take count (drop n codes)) s

pub spare_is : (counts tableau : List ℕ) (i w : ℕ) → w ≡ get_or counts i 0
    → take ((i * room + room) - (i * room + w)) (drop (i * room + w) tableau) ≡ spare_at counts tableau i
unfolding spare_at
spare_is counts tableau i w e =
    ap (λ (n : ℕ). take n (drop (i * room + w) tableau)) (let q : (i * room + room) - (i * room + w) ≡ room - w = omega arith in q)
    ∙ ap (λ (n : ℕ). take (room - n) (drop (i * room + n) tableau)) e

-- ---- counts

pub at_most_lem : (n : ℕ) (s : List ℕ) → all (at_most n) s ≡ true → (i : ℕ) → i < length s → get_or s i 0 ≤ n
at_most_lem n s e i h = leb-true (get_or s i 0) n (all_at (at_most n) s e i h)

pub good_piles : (foundation : List ℕ) → length foundation ≡ 4 → all (at_most 13) foundation ≡ true → GoodPiles foundation
good_piles foundation four e = record { four = four; within = λ s h. at_most_lem 13 foundation e s (omega arith) }

pub good_cells : (cells : List ℕ) → length cells ≡ 4 → all is_cell cells ≡ true → GoodCells cells
good_cells cells four e = record { four = four; codes = λ i h. all_at is_cell cells e i (omega arith) }
