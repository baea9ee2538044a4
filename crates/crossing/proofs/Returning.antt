-- Bytes and board say the same: what was handed over as bytes is asked about as the board itself.
use mathlib.Core.Path.{◌≡◌, sym, ap, ◌∙◌}
use mathlib.Core.Bool.{Bool}
use mathlib.Core.List.{List, ◌++◌, append_assoc}
use Prim.Native.Nat.{ℕ, ◌+◌, ◌≤◌}
use native.Mathlib.Omega.{arith}
use borrow.Author.Tests.{eq-eqb}
use lib.ListN.{length, take, drop, length-append, length-drop, take-append-drop}
use lib.Seq.{take_at, drop_at, take_all, drop-drop, length-take-le}
use Rattle.base.specs.Answer.{Answer, given, unless}
use Rattle.board.specs.Record.{examined, laid, tableau_room}
use Rattle.board.specs.Inner.{Sized}
use Rattle.board.specs.declared.Board.{Board}
use Rattle.intake.specs.Image.{image_read}
use Rattle.intake.specs.Deal.{deal_asked}
use Rattle.intake.proofs.Accepted.{Fine, read_fine, deal_fine}
use Rattle.crossing.specs.Wire.{board_in, bytes_of}
use Rattle.crossing.specs.Crossing.{told, asked}

-- a part of a list that stands between two others
between : (a p b : List ℕ) (i n : ℕ) → length a ≡ i → length p ≡ n → take n (drop i (a ++ (p ++ b))) ≡ p
between a p b i n e f = ap (take n) (drop_at a (p ++ b) i e) ∙ take_at p b n f

module _ (b : Board) (z : Sized b) where
  pub bytes_long : length (bytes_of b) ≡ 432
  unfolding bytes_of
  bytes_long =
      let f = z.four in
      let p = z.piles in
      let e = z.eight in
      let t = z.full in
      let x = length-append b.cells (b.foundation ++ (b.counts ++ b.tableau)) in
      let y = length-append b.foundation (b.counts ++ b.tableau) in
      let w = length-append b.counts b.tableau in
      omega arith

  two_long : length (b.cells ++ b.foundation) ≡ 8
  two_long = let f = z.four in let p = z.piles in let l = length-append b.cells b.foundation in omega arith

  three_long : length ((b.cells ++ b.foundation) ++ b.counts) ≡ 16
  three_long = let t = two_long in let e = z.eight in let l = length-append (b.cells ++ b.foundation) b.counts in omega arith

  two_first : bytes_of b ≡ (b.cells ++ b.foundation) ++ (b.counts ++ b.tableau)
  unfolding bytes_of
  two_first = sym (append_assoc b.cells b.foundation (b.counts ++ b.tableau))

  three-first : bytes_of b ≡ ((b.cells ++ b.foundation) ++ b.counts) ++ b.tableau
  three-first = two_first ∙ sym (append_assoc (b.cells ++ b.foundation) b.counts b.tableau)

  cells_back : take 4 (bytes_of b) ≡ b.cells
  unfolding bytes_of
  cells_back = take_at b.cells (b.foundation ++ (b.counts ++ b.tableau)) 4 z.four

  foundation_back : take 4 (drop 4 (bytes_of b)) ≡ b.foundation
  unfolding bytes_of
  foundation_back = between b.cells b.foundation (b.counts ++ b.tableau) 4 4 z.four z.piles

  counts_back : take 8 (drop 8 (bytes_of b)) ≡ b.counts
  counts_back =
      ap (λ (l : List ℕ). take 8 (drop 8 l)) two_first ∙ between (b.cells ++ b.foundation) b.counts b.tableau 8 8 two_long z.eight

  tableau_back : take tableau_room (drop 16 (bytes_of b)) ≡ b.tableau
  tableau_back =
      ap (λ (l : List ℕ). take tableau_room (drop 16 l)) three-first
      ∙ ap (take tableau_room) (drop_at ((b.cells ++ b.foundation) ++ b.counts) b.tableau 16 three_long)
      ∙ take_all tableau_room b.tableau (let t = z.full in omega arith)

  -- out of the bytes comes the board that went into them
  pub board_back : board_in (bytes_of b) ≡ b
  unfolding board_in
  board_back = same cells_back foundation_back counts_back tableau_back
    where
      same : {c f n t : List ℕ} → c ≡ b.cells → f ≡ b.foundation → n ≡ b.counts → t ≡ b.tableau
          → ◌≡◌ {A = Board} (laid c f n t)
          (laid b.cells b.foundation b.counts b.tableau)
      same p q r s = cc

  -- so a question about the bytes is the question about the board
  pub asked_back : {A : Type 0} (question : Board → Answer A) → asked (bytes_of b) question ≡ question b
  asked_back question =
      ap (λ (ok : Bool). unless ok 12 (question (board_in (bytes_of b)))) (eq-eqb (length (bytes_of b)) 432 bytes_long) ∙ ap question board_back

-- the parts of a board that bytes are have their lengths
pub sized_in : (bytes : List ℕ) → length bytes ≡ 432 → Sized (board_in bytes)
unfolding board_in
sized_in bytes e =
    record { four = part 4 0 (omega arith); piles = part 4 4 (omega arith); eight = part 8 8 (omega arith); full = part tableau_room 16 (omega arith) }
  where
    part : (n at : ℕ) → at + n ≤ 432 → length (take n (drop at bytes)) ≡ n
    part n at h = length-take-le n (drop at bytes) (let d = length-drop at bytes in omega arith)

-- into the bytes goes what came out of them
pub bytes_back : (bytes : List ℕ) → length bytes ≡ 432 → bytes_of (board_in bytes) ≡ bytes
unfolding bytes_of board_in
bytes_back bytes e =
    ap (λ (l : List ℕ). take 4 bytes ++ (take 4 (drop 4 bytes) ++ (take 8 (drop 8 bytes) ++ l)))
    (take_all tableau_room (drop 16 bytes) (let d = length-drop 16 bytes in omega arith))
    ∙ ap (λ (l : List ℕ). take 4 bytes ++ (take 4 (drop 4 bytes) ++ l)) (on 8 8)
    ∙ ap (λ (l : List ℕ). take 4 bytes ++ l) (on 4 4)
    ∙ take-append-drop 4 bytes
  where
    on : (n at : ℕ) → take n (drop at bytes) ++ drop (at + n) bytes ≡ drop at bytes
    on n at = ap (λ (l : List ℕ). take n (drop at bytes) ++ l) (sym (drop-drop n at bytes)) ∙ take-append-drop n (drop at bytes)

-- ---- a board that was read or dealt is found fine when its bytes come back

fine_back : {b : Board} → Fine b → told (asked (bytes_of b) examined) ≡ 0
fine_back {b} f = ap told (asked_back b f.sized examined ∙ f.verdict)

pub read_examines : (image : List ℕ) {b : Board} → image_read image ≡ given b → told (asked (bytes_of b) examined) ≡ 0
read_examines image e = fine_back (read_fine image e)

pub deal_examines : (deck : List ℕ) {b : Board} → deal_asked deck ≡ given b → told (asked (bytes_of b) examined) ≡ 0
deal_examines deck e = fine_back (deal_fine deck e)
