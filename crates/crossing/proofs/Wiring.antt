-- A board goes into bytes, part after part.
use mathlib.Core.Path.{◌≡◌, sym, ap, ap₂, ◌∙◌}
use mathlib.Core.List.{List, ◌++◌, append_assoc}
use Prim.Native.Nat.{ℕ, ◌+◌}
use native.Mathlib.Omega.{arith}
use borrow.Rule.Slice.PartMut.{put_mid}
use lib.ListN.{length, drop, length-append}
use lib.Seq.{drop-drop, take_at, drop_at}
use Rattle.board.specs.Inner.{Sized}
use Rattle.board.specs.declared.Board.{Board}
use Rattle.base.specs.Put.{over}
use Rattle.crossing.specs.Wire.{bytes_of}

-- a part written behind a front
part_put : (front rest part : List ℕ) (at k : ℕ) → length front ≡ at → put_mid at k (front ++ rest) part ≡ (front ++ part) ++ drop k rest
part_put front rest part at k e =
    ap₂ (λ (x y : List ℕ). x ++ (part ++ drop k y)) (take_at front rest at e) (drop_at front rest at e) ∙ sym (append_assoc front part (drop k rest))

module _ (b : Board) (z : Sized b) (old : List ℕ) where
  parts : put_mid 16 416 (put_mid 8 8 (put_mid 4 4 (b.cells ++ drop 4 old) b.foundation) b.counts) b.tableau ≡ over (bytes_of b) old
  unfolding over bytes_of
  parts =
      let four = z.four in
      let piles = z.piles in
      let eight = z.eight in
      let full = z.full in
      let two = length-append b.cells b.foundation in
      let three = length-append (b.cells ++ b.foundation) b.counts in
      let all = length-append (b.cells ++ b.foundation ++ b.counts) b.tableau in
      let same = append_assoc (b.cells ++ b.foundation) b.counts b.tableau ∙ append_assoc b.cells b.foundation (b.counts ++ b.tableau) in
      let long = ap length same in
      ap (λ (l : List ℕ). put_mid 16 416 (put_mid 8 8 l b.counts) b.tableau) (part_put b.cells (drop 4 old) b.foundation 4 4 four)
      ∙ ap (λ (l : List ℕ). put_mid 16 416 l b.tableau) (part_put (b.cells ++ b.foundation) (drop 4 (drop 4 old)) b.counts 8 8 (omega arith))
      ∙ part_put (b.cells ++ b.foundation ++ b.counts) (drop 8 (drop 4 (drop 4 old))) b.tableau 16 416 (omega arith)
      ∙ ap₂ (λ (x y : List ℕ). x ++ y) same
      (drop-drop 416 8 (drop 4 (drop 4 old)) ∙ drop-drop (8 + 416) 4 (drop 4 old) ∙ drop-drop (4 + (8 + 416)) 4 old
      ∙ ap (λ (n : ℕ). drop n old) (let q : 4 + (4 + (8 + 416)) ≡ length (b.cells ++ (b.foundation ++ (b.counts ++ b.tableau))) = omega arith in q))

  pub board_put : {one two three four : List ℕ} → one ≡ b.cells → two ≡ b.foundation → three ≡ b.counts → four ≡ b.tableau
      → put_mid 16 416 (put_mid 8 8 (put_mid 4 4 (one ++ drop 4 old) two) three) four ≡ over (bytes_of b) old
  board_put {one} {two} {three} {four} p q r s =
      ap₂ (λ (x y : List ℕ). put_mid 16 416 (put_mid 8 8 (put_mid 4 4 (x ++ drop 4 old) y) three) four) p q
      ∙ ap₂ (λ (x y : List ℕ). put_mid 16 416 (put_mid 8 8 (put_mid 4 4 (b.cells ++ drop 4 old) b.foundation) x) y) r s
      ∙ parts
