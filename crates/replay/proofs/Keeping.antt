-- A replayed list keeps the 52 cards and a well-formed board; and replaying a list and then another is replaying both.
use Rattle.std.specs.Prelude.{Ok}
use mathlib.Core.Path.{◌≡◌, refl, sym, ap, ◌∙◌, subst}
use mathlib.Core.Bool.{Bool, true, false}
use mathlib.Core.List.{List, ◌++◌}
use Prim.Native.Nat.{ℕ, zero, suc, ◌+◌, ◌/◌, ◌%◌, ◌≤◌}
use native.Mathlib.Omega.{arith}
use borrow.Author.Tests.{leb-true, eqb-true}
use lib.Dec.{leb}
use lib.ListN.{length, get_or, take, drop, length-drop, length-append}
use lib.Seq.{get_or-take, get_or-drop}
use Rattle.base.specs.Words.{occurs}
use Rattle.base.specs.Answer.{Answer, given, refused}
use Rattle.board.specs.Verdict.{Verdict}
use Rattle.base.proofs.Words.{first, second}
use Rattle.board.specs.Table.{cards_on}
use Rattle.board.specs.Record.{shown, board_of}
use Rattle.board.specs.Inner.{Sound}
use Rattle.board.specs.declared.Board.{Board}
use Rattle.board.proofs.Soundness.{sound_fine}
use Rattle.moves.specs.Move.{sayable}
use Rattle.moves.specs.Record.{move_asked}
use Rattle.moves.specs.Play.{after_move}
use Rattle.moves.specs.Causes.{ruling, played}
use Rattle.moves.proofs.Ruling.{fine-allowed}
use Rattle.moves.specs.declared.Move.{Move}
use Rattle.moves.proofs.Saying.{said_asked}
use Rattle.replay.specs.Step.{recorded, played_on, stepped}
use Rattle.replay.specs.Line.{Ending, go_on, line_from, records_in, is_line, replayed, continued}
use Rattle.replay.proofs.Stepping.{made_yes, made_no, sound_after, cards-after}
use Rattle.replay.proofs.Lining.{records_none, records_first, records_append, line-append}
use Rattle.replay.proofs.Replaying.{a_line, no_line, good_line}

-- from board b to board c: well formed, with the same cards
pub record Kept (b c : Board) : Type 0 where
  pub sound : Sound c
  pub cards : (x : ℕ) → occurs x (cards_on (shown c)) ≡ occurs x (cards_on (shown b))

none_kept : {b : Board} → Sound b → Kept b b
none_kept s = record { sound = s; cards = λ x. refl }

both_kept : {b c d : Board} → Kept b c → Kept c d → Kept b d
both_kept k l = record { sound = l.sound; cards = λ x. l.cards x ∙ k.cards x }

-- ---- one move

module _ {b c : Board} (s : Sound b) where
  made_keeps : (m : Move) → sayable m ≡ true → (v : Verdict) → ruling (shown b) m ≡ v → recorded (played (shown b) m) ≡ given c → Kept b c
  made_keeps m said (given u) r e =
      let a = fine-allowed (shown b) m r in
      let q = sym (made_yes b m a) ∙ e in
      let same : board_of (after_move (shown b) m) ≡ c = cc in
      subst (Kept b) same (record { sound = sound_after b s m said a; cards = cards-after b s m said a })
  made_keeps m said (refused n) r e =
      let q = sym (made_no b m r) ∙ e in
      let z : ◌≡◌ {A = ℕ} 0 1 = cc in absurd (let w : ⊥ = omega arith in w)

  asked-keeps : (r : List ℕ) → get_or r 3 0 ≤ 255 → (a : Answer Move) → a ≡ move_asked r → played_on b a ≡ given c → Kept b c
  asked-keeps r byte (given m) q e = made_keeps m (said_asked r byte q) (ruling (shown b) m) refl e
  asked-keeps r byte (refused n) q e = let z : ◌≡◌ {A = ℕ} 0 1 = cc in absurd (let w : ⊥ = omega arith in w)

  pub step_keeps : (r : List ℕ) → get_or r 3 0 ≤ 255 → stepped b r ≡ given c → Kept b c
  unfolding stepped
  step_keeps r byte e = asked-keeps r byte (move_asked r) refl e

-- ---- a line

-- a list of bytes
abbrev pub Bytes : List ℕ → Type 0
Bytes l = (k : ℕ) → get_or l k 0 ≤ 255

module _ {b : Board} (s : Sound b) (r : List ℕ) (byte : get_or r 3 0 ≤ 255) (rest : Board → Ending)
    (on : (c : Board) → Sound c → Kept c (rest c).board) where
  turn_keeps : (a : Answer Board) → stepped b r ≡ a → Kept b (go_on b a rest).board
  turn_keeps (given c) e = let k = step_keeps s r byte e in both_kept k (on c k.sound)
  turn_keeps (refused n) e = none_kept s

pub line-keeps : (n : ℕ) (l : List ℕ) → length l / 5 ≡ n → Bytes l → (b : Board) → Sound b → Kept b (line_from b (records_in l)).board
unfolding line_from
line-keeps zero l e f b s =
    subst (λ (rs : List (List ℕ)). Kept b (line_from b rs).board) (sym (records_none l (omega arith))) (none_kept s)
line-keeps (suc n) l e f b s =
    subst (λ (rs : List (List ℕ)). Kept b (line_from b rs).board) (sym (records_first l (omega arith)))
    (turn_keeps s (take 5 l) (let q = get_or-take 5 l 3 0 (omega arith) in let h = f 3 in omega arith) (λ c. line_from c (records_in (drop 5 l)))
    (line-keeps n (drop 5 l) (let d = length-drop 5 l in omega arith) (λ k. let q = get_or-drop 5 l k 0 in let h = f (5 + k) in omega arith))
    (stepped b (take 5 l)) refl)

-- ---- as it is asked for

module _ {b : Board} (s : Sound b) where
  line_or_not : (l : List ℕ) → Bytes l → (ok : Bool) → is_line l ≡ ok → Kept b (replayed b l).board
  line_or_not l f true y =
      subst (λ (e : Ending). Kept b e.board) (sym (good_line b l {r = (Ok tt)} (sym (sound_fine s)) refl y)) (line-keeps (length l / 5) l refl f b s)
  line_or_not l f false n = subst (λ (e : Ending). Kept b e.board) (sym (no_line b l {r = (Ok tt)} (sym (sound_fine s)) refl n)) (none_kept s)

  -- whatever list is replayed, and however it ends
  pub replay_keeps : (l : List ℕ) → Bytes l → Kept b (replayed b l).board
  replay_keeps l f = line_or_not l f (is_line l) refl

  -- a list and then another, if together they are no longer than a list may be
  pub replay_append : (l m : List ℕ) → Bytes l → is_line l ≡ true → is_line (l ++ m) ≡ true
      → replayed b (l ++ m) ≡ continued (replayed b l).verdict (replayed b l) (replayed (replayed b l).board m)
  unfolding is_line
  replay_append l m f y z =
      let a = length-append l m in
      let ly = leb-true (length l) 1000 (first (leb (length l) 1000) _ y) in
      let lf = eqb-true (length l % 5) 0 (second (leb (length l) 1000) _ y) in
      let zy = leb-true (length (l ++ m)) 1000 (first (leb (length (l ++ m)) 1000) _ z) in
      let zf = eqb-true (length (l ++ m) % 5) 0 (second (leb (length (l ++ m)) 1000) _ z) in
      let one = good_line b l {r = (Ok tt)} (sym (sound_fine s)) refl y in
      let end = line-keeps (length l / 5) l refl f b s in
      let two = good_line (line_from b (records_in l)).board m {r = (Ok tt)} (sym (sound_fine end.sound)) refl (a_line m (omega arith) (omega arith)) in
      good_line b (l ++ m) {r = (Ok tt)} (sym (sound_fine s)) refl z
      ∙ ap (line_from b) (records_append (length l / 5) l m (omega arith)) ∙ line-append (records_in l) (records_in m) b
      ∙ ap (λ (e : Ending). continued (line_from b (records_in l)).verdict (line_from b (records_in l)) e) (sym two)
      ∙ ap (λ (e : Ending). continued e.verdict e (replayed e.board m)) (sym one)
