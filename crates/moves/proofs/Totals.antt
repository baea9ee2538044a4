-- How many cards are home after a move: one more if it goes to a foundation, one less if it comes from one, else as many.
use mathlib.Core.Path.{◌≡◌, refl, sym, ap, ◌∙◌}
use mathlib.Core.Bool.{true}
use mathlib.Core.List.{List, ◌++◌}
use Prim.Native.Nat.{ℕ, ◌+◌, ◌*◌, ◌<◌}
use native.Mathlib.Omega.{arith}
use borrow.Author.Tests.{ltb-true}
use lib.ListN.{length, get_or, set, length-append}
use lib.Seq.{get_or-set_same, get_or-set_other}
use Rattle.base.proofs.Words.{length-listed}
use Rattle.base.proofs.Sums.{sum_changed}
use Rattle.board.specs.Table.{Table, pile}
use Rattle.board.specs.Fair.{Seats}
use Rattle.questions.specs.Questions.{home_count}
use Rattle.moves.specs.Move.{from, to, count, is_place, sayable}
use Rattle.moves.specs.declared.Place.{Place}
use Rattle.moves.specs.declared.Place.TheVariants.{Column as column, Cell as cell, Home as home}
use Rattle.moves.specs.Play.{there, put, last_of, others_of, hand, without, after_move, allowed, homeward}
use Rattle.moves.specs.declared.Move.{Move}
use Rattle.moves.specs.declared.Move.TheVariants.{TableauToTableau, TableauToFoundation, TableauToFreeCell, FreeCellToTableau, FreeCellToFoundation, FoundationToTableau}
use Rattle.moves.proofs.Keeping.{seats_put, others_and_last}
use Rattle.moves.proofs.Allowing.{allowed_is, last_length}
use Rattle.moves.proofs.Records.{said_from, said_to}

-- how many of n cards at a place are home
abbrev homes : Place → ℕ → ℕ
homes (column i) n = 0
homes (cell i) n = 0
homes (home s) n = n

homes_add : (p : Place) (a b : ℕ) → homes p (a + b) ≡ homes p a + homes p b
homes_add (column i) a b = refl
homes_add (cell i) a b = refl
homes_add (home s) a b = refl

set_total : (foundation : List ℕ) (s n : ℕ) → length foundation ≡ 4 → s < 4
    → home_count (set foundation s n) + get_or foundation s 0 ≡ home_count foundation + n
unfolding home_count
set_total foundation s n four h =
    let same = get_or-set_same foundation s n 0 (omega arith) in
    let c = sum_changed (λ k. get_or (set foundation s n) k 0) (λ k. get_or foundation k 0) 4 s h (λ k l d. get_or-set_other foundation s k n 0 d) in
    omega arith

put_total : (t : Table) (p : Place) (l : List ℕ) → Seats t → is_place p ≡ true
    → home_count (put t p l).foundation + homes p (length (there t p)) ≡ home_count t.foundation + homes p (length l)
unfolding pile
put_total t (column i) l s e = refl
put_total t (cell i) l s e = refl
put_total t (home i) l s e =
    let a = set_total t.foundation i (length l) s.piles4 (ltb-true i 4 e) in
    let b = length-listed (λ v. (v + 1) * 16 + i) (get_or t.foundation i 0) in
    omega arith

-- a foundation gives and takes one card at a time
one_home : (m : Move) → (homes (from m) (count m) ≡ homeward (from m)) × (homes (to m) (count m) ≡ homeward (to m))
one_home (TableauToTableau s d n c) = (refl, refl)
one_home (TableauToFoundation s c) = (refl, refl)
one_home (TableauToFreeCell s i c) = (refl, refl)
one_home (FreeCellToTableau i d c) = (refl, refl)
one_home (FreeCellToFoundation i c) = (refl, refl)
one_home (FoundationToTableau s d c) = (refl, refl)

pub home_total : (t : Table) (m : Move) → Seats t → sayable m ≡ true → allowed t m ≡ true
    → home_count (after_move t m).foundation + homeward (from m) ≡ home_count t.foundation + homeward (to m)
unfolding after_move without hand
home_total t m s e w =
    let there-before = there t (from m) in
    let left = others_of (count m) there-before in
    let taken = last_of (count m) there-before in
    let there-then = there (without t m) (to m) in
    let many = last_length (count m) there-before (allowed_is t m w).enough in
    let a = put_total t (from m) left s (said_from m e) in
    let b = put_total (without t m) (to m) (there-then ++ taken) (seats_put t (from m) left s) (said_to m e) in
    let c = ap (λ (l : List ℕ). homes (from m) (length l)) (sym (others_and_last (count m) there-before))
    ∙ ap (homes (from m)) (length-append left taken) ∙ homes_add (from m) (length left) (length taken) ∙ ap (λ (n : ℕ). homes (from m) (length left) + homes (from m) n) many in
    let d = ap (homes (to m)) (length-append there-then taken) ∙ homes_add (to m) (length there-then) (length taken) ∙ ap (λ (n : ℕ). homes (to m) (length there-then) + homes (to m) n) many in
    let o = one_home m in
    let p = o.0 in
    let q = o.1 in
    omega arith
