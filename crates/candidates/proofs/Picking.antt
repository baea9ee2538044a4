-- Of some records those whose moves meet a test are written on.
use Rattle.std.specs.Prelude.{None, Some, Option}
use mathlib.Core.Path.{◌≡◌, refl, sym, ap, ◌∙◌, subst}
use mathlib.Core.Bool.{Bool, true, false, cond}
use mathlib.Core.List.{List, [], ◌∷◌, ◌++◌}
use Prim.Native.Nat.{ℕ, zero, suc, ◌+◌, ◌*◌, ◌≤◌}
use native.Mathlib.Omega.{arith}
use lib.ListN.{length}
use Rattle.base.specs.Words.{listed}
use Rattle.base.specs.Answer.{given, refused, given_or}
use Rattle.board.specs.declared.Board.{Board}
use Rattle.moves.specs.Record.{possible, move_of, move_asked}
use Rattle.moves.specs.declared.Move.{Move}
use Rattle.moves.proofs.Saying.{asked-possible}
use Rattle.play.specs.Change.{Ready}
use Rattle.generate.specs.Found.{gather}
use Rattle.moves.specs.Written.{Adds}
use Rattle.moves.proofs.Writing.{adds_none, adds_same}
use Rattle.safe.specs.Safe.{chosen}
use Rattle.safe.proofs.Choosing.{chosen_one, chosen-append}
use Rattle.candidates.specs.Inner.{move_at, moves_in}

-- ---- the move of a possible record

module _ (bytes : List ℕ) (p : possible bytes ≡ true) {d : Option Move} (e : given_or 30 d ≡ move_asked bytes) where
  pub told_move : {m : Move} → d ≡ Some m → m ≡ move_of bytes
  told_move {m} q = let s : given m ≡ given (move_of bytes) = ap (given_or 30) (sym q) ∙ e ∙ asked-possible bytes p in cc

  pub never_impossible : d ≡ None → ⊥
  never_impossible q =
      let s : refused 30 ≡ given (move_of bytes) = ap (given_or 30) (sym q) ∙ e ∙ asked-possible bytes p in
      let z : ◌≡◌ {A = ℕ} 0 1 = cc in
      let w : ⊥ = omega arith in w

  pub told_ready : {b : Board} {m : Move} → d ≡ Some m → Ready b (move_of bytes) → Ready b m
  told_ready {b} q r = subst (Ready b) (sym (told_move q)) r

-- ---- one record

module _ (p : Move → Bool) (m : Move) where
  chosen_yes : p m ≡ true → chosen p (m ∷ []) ≡ m ∷ []
  chosen_yes e = chosen_one p m true ∙ ap (λ (r : Bool). cond r (m ∷ []) []) e

  chosen_no : p m ≡ false → chosen p (m ∷ []) ≡ []
  chosen_no e = chosen_one p m true ∙ ap (λ (r : Bool). cond r (m ∷ []) []) e

  module _ {n : Move} (q : n ≡ m) where
    pub kept-room : (at lent : ℕ) → p n ≡ true → (at + length (chosen p (m ∷ []))) * 5 ≤ lent → (at + 1) * 5 ≤ lent
    kept-room at lent e h = let l = ap length (chosen_yes (ap p (sym q) ∙ e)) in omega arith

    pub kept : {old new : List ℕ} {at r : ℕ} → p n ≡ true → Adds old new at r (n ∷ []) → Adds old new at r (chosen p (m ∷ []))
    kept e a = adds_same (ap (λ (x : Move). x ∷ []) q ∙ sym (chosen_yes (ap p (sym q) ∙ e))) a

    pub passed : (old : List ℕ) (at : ℕ) → p n ≡ false → Adds old old at at (chosen p (m ∷ []))
    passed old at e = adds_none old at (chosen_no (ap p (sym q) ∙ e))

-- ---- record after record

pub chosen_moves : (p : Move → Bool) (bytes : List ℕ) (n : ℕ) → gather n (λ k. chosen p (move_at bytes k ∷ [])) ≡ chosen p (moves_in bytes n)
unfolding moves_in gather listed chosen
chosen_moves p bytes zero = refl
chosen_moves p bytes (suc n) =
    ap (λ (l : List Move). l ++ chosen p (move_at bytes n ∷ [])) (chosen_moves p bytes n)
    ∙ sym (chosen-append p (listed n (move_at bytes)) (move_at bytes n ∷ []))

pub choice_room : (p : Move → Bool) (bytes : List ℕ) (n at lent : ℕ) → (at + length (chosen p (moves_in bytes n))) * 5 ≤ lent
    → (at + length (gather n (λ k. chosen p (move_at bytes k ∷ [])))) * 5 ≤ lent
choice_room p bytes n at lent h = let l = ap length (chosen_moves p bytes n) in omega arith
