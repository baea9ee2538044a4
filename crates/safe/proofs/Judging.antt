-- When a card is safe: an ace or a two, or enough cards home of each suit.
use mathlib.Core.Path.{◌≡◌, sym, ap, ◌∙◌}
use mathlib.Core.Bool.{Bool, true, false, ◌&&◌}
use mathlib.Core.List.{List}
use Prim.Native.Nat.{ℕ, ◌/◌, ◌<◌, ◌≤◌}
use native.Mathlib.Omega.{arith}
use borrow.Author.Tests.{le-leb, lt-leb}
use lib.Dec.{leb}
use lib.ListN.{get_or}
use Rattle.base.specs.Words.{every}
use Rattle.card.specs.Card.{code_of}
use Rattle.card.specs.declared.Card.{Card}
use Rattle.base.proofs.Words.{every_end, every_fails}
use Rattle.rules.specs.Fit.{home_takes}
use Rattle.safe.specs.Safe.{needed, safe}

-- of suit s there are enough
abbrev pub enough : List ℕ → ℕ → ℕ → Bool
enough foundation x s = leb (needed x s) (get_or foundation s 0)

module _ (foundation : List ℕ) (x : ℕ) where
  pub low_safe : x / 16 ≤ 2 → true ≡ safe foundation x
  unfolding safe
  low_safe h = rw (le-leb (x / 16) 2 h)

  module _ (h : 2 < x / 16) where
    by_suits : safe foundation x ≡ every 4 (enough foundation x)
    unfolding safe
    by_suits = rw (lt-leb (x / 16) 2 h)

    pub all_enough : (s : ℕ) → every s (enough foundation x) ≡ true → 4 ≤ s → true ≡ safe foundation x
    all_enough s e l = sym (by_suits ∙ every_end (enough foundation x) 4 s e l)

    -- one suit, with its number and what it needs as the code has them
    module _ (s : ℕ) {k n : ℕ} (p : k ≡ s) (q : n ≡ needed x s) where
      pub one_enough : n ≤ get_or foundation k 0 → enough foundation x s ≡ true
      one_enough l = le-leb (needed x s) (get_or foundation s 0) (omega (arith, ap (λ (j : ℕ). get_or foundation j 0) p))

      pub too_few : s < 4 → get_or foundation k 0 < n → false ≡ safe foundation x
      too_few h l =
          sym
          (by_suits
          ∙ every_fails (enough foundation x) 4 s h
          (lt-leb (needed x s) (get_or foundation s 0) (omega (arith, ap (λ (j : ℕ). get_or foundation j 0) p))))

-- ---- the next of its foundation, and safe

module _ (foundation : List ℕ) (c : Card) {x : ℕ} (code : x ≡ code_of c) {r : Bool} (e : r ≡ home_takes foundation x) where
  both_tests : {b : Bool} → r ≡ b → (b && safe foundation x) ≡ (home_takes foundation (code_of c) && safe foundation (code_of c))
  both_tests q =
      ap (λ (t : Bool). t && safe foundation x) (sym q ∙ e) ∙ ap (λ (y : ℕ). home_takes foundation y && safe foundation y) code

  pub next_and_safe : {u : Bool} → r ≡ true → u ≡ safe foundation x → u ≡ (home_takes foundation (code_of c) && safe foundation (code_of c))
  next_and_safe q f = f ∙ both_tests q

  pub not_next_lem : r ≡ false → false ≡ (home_takes foundation (code_of c) && safe foundation (code_of c))
  not_next_lem q = both_tests q
