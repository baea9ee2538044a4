-- Keys compare as the search compares nodes, and a key gives its node's number back.
use mathlib.Core.Path.{◌≡◌, sym, ap, ◌∙◌}
use mathlib.Core.Bool.{Bool, ◌&&◌, ◌||◌}
use Prim.Native.Nat.{ℕ, ◌%◌, ◌<◌, ◌≤◌}
use native.Mathlib.Omega.{arith}
use native.Mathlib.Decide.{dec_lt}
use borrow.Author.Tests.{lt-ltb, le-ltb, le-leb, lt-leb, eq-eqb, ne_eqb}
use lib.Dec.{eqb, leb, ltb}
use Rattle.frontier.specs.Packing.{packed}

pub packed_fits : (f h n : ℕ) → f < 131072 → h < 32768 → n < 4294967296 → packed f h n < 18446744073709551616
unfolding packed
packed_fits f h n a b c = omega arith

pub number_packed : (f h n : ℕ) → n < 4294967296 → packed f h n % 4294967296 ≡ n
unfolding packed
number_packed f h n c = omega arith

module _ (f h n f' h' n' : ℕ) where
  lower_sum : f < f' → h < 32768 → n < 4294967296 → packed f h n < packed f' h' n'
  unfolding packed
  lower_sum l a b = omega arith

  lower_hope : f ≡ f' → h < h' → n < 4294967296 → packed f h n < packed f' h' n'
  unfolding packed
  lower_hope e l b = omega arith

  lower_number : f ≡ f' → h ≡ h' → n < n' → packed f h n < packed f' h' n'
  unfolding packed
  lower_number e d l = omega arith

  not_lower_number : f ≡ f' → h ≡ h' → n' ≤ n → packed f' h' n' ≤ packed f h n
  unfolding packed
  not_lower_number e d l = omega arith

-- taken first: by sum, then by heuristic, then by number, as the search compares nodes
abbrev pub first : ℕ → ℕ → ℕ → ℕ → ℕ → ℕ → Bool
first f h n f' h' n' = ltb f f' || (eqb f f' && (ltb h h' || (eqb h h' && ltb n n')))

module _ (f h n f' h' n' : ℕ) (a : h < 32768) (a' : h' < 32768) (b : n < 4294967296) (b' : n' < 4294967296) where
  by_number : f ≡ f' → h ≡ h' → Dec (n < n') → ltb (packed f h n) (packed f' h' n') ≡ ltb n n'
  by_number e d (yes l) = lt-ltb (packed f h n) (packed f' h' n') (lower_number f h n f' h' n' e d l) ∙ sym (lt-ltb n n' l)
  by_number e d (no l) =
      le-ltb (packed f h n) (packed f' h' n') (not_lower_number f h n f' h' n' e d (omega arith)) ∙ sym (le-ltb n n' (omega arith))

  by_hope : f ≡ f' → Dec (h < h') → Dec (h' < h) → ltb (packed f h n) (packed f' h' n') ≡ (ltb h h' || (eqb h h' && ltb n n'))
  by_hope e (yes l) k = lt-ltb (packed f h n) (packed f' h' n') (lower_hope f h n f' h' n' e l b) ∙ sym (rw (lt-ltb h h' l))
  by_hope e (no l) (yes k) =
      le-ltb (packed f h n) (packed f' h' n') (let o = lower_hope f' h' n' f h n (sym e) k b' in omega arith)
      ∙ sym (rw (le-ltb h h' (omega arith), ne_eqb h h' (λ q. let w : ⊥ = omega arith in w)))
  by_hope e (no l) (no k) =
      let d : h ≡ h' = omega arith in
      by_number e d (dec_lt n n') ∙ sym (rw (le-ltb h h' (omega arith), eq-eqb h h' d))

  by_sum : Dec (f < f') → Dec (f' < f) → ltb (packed f h n) (packed f' h' n') ≡ first f h n f' h' n'
  by_sum (yes l) k = lt-ltb (packed f h n) (packed f' h' n') (lower_sum f h n f' h' n' l a b) ∙ sym (rw (lt-ltb f f' l))
  by_sum (no l) (yes k) =
      le-ltb (packed f h n) (packed f' h' n') (let o = lower_sum f' h' n' f h n k a' b' in omega arith)
      ∙ sym (rw (le-ltb f f' (omega arith), ne_eqb f f' (λ q. let w : ⊥ = omega arith in w)))
  by_sum (no l) (no k) =
      let e : f ≡ f' = omega arith in
      by_hope e (dec_lt h h') (dec_lt h' h) ∙ sym (rw (le-ltb f f' (omega arith), eq-eqb f f' e))

  pub packed-order : ltb (packed f h n) (packed f' h' n') ≡ first f h n f' h' n'
  packed-order = by_sum (dec_lt f f') (dec_lt f' f)

  -- different numbers make different keys, so that `leb`, by which a key finds its place, says the same
  pub packed-first : (n ≡ n' → ⊥) → leb (packed f h n) (packed f' h' n') ≡ first f h n f' h' n'
  packed-first d = no_tie (dec_lt (packed f h n) (packed f' h' n')) (dec_lt (packed f' h' n') (packed f h n)) ∙ packed-order
    where
      differ : packed f h n ≡ packed f' h' n' → ⊥
      differ e = d (sym (number_packed f h n b) ∙ ap (λ (k : ℕ). k % 4294967296) e ∙ number_packed f' h' n' b')

      no_tie : Dec (packed f h n < packed f' h' n') → Dec (packed f' h' n' < packed f h n) → leb (packed f h n) (packed f' h' n') ≡ ltb (packed f h n) (packed f' h' n')
      no_tie (yes l) k = le-leb (packed f h n) (packed f' h' n') (omega arith) ∙ sym (lt-ltb (packed f h n) (packed f' h' n') l)
      no_tie (no l) (yes k) = lt-leb (packed f h n) (packed f' h' n') k ∙ sym (le-ltb (packed f h n) (packed f' h' n') (omega arith))
      no_tie (no l) (no k) = absurd (differ (omega arith))
