-- The loop of `let_go`: what is left to give back from here gives what the whole gives.
use mathlib.Core.Path.{◌≡◌, refl, sym, ap, ◌∙◌, subst}
use mathlib.Core.List.{List}
use Prim.Native.Nat.{ℕ, suc, ◌+◌, ◌*◌, ◌-◌, ◌<◌, ◌≤◌}
use native.Mathlib.Omega.{arith}
use lib.ListN.{length, set, length-set}
use Rattle.kin.specs.Places.{parent_at, refs_at, counting, top_at, Pending, keeps, given_back}
use Rattle.kin.proofs.Children.{held_most}
use Rattle.kin.proofs.Words.{parents_alike, counting_alike}
use Rattle.kin.proofs.Giving.{place_in_lem, place_held, some_living, kin_turn, give_on, give_stop}

-- what a pending mark says of the numbers
pub record Bounds (capacity n : ℕ) (words slots : List ℕ) (left at : ℕ) : Type 0 where
  pub worded : (at + 1) * 5 ≤ length words
  pub inside : at < n
  pub roomy : n ≤ capacity
  pub some : 0 < left
  pub most : left ≤ n
  pub slotted : capacity ≤ length slots
  pub small : at < 4294967296

pub bounds : {capacity n : ℕ} {words slots : List ℕ} {left at : ℕ} → Pending capacity n words slots left at → Bounds capacity n words slots left at
bounds {n = n} {words = words} p =
    let k = p.kin in
    let l = place_in_lem k in
    record {
      worded = omega (arith, k.places.worded);
      inside = l;
      roomy = k.places.roomy;
      some = some_living k;
      most = omega (arith, k.places.alive, held_most n (refs_at words));
      slotted = k.places.slotted;
      small = omega (arith, k.places.roomy, k.places.small);
    }

pub record Going (capacity n : ℕ) (old before : List ℕ) (living i : ℕ) (words slots : List ℕ) (left at refs : ℕ) : Type 0 where
  pub pending : Pending capacity n words slots left at
  pub bounded : Bounds capacity n words slots left at
  pub some : 0 < refs
  pub count : refs ≡ refs_at words at
  pub wide : length words ≡ length old
  pub deep : length slots ≡ length before
  pub ends : given_back capacity n old before living i ≡ given_back capacity n words slots left at

going : {capacity n : ℕ} {old before : List ℕ} {living i : ℕ} {words slots : List ℕ} {left at refs : ℕ}
    → Pending capacity n words slots left at → refs ≡ refs_at words at → length words ≡ length old → length slots ≡ length before
    → given_back capacity n old before living i ≡ given_back capacity n words slots left at
    → Going capacity n old before living i words slots left at refs
going p e w d s =
    record { pending = p; bounded = bounds p; some = omega (arith, e, place_held p.kin); count = e; wide = w; deep = d; ends = s }

pub going_start : {capacity n : ℕ} {old before : List ℕ} {living i refs : ℕ} → Pending capacity n old before living i → refs ≡ refs_at old i
    → Going capacity n old before living i old before living i refs
going_start p e = going p e refl refl refl

module _ {capacity n : ℕ} {old before : List ℕ} {living i : ℕ} {words slots : List ℕ} {left at refs : ℕ}
    (g : Going capacity n old before living i words slots left at refs) where
  pub going_turn : refs ≡ 1 → {then : List ℕ} {up more : ℕ} → then ≡ counting words at 0 → up ≡ parent_at then at → more ≡ refs_at then up
      → Going capacity n old before living i then (set slots (top_at capacity n (left - 1)) at) (left - 1) up more
  going_turn o {then} {up} {more} e f h =
      subst (λ (w : List ℕ). Going capacity n old before living i w (set slots (top_at capacity n (left - 1)) at) (left - 1) up more) (sym e)
      (subst
      (λ (u : ℕ). Going capacity n old before living i (counting words at 0) (set slots (top_at capacity n (left - 1)) at) (left - 1) u more)
      (sym same) (going
      (record { cost = p.cost; other = p.other; marks = p.marks; kin = kin_turn p.kin one (left - 1) (omega (arith, g.bounded.some)) })
      (h ∙ ap (λ (w : List ℕ). refs_at w up) e ∙ ap (refs_at (counting words at 0)) same)
      ((counting_alike words at 0).long ∙ g.wide)
      (length-set slots (top_at capacity n (left - 1)) at ∙ g.deep)
      (g.ends ∙ ap (λ (x : ℕ). given_back capacity n words slots x at) down ∙ give_on capacity n words slots (left - 1) at one)))
    where
      p : Pending capacity n words slots left at
      p = g.pending

      one : refs_at words at ≡ 1
      one = sym g.count ∙ o

      down : left ≡ suc (left - 1)
      down = omega (arith, g.bounded.some)

      same : up ≡ parent_at words at
      same = f ∙ ap (λ (w : List ℕ). parent_at w at) e ∙ parents_alike (counting_alike words at 0) at

  pub going_end : (refs ≡ 1 → ⊥) → {then : List ℕ} → then ≡ counting words at (refs - 1)
      → keeps then slots left ≡ given_back capacity n old before living i
  going_end d {then} e =
      sym (
      g.ends ∙ ap (λ (x : ℕ). given_back capacity n words slots x at) down
      ∙ give_stop capacity n words slots (left - 1) at (omega (arith, g.count, g.some))
      ∙ ap (λ (x : ℕ). keeps (counting words at (refs_at words at - 1)) slots x) (sym down)
      ∙ ap (λ (x : ℕ). keeps (counting words at (x - 1)) slots left) (sym g.count) ∙ ap (λ (w : List ℕ). keeps w slots left) (sym e))
    where
      down : left ≡ suc (left - 1)
      down = omega (arith, g.bounded.some)

  -- the words are as many after a count has changed
  long_after : (refs : ℕ) {then : List ℕ} → then ≡ counting words at refs → length then ≡ length words
  long_after refs e = ap length e ∙ (counting_alike words at refs).long

  pub going_there : {then : List ℕ} → then ≡ counting words at 0 → (at + 1) * 5 ≤ length then
  going_there e = omega (arith, long_after 0 e, g.bounded.worded)

  pub going_up : refs ≡ 1 → {then : List ℕ} {up : ℕ} → then ≡ counting words at 0 → up ≡ parent_at then at → (up + 1) * 5 ≤ length then
  going_up o {then} {up} e f = (going_turn o {then = then} {up = up} {more = refs_at then up} e f refl).bounded.worded

  pub going_long : {then : List ℕ} → then ≡ counting words at (refs - 1) → length then ≡ length old
  going_long e = long_after (refs - 1) e ∙ g.wide
