-- The loop of draws: what was dealt, and what is dealt from the pack that is left.
use mathlib.Core.Path.{◌≡◌, sym, ap, ◌∙◌, subst}
use mathlib.Core.List.{List, [], ◌∷◌, ◌++◌, append_assoc, append-nil}
use Prim.Native.Nat.{ℕ, suc, ◌+◌, ◌-◌, ◌%◌, ◌^◌, ◌<◌, ◌≤◌}
use native.Mathlib.Numerals.{add-one}
use native.Mathlib.Omega.{arith}
use lib.ListN.{length, get_or, set, take, length-set}
use lib.Seq.{take_all, take-suc-set}
use Rattle.base.specs.Words.{listed}
use Rattle.base.proofs.Words.{length-listed}
use Rattle.card.specs.Pack.{card_at}
use Rattle.shuffle.specs.Shuffle.{stepped, drawn, dealt_from, deck_of}

pub record Drawing (number : ℕ) (deck pack : List ℕ) (state dealt : ℕ) : Type 0 where
  pub within : dealt ≤ 52
  pub deck52 : length deck ≡ 52
  pub pack52 : length pack ≡ 52
  pub small : state < 2 ^ 31
  pub on : take dealt deck ++ dealt_from (52 - dealt) state pack ≡ deck_of number

pub step_small : (state : ℕ) → stepped state < 2 ^ 31
unfolding stepped
step_small state = omega arith

one_more_lem : (n state : ℕ) (pack : List ℕ) (last place : ℕ) → suc last ≡ n → place ≡ drawn (stepped state) % n
    → dealt_from n state pack ≡ get_or pack place 0 ∷ dealt_from last (stepped state) (set pack place (get_or pack last 0))
unfolding dealt_from
one_more_lem n state pack last place e q =
    ap (λ (m : ℕ). dealt_from m state pack) (sym e)
    ∙ ap (λ (p : ℕ). get_or pack p 0 ∷ dealt_from last (stepped state) (set pack p (get_or pack last 0))) (ap (λ (m : ℕ). drawn (stepped state) % m) e ∙ sym q)

no_more : (n state : ℕ) (pack : List ℕ) → n ≡ 0 → dealt_from n state pack ≡ []
unfolding dealt_from
no_more n state pack e = ap (λ (m : ℕ). dealt_from m state pack) e

pub draw_begin : {number : ℕ} {deck pack : List ℕ} → length deck ≡ 52 → pack ≡ listed 52 card_at → number < 2 ^ 31 → Drawing number deck pack number 0
unfolding deck_of
draw_begin {number} l e h =
    record { within = omega arith; deck52 = l; pack52 = ap length e ∙ length-listed card_at 52; small = h; on = ap (dealt_from 52 number) e }

module _ {number : ℕ} {deck pack : List ℕ} {state dealt : ℕ} (d : Drawing number deck pack state dealt) where
  pub draw_next : {next draw : ℕ} → dealt < 52 → next ≡ stepped state → draw ≡ drawn next
      → Drawing number (set deck dealt (get_or pack (draw % (52 - dealt)) 0)) (set pack (draw % (52 - dealt)) (get_or pack (52 - dealt - 1) 0)) next (dealt + 1)
  draw_next {next} {draw} h e q =
      let long = d.deck52 in
      let place : ℕ = draw % (52 - dealt) in
      let card : ℕ = get_or pack place 0 in
      let last : ℕ = get_or pack (52 - dealt - 1) 0 in
      let left : List ℕ = set pack place last in
      let less : 52 - (dealt + 1) ≡ 52 - dealt - 1 = omega arith in
      record {
        within = omega arith;
        deck52 = length-set deck dealt card ∙ d.deck52;
        pack52 = length-set pack place last ∙ d.pack52;
        small = subst (λ (s : ℕ). s < 2 ^ 31) (sym e) (step_small state);
        on =
            ap (λ (l : List ℕ). l ++ dealt_from (52 - (dealt + 1)) next left)
            (ap (λ (k : ℕ). take k (set deck dealt card)) (add-one dealt) ∙ take-suc-set deck dealt card (omega arith))
            ∙ append_assoc (take dealt deck) (card ∷ []) (dealt_from (52 - (dealt + 1)) next left)
            ∙ ap (λ (k : ℕ). take dealt deck ++ (card ∷ dealt_from k next left)) less
            ∙ ap (λ (s : ℕ). take dealt deck ++ (card ∷ dealt_from (52 - dealt - 1) s left)) e
            ∙ ap (λ (l : List ℕ). take dealt deck ++ l)
            (sym (one_more_lem (52 - dealt) state pack (52 - dealt - 1) place (omega arith) (ap (λ (x : ℕ). x % (52 - dealt)) (q ∙ ap drawn e))))
            ∙ d.on;
      }

  pub draw_end : 52 ≤ dealt → deck ≡ deck_of number
  draw_end h =
      let long = d.deck52 in
      sym (append-nil deck)
      ∙ ap (λ (l : List ℕ). l ++ []) (sym (take_all dealt deck (omega arith)))
      ∙ ap (λ (l : List ℕ). take dealt deck ++ l) (sym (no_more (52 - dealt) state pack (omega arith)))
      ∙ d.on
