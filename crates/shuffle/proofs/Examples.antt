-- Hands as they are published, by their first eight cards (the deepest card of each column).
use mathlib.Core.Path.{◌≡◌, refl}
use mathlib.Core.List.{[], ◌∷◌}
use lib.ListN.{take}
use Rattle.base.specs.Words.{listed}
use Rattle.card.specs.Pack.{card_at}
use Rattle.shuffle.specs.Shuffle.{stepped, drawn, dealt_from, deck_of}

-- JD 2D 9H JC 5D 7H 7C 5H
hand_1 : take 8 (deck_of 1) ≡ 177 ∷ 33 ∷ 146 ∷ 176 ∷ 81 ∷ 114 ∷ 112 ∷ 82 ∷ []
unfolding deck_of dealt_from drawn stepped listed card_at
hand_1 = refl

-- 7D AD 5C 3S 5S 8C 2D AH
hand_617 : take 8 (deck_of 617) ≡ 113 ∷ 17 ∷ 80 ∷ 51 ∷ 83 ∷ 128 ∷ 33 ∷ 18 ∷ []
unfolding deck_of dealt_from drawn stepped listed card_at
hand_617 = refl
