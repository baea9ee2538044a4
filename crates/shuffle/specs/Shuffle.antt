-- The widely published shuffle: the deck of a hand's number. Players know the hands of FreeCell by these numbers.
use Rattle.std.specs.Prelude.{List, [], ◌∷◌, ℕ, zero, suc, ◌+◌, ◌*◌, ◌/◌, ◌%◌, ◌^◌, get_or, set}
use Rattle.base.specs.Words.{listed}
use Rattle.card.specs.Pack.{card_at}

-- each draw steps the state
unfoldable pub stepped : ℕ → ℕ
stepped state = (214013 * state + 2531011) % 2 ^ 31

-- and yields this
unfoldable pub drawn : ℕ → ℕ
drawn state = state / 2 ^ 16

-- with n cards left in the pack, the one at the drawn place is dealt, and the last of the n is put in its place
unfoldable pub dealt_from : ℕ → ℕ → List ℕ → List ℕ
dealt_from zero state pack = []
dealt_from (suc n) state pack =
    let place : ℕ = drawn (stepped state) % suc n in
    get_or pack place 0 ∷ dealt_from n (stepped state) (set pack place (get_or pack n 0))

-- the state starts as the number, the pack as ace of clubs, diamonds, hearts, spades, then the twos, and so on
unfoldable pub deck_of : ℕ → List ℕ
deck_of number = dealt_from 52 number (listed 52 card_at)
