-- The boards of the known hands.
use Rattle.std.specs.Prelude.{Bool, cond, not, ◌&&◌, List, [], ◌∷◌, ◌++◌, ℕ, ◌+◌, ◌-◌, ◌*◌, ◌/◌, ◌%◌, eqb, leb, ltb, length, get_or}
use Rattle.base.specs.Words.{every, listed}
use Rattle.card.specs.Pack.{card_at}
use Rattle.board.specs.Table.{Table}
use Rattle.board.specs.Fair.{is_fair}

-- ---- how they are laid out

abbrev pub pack : List ℕ
pack = listed 52 card_at

-- the cards of which p holds, in their order
unfoldable pub keep : (ℕ → Bool) → List ℕ → List ℕ
keep p [] = []
keep p (x ∷ l) = cond (p x) (x ∷ keep p l) (keep p l)

-- cards dealt over n columns: place p goes to column p mod n, row p div n; this is column i
unfoldable pub share : ℕ → List ℕ → ℕ → List ℕ
share n cards i = listed ((length cards + (n - 1) - i) / n) (λ r. get_or cards (r * n + i) 0)

abbrev pub no_cards : List ℕ
no_cards = 255 ∷ 255 ∷ 255 ∷ 255 ∷ []

-- these counts are home; the other cards are dealt in the pack's order over the eight columns; the cells are empty
unfoldable pub laid : List ℕ → Table
laid foundation =
    record { cells = no_cards; foundation = foundation; columns = listed 8 (share 8 (keep (λ x. ltb (get_or foundation (x % 16) 0) (x / 16)) pack)) }

-- ---- the boards

abbrev pub won : Table
won = laid (13 ∷ 13 ∷ 13 ∷ 13 ∷ [])

-- the spade king alone is left, in column 0
abbrev pub S : Table
S = laid (13 ∷ 13 ∷ 13 ∷ 12 ∷ [])

-- the forty cards that lie under the clubs of T, in the pack's order: all but the clubs 2 to king
unfoldable pub buried : List ℕ
buried = keep (λ x. not (eqb (x % 16) 0 && leb 2 (x / 16))) pack

-- clubs 10 to king in the cells; column i: five of the forty, dealt as ever, and then the club of value i + 2
unfoldable pub T : Table
T =
    record {
      cells = 160 ∷ 176 ∷ 192 ∷ 208 ∷ [];
      foundation = 0 ∷ 0 ∷ 0 ∷ 0 ∷ [];
      columns = listed 8 (λ i. share 8 buried i ++ ((i + 2) * 16 ∷ []));
    }

-- nothing home: the pack dealt in its own order
abbrev pub fresh : Table
fresh = laid (0 ∷ 0 ∷ 0 ∷ 0 ∷ [])

-- the aces in the cells, column 0 empty, the others dealt over columns 1 to 7
unfoldable pub crowded : Table
crowded =
    record {
      cells = 16 ∷ 17 ∷ 18 ∷ 19 ∷ [];
      foundation = 0 ∷ 0 ∷ 0 ∷ 0 ∷ [];
      columns = [] ∷ listed 7 (share 7 (keep (λ x. leb 2 (x / 16)) pack));
    }

-- ---- what every one of them is: fair, and no column over seven cards
unfoldable pub is_board : Table → Bool
is_board t =
    is_fair t && every 8 (λ i. leb (length (get_or t.columns i [])) 7)
