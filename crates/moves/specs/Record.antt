-- The five-byte record of a move: kind, from, to, count, code of the deepest moved card.
use Rattle.std.specs.Prelude.{Bool, true, cond, ◌&&◌, List, [], ◌∷◌, ℕ, ◌%◌, eqb, leb, ltb, length, get_or, None, Some, Option}
use Rattle.base.specs.Answer.{Answer, given, unless}
use Rattle.card.specs.Suit.{suit_number, suit_at}
use Rattle.card.specs.Card.{is_card, code_of, card_of}
use Rattle.moves.specs.Move.{sayable}
use Rattle.moves.specs.declared.Move.{Move}
use Rattle.moves.specs.declared.Move.TheVariants.{TableauToTableau, TableauToFoundation, TableauToFreeCell, FreeCellToTableau, FreeCellToFoundation, FoundationToTableau}

-- from: a column for kinds 1 to 3, a cell for 4 and 5, a suit for 6; there are no other kinds
unfoldable pub source_room : ℕ → ℕ
source_room kind = cond (eqb kind 0) 0 (cond (leb kind 3) 8 (cond (leb kind 6) 4 0))

-- to: the card's own suit for kinds 2 and 5, a cell for 3, a column for the others
unfoldable pub target_allows : ℕ → ℕ → ℕ → Bool
target_allows kind t code =
    cond (eqb kind 2) (eqb t (code % 16)) (cond (eqb kind 5) (eqb t (code % 16)) (cond (eqb kind 3) (ltb t 4) (ltb t 8)))

-- count: at least 1 for kind 1, and 1 for the others
unfoldable pub count_allows : ℕ → ℕ → Bool
count_allows kind n = cond (eqb kind 1) (leb 1 n) (eqb n 1)

-- a record is possible: five bytes, the code a card's, the rest as its kind asks
unfoldable pub possible : List ℕ → Bool
possible r =
    eqb (length r) 5
    && (is_card (get_or r 4 0)
    && (ltb (get_or r 1 0) (source_room (get_or r 0 0)) && (target_allows (get_or r 0 0) (get_or r 2 0) (get_or r 4 0) && count_allows (get_or r 0 0) (get_or r 3 0))))

-- the move of these five numbers (`move_asked` refuses the impossible first)
unfoldable pub move_said : ℕ → ℕ → ℕ → ℕ → ℕ → Move
move_said kind f t n code =
    cond (eqb kind 1) (TableauToTableau f t n (card_of code))
    (cond (eqb kind 2) (TableauToFoundation f (card_of code))
    (cond (eqb kind 3) (TableauToFreeCell f t (card_of code))
    (cond (eqb kind 4) (FreeCellToTableau f t (card_of code))
    (cond (eqb kind 5) (FreeCellToFoundation f (card_of code)) (FoundationToTableau (suit_at f) t (card_of code))))))

unfoldable pub move_of : List ℕ → Move
move_of r = move_said (get_or r 0 0) (get_or r 1 0) (get_or r 2 0) (get_or r 3 0) (get_or r 4 0)

-- which move a record says: 30 for one that is impossible
unfoldable pub move_asked : List ℕ → Answer Move
move_asked r = unless (possible r) 30 (given (move_of r))

-- a move that is told can be said
abbrev pub sayable_told : Option Move → Bool
sayable_told (Some m) = sayable m
sayable_told None = true

-- the record of a move
unfoldable pub record_of : Move → List ℕ
record_of (TableauToTableau s d n c) = 1 ∷ s ∷ d ∷ n ∷ code_of c ∷ []
record_of (TableauToFoundation s c) = 2 ∷ s ∷ suit_number c.suit ∷ 1 ∷ code_of c ∷ []
record_of (TableauToFreeCell s i c) = 3 ∷ s ∷ i ∷ 1 ∷ code_of c ∷ []
record_of (FreeCellToTableau i d c) = 4 ∷ i ∷ d ∷ 1 ∷ code_of c ∷ []
record_of (FreeCellToFoundation i c) = 5 ∷ i ∷ suit_number c.suit ∷ 1 ∷ code_of c ∷ []
record_of (FoundationToTableau s d c) = 6 ∷ suit_number s ∷ d ∷ 1 ∷ code_of c ∷ []
