-- Reading a board image: a two-byte count, a version byte, cells, foundation counts, eight columns.
use Rattle.std.specs.Prelude.{Bool, ◌&&◌, List, [], ◌∷◌, ℕ, zero, suc, ◌+◌, ◌-◌, ◌*◌, length, get_or, take, drop, eqb, leb}
use Rattle.base.specs.Words.{all}
use Rattle.base.specs.Answer.{Answer, given, refused, unless}
use Rattle.board.specs.Table.{Table}
use Rattle.board.specs.Verdict.{after, verdict_on}
use Rattle.board.specs.Record.{at_most, board_of}
use Rattle.board.specs.declared.Board.{Board}

-- the first two bytes, the higher first, count the bytes that follow
unfoldable pub framed : List ℕ → Bool
framed image = leb 2 (length image) && eqb (get_or image 0 0 * 256 + get_or image 1 0) (length image - 2)

-- then comes the version, 1
unfoldable pub versioned : List ℕ → Bool
versioned image = leb 3 (length image) && eqb (get_or image 2 0) 1

-- one more column in front
unfoldable pub joining : List ℕ → Answer (List (List ℕ)) → Answer (List (List ℕ))
joining column (given columns) = given (column ∷ columns)
joining column (refused n) = refused n

-- n columns, each a count byte and then that many codes, and nothing after them; else 12
unfoldable pub columns_in : ℕ → List ℕ → Answer (List (List ℕ))
columns_in zero [] = given []
columns_in zero (x ∷ rest) = refused 12
columns_in (suc n) [] = refused 12
columns_in (suc n) (count ∷ rest) = unless (leb count (length rest)) 12 (joining (take count rest) (columns_in n (drop count rest)))

-- a table of these cells and piles, once its columns are known, verdict_on
unfoldable pub verdict_with : List ℕ → List ℕ → Answer (List (List ℕ)) → Answer Board
verdict_with cells foundation (refused n) = refused n
verdict_with cells foundation (given columns) =
    let t : Table = record { cells = cells; foundation = foundation; columns = columns } in
    after (verdict_on t) (given (board_of t))

-- the body: four cells, four foundation counts of at most 13, eight columns
unfoldable pub bodied : List ℕ → Answer Board
bodied body =
    unless (leb 8 (length body)) 12
    (unless (all (at_most 13) (take 4 (drop 4 body))) 12
    (verdict_with (take 4 body) (take 4 (drop 4 body)) (columns_in 8 (drop 8 body))))

-- 10, 11, 12, 13, 14, 15 in that order, or the board
unfoldable pub image_read : List ℕ → Answer Board
image_read image = unless (framed image) 10 (unless (versioned image) 11 (bodied (drop 3 image)))
