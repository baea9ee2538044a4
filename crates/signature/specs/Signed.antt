-- The signature of a board: a hash of all that lies on it, which cell and which column being left out of account.
use Rattle.std.specs.Prelude.{ℕ, ◌+◌, List, [], ◌∷◌, ◌++◌, slice_index, slice_index_or}
use Rattle.base.specs.Words.{listed, concat}
use Rattle.base.specs.Answer.{Answer, given}
use Rattle.board.specs.Table.{Table, pile}
use Rattle.board.specs.Verdict.{after}
use Rattle.board.specs.Record.{examined, shown}
use Rattle.board.specs.declared.Board.{Board}
use Rattle.signature.specs.Fnv.{fnv}
use Rattle.base.specs.Rising.{rising}

-- a suit's words: the suit and 256, then the codes of its cards that are home
unfoldable pub home_words : List ℕ → ℕ → List ℕ
home_words foundation s = (s + 256) ∷ pile s (slice_index foundation s)

-- the hashes of the eight columns, each over its codes, the deepest first
unfoldable pub column_hashes : List (List ℕ) → List ℕ
column_hashes columns = listed 8 (λ i. fnv (slice_index_or columns i []))

-- the words in their order: foundations, FD, cells, FE, columns. Words of up to 64 bits depart from FNV-1a, which takes octets.
unfoldable pub words_of : List ℕ → List ℕ → List ℕ → List ℕ
words_of foundation cells hashes = concat (listed 4 (home_words foundation)) ++ (253 ∷ (rising cells ++ (254 ∷ rising hashes)))

-- of foundation counts, cells and column hashes
unfoldable pub signed : List ℕ → List ℕ → List ℕ → ℕ
signed foundation cells hashes = fnv (words_of foundation cells hashes)

unfoldable pub signature_of : Table → ℕ
signature_of t = signed t.foundation t.cells (column_hashes t.columns)

-- 12 to 15 if the board is not fine
unfoldable pub signature_asked : Board → Answer ℕ
signature_asked b = after (examined b) (given (signature_of (shown b)))
