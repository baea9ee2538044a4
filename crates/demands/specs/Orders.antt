-- The order in which each function looks at what it gets: SCOPE.md's orders as one table, a row for each function that C can call.
-- A row is a list of tests, each with the number that is given where it fails. The first that fails gives the number (Demand1.antt).
-- Numbers that come with a place are not here, since something is handed back with them: 30 and 33 to 40 of a move in a list, 42 and 43.
-- WhyRefused.antt and LinesOnPaper.antt speak of them.
use Rattle.std.specs.Prelude.{Bool, true, false, not, ◌&&◌, ◌||◌, List, [], ◌∷◌, ◌++◌, ℕ, zero, suc, eqb, leb, ltb, length, take, drop}
use Rattle.base.specs.Words.{all}
use Rattle.base.specs.Answer.{given, refused, unless}
use Rattle.card.specs.Card.{is_card}
use Rattle.board.specs.Table.{Table, cards_on}
use Rattle.board.specs.Verdict.{Verdict, fine, only_cards, none_twice, none_missing}
use Rattle.board.specs.Record.{at_most, shapely, shown}
use Rattle.intake.specs.Image.{framed, versioned}
use Rattle.intake.specs.Number.{is_number}
use Rattle.moves.specs.Record.{possible, move_of}
use Rattle.moves.specs.Causes.{Cause, causes, cause_number, passes}
use Rattle.moves.specs.declared.Move.{Move}
use Rattle.replay.specs.Line.{line_from, records_in, is_line}
use Rattle.notation.specs.Form.{Reading, jots, wrong, line_in}
use Rattle.writing.specs.Lines.{writable_first}
use Rattle.writing.specs.Asked.{moves_in}
use Rattle.sheets.specs.Good.{good_sheet}
use Rattle.sheets.specs.Adding.{same_settings, apart}
use Rattle.crossing.specs.Wire.{board_in}
use Rattle.corbelnib.specs.Calls.{Entry, examine, read, deal, number, move, replay, chain, moves, candidates, token, priority, scores, signature, features, capacity, judge, read_line, write_line, season, add, top, cell, home, most, won, safe, version}
use Rattle.corbelnib.specs.Calls.{In, Places, capacity_in, settings_by}

-- a test, and its number
abbrev pub Test : Type 0
Test = Bool × ℕ

-- the number of the first test that fails; fine if none does
abbrev pub first_failing : List Test → Verdict
first_failing [] = fine
first_failing (t ∷ ts) = unless t.0 t.1 (first_failing ts)

-- ---- what several rows have

-- 13: a code that is no card's; 14: a card twice; 15: a card missing
abbrev pub cards : Table → List Test
cards t = (only_cards t, 13) ∷ (none_twice (cards_on t), 14) ∷ (none_missing (cards_on t), 15) ∷ []

-- 12: not the bytes of a board, a count too large, or unused room that is not zero; then the cards
abbrev pub boards : List ℕ → List Test
boards bytes = (eqb (length bytes) 432, 12) ∷ (shapely (board_in bytes), 12) ∷ cards (shown (board_in bytes))

-- 21: too little lent room
abbrev pub room_for : ℕ → List ℕ → List Test
room_for size lent = (leb size (length lent), 21) ∷ []

-- 30: a column, cell or suit that is none
abbrev pub place_below : ℕ → ℕ → List Test
place_below n place = (ltb place n, 30) ∷ []

-- the kinds of a move record
abbrev pub is_kind : ℕ → Bool
is_kind kind = eqb kind 1 || (eqb kind 2 || (eqb kind 3 || (eqb kind 4 || (eqb kind 5 || eqb kind 6))))

-- the causes against a move, in their order
abbrev pub against : Table → Move → List Cause → List Test
against t m [] = []
against t m (w ∷ ws) = (passes t m w, cause_number w) ∷ against t m ws

-- one move: 30 for a record that is impossible, then 30 for a column to itself, 33, 35, 34, 36 to 40
abbrev pub one_move : Table → List ℕ → List Test
one_move t bytes = (possible bytes, 30) ∷ against t (move_of bytes) causes

-- a search: 20 for a budget that is too large, 21 for its list or sheet, 22 for scratch that holds no node
abbrev pub settings : ℕ → List Test → ℕ → List Test
settings budget room nodes = (leb budget 1000000, 20) ∷ (room ++ ((leb 1 nodes, 22) ∷ []))

-- ---- an image, after its first three bytes

-- so many columns, each a count and then that many codes, end where the bytes end
unfoldable pub columns_end : ℕ → List ℕ → Bool
columns_end zero [] = true
columns_end zero (x ∷ rest) = false
columns_end (suc n) [] = false
columns_end (suc n) (count ∷ rest) = leb count (length rest) && columns_end n (drop count rest)

unfoldable pub columns_of : ℕ → List ℕ → List (List ℕ)
columns_of zero bytes = []
columns_of (suc n) [] = []
columns_of (suc n) (count ∷ rest) = take count rest ∷ columns_of n (drop count rest)

-- the table of a body: four cells, four foundation counts, eight columns
abbrev pub table_of : List ℕ → Table
table_of body = record { cells = take 4 body; foundation = take 4 (drop 4 body); columns = columns_of 8 (drop 8 body) }

-- 12: a body that is too short, a foundation count above 13, columns that do not end where it ends; then the cards
abbrev pub body_tests : List ℕ → List Test
body_tests body =
    (leb 8 (length body), 12)
    ∷ (all (at_most 13) (take 4 (drop 4 body)), 12) ∷ (columns_end 8 (drop 8 body), 12) ∷ cards (table_of body)

-- ---- lines

-- no line of more than 200 moves (a text that is none is 42, before this is asked)
abbrev pub not_too_long : Reading → Bool
not_too_long (jots js) = leb (length js) 200
not_too_long (wrong p) = true

-- a list of moves, each of which can be played from the board and written
abbrev pub is_fine : Verdict → Bool
is_fine (given u) = true
is_fine (refused n) = false

abbrev pub goes_on_paper : List ℕ → List ℕ → Bool
goes_on_paper board list =
    is_fine (line_from (board_in board) (records_in list)).verdict && eqb (writable_first (moves_in list)) (length (moves_in list))

-- ---- the table

abbrev pub order : (e : Entry) → In e → Places e → List Test
order examine board u = boards board
order read image room = (framed image, 10) ∷ (versioned image, 11) ∷ (body_tests (drop 3 image) ++ room_for 432 room)
order deal deck room = (eqb (length deck) 52, 16) ∷ (all is_card deck, 13) ∷ (none_twice deck, 14) ∷ room_for 432 room
order number n room = (is_number n, 41) ∷ room_for 432 room
order move i room = boards i.0 ++ (one_move (shown (board_in i.0)) i.1 ++ room_for 432 room)
order replay i l = boards i.0 ++ ((is_line i.1, 31) ∷ room_for 432 l.0)
order chain board l = boards board ++ room_for 432 l.0
order moves i l = boards i.0 ++ ((is_kind i.1, 30) ∷ room_for 4180 l.0)
order candidates board l = boards board ++ room_for 4180 l.0
order token board l = boards board ++ room_for 32 l.0
order priority i p = boards i.0 ++ one_move (shown (board_in i.0)) i.1
order scores board l = boards board
order signature board s = boards board
order features board room = boards board ++ room_for 7 room
order capacity i u = []
order judge q l = boards q.board ++ settings q.budget (room_for 1000 l.list) (capacity_in l)
order read_line i l = boards i.0 ++ (room_for 1000 l.0 ++ ((not_too_long (line_in i.1), 31) ∷ []))
order write_line i l = boards i.0 ++ ((is_line i.1, 31) ∷ (not (goes_on_paper i.0 i.1) || leb 999 (length l.0), 21) ∷ [])
order season r l =
    (is_number r.first, 41)
    ∷ (is_number r.last, 41) ∷ settings r.budget (room_for 716 l.sheet) (settings_by r l).capacity
order add other into = (good_sheet into, 47) ∷ (good_sheet other, 47) ∷ (same_settings into other, 45) ∷ (apart into other, 44) ∷ []
order top i n = boards i.0 ++ place_below 8 i.1
order cell i n = boards i.0 ++ place_below 4 i.1
order home i n = boards i.0 ++ place_below 4 i.1
order most i n = boards i.0 ++ place_below 8 i.1
order won board n = boards board
order safe board l = boards board ++ room_for 5 l.0
order version i u = []
