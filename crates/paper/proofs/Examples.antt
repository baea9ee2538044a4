-- Lines read and written on four small boards, evaluated: every number of reading with its place, and texts outside the form.
use mathlib.Core.Path.{◌≡◌, refl}
use mathlib.Core.List.{List, [], ◌∷◌, ◌++◌}
use Prim.Native.Nat.{ℕ}
use lib.ListN.{replicate}
use Rattle.std.specs.Prelude.{Result, Ok, Err}
use Rattle.board.specs.Table.{Table}
use Rattle.moves.specs.Written.{bytes_of}
use Rattle.moves.specs.declared.Move.{Move}
use Rattle.notation.specs.Jot.{line_text}
use Rattle.notation.specs.Form.{formed_by, line_in}
use Rattle.writing.specs.Lines.{text_of, writable_first}
use Rattle.reading.specs.Lines.{line_read}
use Rattle.sense.specs.Outcome.{Outcome, gives, refuses, refuses_at}
use Rattle.writing.specs.Asked.{moves_of}
use Rattle.notation.specs.declared.WrongSign.{WrongSign}
use Rattle.notation.specs.declared.Jot.TheVariants.{ToCell, ToHome}
use Rattle.paper.proofs.Opened.{opened}

-- what is read from some texts: the bytes of the moves' records, or the refusal
in_bytes : Outcome (List Move) → Outcome (List ℕ)
in_bytes (gives ms) = gives (bytes_of ms)
in_bytes (refuses n) = refuses n
in_bytes (refuses_at n p) = refuses_at n p

reads : Table → List (List ℕ) → List (Outcome (List ℕ))
reads t [] = []
reads t (text ∷ texts) = in_bytes (line_read t text) ∷ reads t texts

abbrev wrong_at : ℕ → Result ℕ WrongSign
wrong_at p = Err (record { place = p })

forms : List (List ℕ) → List (Result ℕ WrongSign)
forms [] = []
forms (text ∷ texts) = formed_by (line_in text) ∷ forms texts

-- every card is home but the king of spades, alone in the first column
abbrev S : Table
S =
    record {
      cells = 255 ∷ 255 ∷ 255 ∷ 255 ∷ [];
      foundation = 13 ∷ 13 ∷ 13 ∷ 12 ∷ [];
      columns = (211 ∷ []) ∷ [] ∷ [] ∷ [] ∷ [] ∷ [] ∷ [] ∷ [] ∷ [];
    }

-- every suit is home up to its eight; KS QH JS TH 9S | - | KH QS | KC QD | KD QC | JD TC | JC TD | JH TS 9C, and 9H, 9D in cells
abbrev M : Table
M =
    record {
      cells = 146 ∷ 145 ∷ 255 ∷ 255 ∷ [];
      foundation = 8 ∷ 8 ∷ 8 ∷ 8 ∷ [];
      columns =
          (211 ∷ 194 ∷ 179 ∷ 162 ∷ 147 ∷ [])
          ∷ []
          ∷ (210 ∷ 195 ∷ [])
          ∷ (208 ∷ 193 ∷ [])
          ∷ (209 ∷ 192 ∷ [])
          ∷ (177 ∷ 160 ∷ [])
          ∷ (176 ∷ 161 ∷ [])
          ∷ (178 ∷ 163 ∷ 144 ∷ [])
          ∷ [];
    }

-- the kings in the cells, no empty column: one card at once; QC TH 9S | JC | QD | QH | QS | JD JH | JS TC TD TS | 9C 9D 9H
abbrev F : Table
F =
    record {
      cells = 208 ∷ 209 ∷ 210 ∷ 211 ∷ [];
      foundation = 8 ∷ 8 ∷ 8 ∷ 8 ∷ [];
      columns =
          (192 ∷ 162 ∷ 147 ∷ [])
          ∷ (176 ∷ [])
          ∷ (193 ∷ [])
          ∷ (194 ∷ [])
          ∷ (195 ∷ [])
          ∷ (177 ∷ 178 ∷ [])
          ∷ (179 ∷ 160 ∷ 161 ∷ 163 ∷ [])
          ∷ (144 ∷ 145 ∷ 146 ∷ [])
          ∷ [];
    }

-- a run of twelve, KS QH .. 3S 2H, and one of eleven, KH QS .. 4S 3H; clubs and diamonds are home, AH, AS and 2S too
abbrev R : Table
R =
    record {
      cells = 255 ∷ 255 ∷ 255 ∷ 255 ∷ [];
      foundation = 13 ∷ 13 ∷ 1 ∷ 2 ∷ [];
      columns =
          (211 ∷ 194 ∷ 179 ∷ 162 ∷ 147 ∷ 130 ∷ 115 ∷ 98 ∷ 83 ∷ 66 ∷ 51 ∷ 34 ∷ [])
          ∷ []
          ∷ (210 ∷ 195 ∷ 178 ∷ 163 ∷ 146 ∷ 131 ∷ 114 ∷ 99 ∷ 82 ∷ 67 ∷ 50 ∷ [])
          ∷ []
          ∷ []
          ∷ []
          ∷ []
          ∷ []
          ∷ [];
    }

-- 12, 12v1, 22, 21, 21v1 (no card comes before the count), ah, 1a, 1h
on_S : reads S (
    (49 ∷ 50 ∷ [])
    ∷ (49 ∷ 50 ∷ 118 ∷ 49 ∷ [])
    ∷ (50 ∷ 50 ∷ [])
    ∷ (50 ∷ 49 ∷ [])
    ∷ (50 ∷ 49 ∷ 118 ∷ 49 ∷ [])
    ∷ (97 ∷ 104 ∷ [])
    ∷ (49 ∷ 97 ∷ [])
    ∷ (49 ∷ 104 ∷ [])
    ∷ []) ≡ gives (1 ∷ 0 ∷ 1 ∷ 1 ∷ 211 ∷ [])
    ∷ refuses_at 30 0
    ∷ refuses_at 30 0
    ∷ refuses_at 33 0
    ∷ refuses_at 33 0
    ∷ refuses_at 33 0
    ∷ gives (3 ∷ 0 ∷ 0 ∷ 1 ∷ 211 ∷ [])
    ∷ gives (2 ∷ 0 ∷ 3 ∷ 1 ∷ 211 ∷ [])
    ∷ []
unfolding opened reads in_bytes
on_S = refl

-- the most is three: 12, 12v2, 12v0, 12v3, 12vf; 13, and with a `v`; 1a, a1, ah, 6h
on_M : reads M (
    (49 ∷ 50 ∷ [])
    ∷ (49 ∷ 50 ∷ 118 ∷ 50 ∷ [])
    ∷ (49 ∷ 50 ∷ 118 ∷ 48 ∷ [])
    ∷ (49 ∷ 50 ∷ 118 ∷ 51 ∷ [])
    ∷ (49 ∷ 50 ∷ 118 ∷ 102 ∷ [])
    ∷ (49 ∷ 51 ∷ [])
    ∷ (49 ∷ 51 ∷ 118 ∷ 49 ∷ [])
    ∷ (49 ∷ 97 ∷ [])
    ∷ (97 ∷ 49 ∷ [])
    ∷ (97 ∷ 104 ∷ [])
    ∷ (54 ∷ 104 ∷ [])
    ∷ []) ≡ gives (1 ∷ 0 ∷ 1 ∷ 3 ∷ 179 ∷ [])
    ∷ gives (1 ∷ 0 ∷ 1 ∷ 2 ∷ 162 ∷ [])
    ∷ refuses_at 30 0
    ∷ refuses_at 30 0
    ∷ refuses_at 30 0
    ∷ refuses_at 38 0
    ∷ refuses_at 30 0
    ∷ refuses_at 39 0
    ∷ refuses_at 38 0
    ∷ gives (5 ∷ 0 ∷ 2 ∷ 1 ∷ 146 ∷ [])
    ∷ refuses_at 40 0
    ∷ []
unfolding opened reads in_bytes
on_M = refl

-- one card down and back: the nine fits the ten it came from. 12v1 21, 12v1 12, 1c 1c
two_moves : reads M (
    (49 ∷ 50 ∷ 118 ∷ 49 ∷ 32 ∷ 50 ∷ 49 ∷ [])
    ∷ (49 ∷ 50 ∷ 118 ∷ 49 ∷ 32 ∷ 49 ∷ 50 ∷ [])
    ∷ (49 ∷ 99 ∷ 32 ∷ 49 ∷ 99 ∷ [])
    ∷ []) ≡ gives (1 ∷ 0 ∷ 1 ∷ 1 ∷ 147 ∷ 1 ∷ 1 ∷ 0 ∷ 1 ∷ 147 ∷ []) ∷ refuses_at 38 1 ∷ refuses_at 39 1 ∷ []
unfolding opened reads in_bytes
two_moves = refl

-- two cards fit and one may be moved: 12. 13 fits at no count; 12v1 is no empty column's
over_limit_lem : reads F ((49 ∷ 50 ∷ []) ∷ (49 ∷ 51 ∷ []) ∷ (49 ∷ 50 ∷ 118 ∷ 49 ∷ []) ∷ []) ≡ refuses_at 36 0 ∷ refuses_at 38 0 ∷ refuses_at 30 0 ∷ []
unfolding opened reads in_bytes
over_limit_lem = refl

-- cut short: 1, 12v, and a space at the end; the empty text is a line
short : forms ([] ∷ (49 ∷ []) ∷ (49 ∷ 50 ∷ 118 ∷ []) ∷ (49 ∷ 50 ∷ 32 ∷ []) ∷ (49 ∷ 50 ∷ 118 ∷ 51 ∷ 32 ∷ []) ∷ [])
    ≡ Ok 0 ∷ wrong_at 1 ∷ wrong_at 3 ∷ wrong_at 3 ∷ wrong_at 5 ∷ []
unfolding opened forms
short = refl

-- a space before, two between, none between, a newline after: ` 12`, `12  13`, `1213`, `12\n`
spaces : forms ((32 ∷ 49 ∷ 50 ∷ []) ∷ (49 ∷ 50 ∷ 32 ∷ 32 ∷ 49 ∷ 51 ∷ []) ∷ (49 ∷ 50 ∷ 49 ∷ 51 ∷ []) ∷ (49 ∷ 50 ∷ 10 ∷ []) ∷ [])
    ≡ wrong_at 0 ∷ wrong_at 3 ∷ wrong_at 2 ∷ wrong_at 2 ∷ []
unfolding opened forms
spaces = refl

-- 12vg, 12vA, 12V3, 12v33; `v` only between columns: 1av1, a1v1, 1hv1
counts : forms (
    (49 ∷ 50 ∷ 118 ∷ 103 ∷ [])
    ∷ (49 ∷ 50 ∷ 118 ∷ 65 ∷ [])
    ∷ (49 ∷ 50 ∷ 86 ∷ 51 ∷ [])
    ∷ (49 ∷ 50 ∷ 118 ∷ 51 ∷ 51 ∷ [])
    ∷ (49 ∷ 97 ∷ 118 ∷ 49 ∷ [])
    ∷ (97 ∷ 49 ∷ 118 ∷ 49 ∷ [])
    ∷ (49 ∷ 104 ∷ 118 ∷ 49 ∷ [])
    ∷ []) ≡ wrong_at 3 ∷ wrong_at 3 ∷ wrong_at 2 ∷ wrong_at 4 ∷ wrong_at 2 ∷ wrong_at 2 ∷ wrong_at 2 ∷ []
unfolding opened forms
counts = refl

-- h1, 9, 0, e1, A1; ab, aa, 19, 1e, 1H
places : forms (
    (104 ∷ 49 ∷ [])
    ∷ (57 ∷ [])
    ∷ (48 ∷ [])
    ∷ (101 ∷ 49 ∷ [])
    ∷ (65 ∷ 49 ∷ [])
    ∷ (97 ∷ 98 ∷ [])
    ∷ (97 ∷ 97 ∷ [])
    ∷ (49 ∷ 57 ∷ [])
    ∷ (49 ∷ 101 ∷ [])
    ∷ (49 ∷ 72 ∷ [])
    ∷ []) ≡ wrong_at 0 ∷ wrong_at 0 ∷ wrong_at 0 ∷ wrong_at 0 ∷ wrong_at 0 ∷ wrong_at 1 ∷ wrong_at 1 ∷ wrong_at 1 ∷ wrong_at 1 ∷ wrong_at 1 ∷ []
unfolding opened forms
places = refl

-- 201 moves are too many, whatever they are; 200 are tried
too_many_lem : reads S (line_text (replicate 201 (ToHome 1)) ∷ line_text (replicate 200 (ToHome 1)) ∷ []) ≡ refuses 31 ∷ refuses_at 33 0 ∷ []
unfolding opened reads in_bytes
too_many_lem = refl

-- 42 comes before 31 however long the text is: 400 moves, `1a 1a .. 1a`, and an x behind them, 1,200 bytes
wrong_at_the_end : reads S ((line_text (replicate 400 (ToCell 0 0)) ++ (120 ∷ [])) ∷ []) ≡ refuses_at 42 1199 ∷ []
unfolding opened reads in_bytes
wrong_at_the_end = refl

-- the digits past nine: eleven of the twelve are `12vb`, ten `12va`; 12 takes them all, so that 12vc is not below the most
on_R : reads R ((49 ∷ 50 ∷ []) ∷ (49 ∷ 50 ∷ 118 ∷ 98 ∷ []) ∷ (49 ∷ 50 ∷ 118 ∷ 97 ∷ []) ∷ (49 ∷ 50 ∷ 118 ∷ 99 ∷ []) ∷ [])
    ≡ gives (1 ∷ 0 ∷ 1 ∷ 12 ∷ 211 ∷ []) ∷ gives (1 ∷ 0 ∷ 1 ∷ 11 ∷ 194 ∷ []) ∷ gives (1 ∷ 0 ∷ 1 ∷ 10 ∷ 179 ∷ []) ∷ refuses_at 30 0 ∷ []
unfolding opened reads in_bytes
on_R = refl

eleven_down : text_of R (moves_of ((1 ∷ 0 ∷ 1 ∷ 11 ∷ 194 ∷ []) ∷ [])) ≡ 49 ∷ 50 ∷ 118 ∷ 98 ∷ []
unfolding opened
eleven_down = refl

ten_down : text_of R (moves_of ((1 ∷ 0 ∷ 1 ∷ 10 ∷ 179 ∷ []) ∷ [])) ≡ 49 ∷ 50 ∷ 118 ∷ 97 ∷ []
unfolding opened
ten_down = refl

-- three cards into the empty column are the most there, two are not; the nine goes home from its cell, and to the empty column
on_paper : text_of M (moves_of ((1 ∷ 0 ∷ 1 ∷ 3 ∷ 179 ∷ []) ∷ (5 ∷ 0 ∷ 2 ∷ 1 ∷ 146 ∷ []) ∷ [])) ≡ 49 ∷ 50 ∷ 32 ∷ 97 ∷ 104 ∷ []
unfolding opened
on_paper = refl

with_count : text_of M (moves_of ((1 ∷ 0 ∷ 1 ∷ 2 ∷ 162 ∷ []) ∷ (4 ∷ 1 ∷ 2 ∷ 1 ∷ 145 ∷ []) ∷ [])) ≡ 49 ∷ 50 ∷ 118 ∷ 50 ∷ 32 ∷ 98 ∷ 51 ∷ []
unfolding opened
with_count = refl

-- the king goes home and comes back: the second move has no signs
no_signs : writable_first (moves_of ((2 ∷ 0 ∷ 3 ∷ 1 ∷ 211 ∷ []) ∷ (6 ∷ 3 ∷ 1 ∷ 1 ∷ 211 ∷ []) ∷ [])) ≡ 1
unfolding opened
no_signs = refl
