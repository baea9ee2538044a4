-- Request (i) holds: every number of 1 to 32,000 is dealt, and its board is well formed.
use mathlib.Core.Path.{◌≡◌, sym, ap, ◌∙◌, subst}
use mathlib.Core.Bool.{true, false}
use mathlib.Core.List.{List, [], ◌∷◌}
use Prim.Native.Nat.{ℕ, ◌<◌, ◌≤◌}
use native.Mathlib.Omega.{arith}
use native.Mathlib.Decide.{dec_le}
use lib.Dec.{eqb}
use lib.ListN.{length, take}
use Rattle.base.specs.Answer.{Answer}
use Rattle.base.specs.Put.{over}
use Rattle.base.proofs.Answers.{given_by}
use Rattle.board.specs.Record.{board_of}
use Rattle.board.specs.declared.Board.{Board}
use Rattle.shuffle.specs.Shuffle.{deck_of}
use Rattle.intake.specs.Deal.{dealt}
use Rattle.intake.specs.Number.{is_number, number_asked}
use Rattle.intake.proofs.Numbers.{number_given, number_none, number_fair, number_columns}
use Rattle.crossing.specs.Wire.{board_room, board_in, bytes_of}
use Rattle.crossing.specs.Crossing.{Left, left}
use Rattle.crossing.specs.Boards.{board_left, number_left}
use Rattle.crossing.proofs.Handing.{hands_yes, hands_short}
use Rattle.corbelnib.specs.Calls.{number, Call, GoodBoard}
use Rattle.demands.specs.Demand2.{table_in}
use Rattle.demands.specs.HandsByNumber.{dealt_by, HandsByNumber}
use Rattle.demands.proofs.Replaying.{laid_board, laid_table, laid_good}
use Rattle.demands.proofs.Demand1.{demand1}

module _ (c : Call number) where
  abbrev board : Board
  board = board_of (dealt (deck_of c.input))

  answered : {a : Answer Board} → number_asked c.input ≡ a → left c.number c.after ≡ board_left a c.before
  unfolding number_left
  answered e = c.keeps ∙ ap (λ (x : Answer Board). board_left x c.before) e

  no_number : is_number c.input ≡ false → c.number ≡ 41
  unfolding board_left
  no_number e = ap (λ (l : Left (List ℕ)). l.number) (answered (number_none c.input e))

  module _ (ok : is_number c.input ≡ true) where
    with_room_lem : board_room ≤ length c.before → left c.number c.after ≡ left 0 (over (bytes_of board) c.before)
    with_room_lem h = answered (number_given c.input ok) ∙ sym (hands_yes board c.before h)

    short : length c.before < board_room → c.number ≡ 21
    short h = ap (λ (l : Left (List ℕ)). l.number) (answered (number_given c.input ok) ∙ sym (hands_short board c.before h))

    lies : board_room ≤ length c.before → dealt_by c ≡ take board_room (over (bytes_of board) c.before)
    lies h = ap (λ (l : Left (List ℕ)). take board_room l.places) (with_room_lem h)

  -- what is dealt lies in the room: the number is one, and the room is large enough
  module _ (done : c.number ≡ 0) where
    pub is_number_lem : is_number c.input ≡ true
    is_number_lem = (given_by (is_number c.input) 41 _ (demand1.examines c (ap (λ (n : ℕ). eqb n 0) done))).0

    pub enough : board_room ≤ length c.before
    enough = by (dec_le board_room (length c.before))
      where
        by : Dec (board_room ≤ length c.before) → board_room ≤ length c.before
        by (yes h) = h
        by (no h) = let s = short is_number_lem (omega arith) in absurd (let w : ⊥ = omega arith in w)

    well : GoodBoard (dealt_by c)
    well = subst GoodBoard (sym (lies is_number_lem enough)) (laid_good (dealt (deck_of c.input)) (number_fair c.input) c.before)

    column_counts : (board_in (dealt_by c)).counts ≡ 7 ∷ 7 ∷ 7 ∷ 7 ∷ 6 ∷ 6 ∷ 6 ∷ 6 ∷ []
    column_counts =
        ap (λ (l : List ℕ). (board_in l).counts) (lies is_number_lem enough)
        ∙ ap (λ (b : Board). b.counts) (laid_board (dealt (deck_of c.input)) (number_fair c.input) c.before)
        ∙ number_columns c.input

pub hands_by_number : HandsByNumber
hands_by_number =
    record {
      deals = λ c ok h. (
        ap (λ (l : Left (List ℕ)). l.number) (with_room_lem c ok h),
        ap table_in (lies c ok h) ∙ laid_table (dealt (deck_of c.input)) (number_fair c.input) c.before,
      );
      well_formed = well;
      columns = column_counts;
      refused = no_number;
      narrow = short;
    }
