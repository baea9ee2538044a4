-- What every deal gives: an answer that is counted, pops within the budget, a list of at most 200 moves; and what the code finds is that.
use mathlib.Core.Path.{◌≡◌, refl, sym, ap, ◌∙◌, subst}
use mathlib.Core.Bool.{true}
use mathlib.Core.List.{List}
use mathlib.Core.Logic.{inl, inr}
use Prim.Native.Nat.{ℕ, zero, suc, ◌≤◌}
use native.Mathlib.Omega.{arith}
use lib.ListN.{length}
use Rattle.base.specs.Words.{occurs}
use Rattle.shuffle.specs.Shuffle.{deck_of}
use Rattle.board.specs.Table.{Table}
use Rattle.board.specs.Record.{shown, board_of}
use Rattle.board.specs.Inner.{Sound}
use Rattle.board.specs.declared.Board.{Board}
use Rattle.std.specs.Prelude.{Result, Ok}
use Rattle.board.specs.Refusal.{answered}
use Rattle.board.specs.declared.Refusal.{Refusal}
use Rattle.board.proofs.Unique.{answered_once}
use Rattle.board.proofs.Records.{shown_of_record}
use Rattle.board.proofs.Fair.{fair_laid}
use Rattle.intake.specs.Deal.{dealt}
use Rattle.intake.specs.Number.{is_number, number_asked}
use Rattle.intake.proofs.Accepted.{fine_sound}
use Rattle.intake.proofs.Numbers.{number_given, number_fair, number_fine}
use Rattle.moves.specs.declared.Move.{Move}
use Rattle.search.specs.Solve as solve
use Rattle.search.specs.Freecell.{freecell, judge}
use Rattle.search.proofs.Judge.{T1, T4_pops}
use Rattle.finish.specs.Said.{said_number, moves_of}
use Rattle.solver.specs.Told.{IsAnswer}
use Rattle.finish.specs.Inner.{Gives}
use Rattle.finish.specs.declared.Judged.{Judged}
use Rattle.solver.proofs.Calls.{judge_answer}
use Rattle.sheets.specs.Figures.{answers_counted}
use Rattle.sheets.specs.Over.{Settings}
use Rattle.sheets.proofs.Goodness.{Answered}
use Rattle.season.specs.Season.{result_by, result_of}

-- ---- the board of a number

pub dealt-shown : (n : ℕ) → shown (board_of (dealt (deck_of n))) ≡ dealt (deck_of n)
dealt-shown n = shown_of_record (dealt (deck_of n)) (fair_laid (dealt (deck_of n)) (number_fair n))

pub dealt_sound : (n : ℕ) → Sound (board_of (dealt (deck_of n)))
dealt_sound n = fine_sound (number_fine n)

module _ (n : ℕ) {r : Result Board Refusal} (h : answered r ≡ number_asked n) (ok : is_number n ≡ true) where
  pub hand_is : r ≡ Ok (board_of (dealt (deck_of n)))
  hand_is = answered_once {r = r} {s = Ok (board_of (dealt (deck_of n)))} h (sym (number_given n ok))

  module _ {b : Board} (q : r ≡ Ok b) where
    hand_board : b ≡ board_of (dealt (deck_of n))
    hand_board = let e = hand_is in cc

    pub hand_sound : Sound b
    hand_sound = subst Sound (sym hand_board) (dealt_sound n)

    pub hand-shown : shown b ≡ dealt (deck_of n)
    hand-shown = ap shown hand_board ∙ dealt-shown n

-- ---- its answer

small_counted : (k : ℕ) → k ≤ 5 → occurs k answers_counted ≡ 1
unfolding occurs
small_counted zero h = refl
small_counted (suc zero) h = refl
small_counted (suc (suc zero)) h = refl
small_counted (suc (suc (suc zero))) h = refl
small_counted (suc (suc (suc (suc zero)))) h = refl
small_counted (suc (suc (suc (suc (suc zero))))) h = refl
small_counted (suc (suc (suc (suc (suc (suc k)))))) h = absurd (let w : ⊥ = omega arith in w)

answer_counted : (k : ℕ) → IsAnswer k → occurs k answers_counted ≡ 1
unfolding occurs
answer_counted k (inl h) = small_counted k h
answer_counted k (inr e) = ap (λ (x : ℕ). occurs x answers_counted) e

module _ (s : Settings) (n : ℕ) where
  abbrev answer : solve.Answer freecell
  answer = judge (dealt (deck_of n)) s.budget s.capacity s.partial

  list_short : (a : solve.Answer freecell) → judge (shown (board_of (dealt (deck_of n)))) s.budget s.capacity s.partial ≡ a → length (moves_of a.list) ≤ 200
  list_short a e = by a.list (ap (λ (x : solve.Answer freecell). x.list) e)
    where
      by : (l : solve.Perhaps (List Move)) → (judge (shown (board_of (dealt (deck_of n)))) s.budget s.capacity s.partial).list ≡ l → length (moves_of l) ≤ 200
      by solve.none q = omega arith
      by (solve.some l) q = (T1 (board_of (dealt (deck_of n))) (dealt_sound n) s.budget s.capacity s.partial l q).short

  -- every deal can be entered
  pub each-answered : Answered s.budget (result_of s n)
  unfolding result_of
  each-answered =
      record {
        counted = answer_counted answer.number (judge_answer (dealt (deck_of n)) s.budget s.capacity s.partial);
        afforded = T4_pops (dealt (deck_of n)) s.budget s.capacity s.partial;
        short = list_short answer (ap (λ (t : Table). judge t s.budget s.capacity s.partial) (dealt-shown n));
      }

  -- what was found for its board is what it gives
  module _ (b : Board) (e : shown b ≡ dealt (deck_of n)) where
    abbrev sought : solve.Answer freecell
    sought = judge (shown b) s.budget s.capacity s.partial

    pub result_found : {k p m : ℕ} → k ≡ sought.number → p ≡ sought.pops → m ≡ length (moves_of sought.list)
        → record { answer = k; pops = p; moves = m } ≡ result_of s n
    unfolding result_of
    result_found {k} {p} {m} x y z =
        let w : record { answer = k; pops = p; moves = m } ≡ result_by sought = cc in
        w ∙ ap (λ (t : Table). result_by (judge t s.budget s.capacity s.partial)) e

    pub found_result : {old new : List ℕ} {j : Judged} {k : ℕ} → Gives sought old new j → k ≡ said_number j.said
        → record { answer = k; pops = j.pops; moves = j.moves } ≡ result_of s n
    found_result g q = result_found (q ∙ g.number) g.pops g.moves
