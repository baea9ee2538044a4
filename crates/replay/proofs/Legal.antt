-- A legal list of moves keeps a well-formed table and its cards, and replaying its records plays it.
use mathlib.Core.Path.{◌≡◌, refl, sym, ap, ap₂, ◌∙◌, subst}
use mathlib.Core.Bool.{true}
use mathlib.Core.List.{List, [], ◌∷◌, ◌++◌}
use Prim.Native.Nat.{ℕ, suc}
use native.Mathlib.Omega.{arith}
use lib.ListN.{length, length-append}
use lib.Seq.{take_at, drop_at}
use Rattle.base.specs.Words.{occurs}
use Rattle.base.specs.Answer.{Answer, given}
use Rattle.board.specs.Table.{Table, cards_on}
use Rattle.board.specs.Verdict.{fine}
use Rattle.board.specs.Record.{shown, board_of}
use Rattle.board.specs.Inner.{Sound}
use Rattle.board.specs.declared.Board.{Board}
use Rattle.board.proofs.Records.{record_of_shown, shown_of_record}
use Rattle.board.specs.Fair.{Fair}
use Rattle.board.proofs.Fair.{fair_laid}
use Rattle.moves.specs.Move.{sayable}
use Rattle.moves.specs.Record.{record_of}
use Rattle.moves.specs.Play.{allowed, after_move}
use Rattle.moves.specs.Written.{bytes_of}
use Rattle.moves.specs.declared.Move.{Move}
use Rattle.moves.proofs.Writing.{record_long}
use Rattle.moves.proofs.Saying.{asked_said}
use Rattle.moves.proofs.Allowing.{allowed-keeps}
use Rattle.moves.proofs.Fairness.{fair_after}
use Rattle.replay.specs.Step.{played_on, stepped}
use Rattle.replay.specs.Line.{one_more, go_on, line_from, records_in}
use Rattle.replay.specs.Played.{after_moves, Legal, records_of}
use Rattle.replay.proofs.Lining.{records_none, records_first}
use Rattle.replay.proofs.Stepping.{made_yes, sound_after, fair_then}

-- ---- a move, and a list after a list

pub after_none : (t : Table) → after_moves t [] ≡ t
unfolding after_moves
after_none t = refl

pub after_next : (t : Table) (m : Move) (ms : List Move) → after_moves t (m ∷ ms) ≡ after_moves (after_move t m) ms
unfolding after_moves
after_next t m ms = refl

pub after-append : (ms ns : List Move) (t : Table) → after_moves t (ms ++ ns) ≡ after_moves (after_moves t ms) ns
unfolding after_moves
after-append [] ns t = refl
after-append (m ∷ ms) ns t = after-append ms ns (after_move t m)

pub legal_append : (ms ns : List Move) (t : Table) → Legal t ms → Legal (after_moves t ms) ns → Legal t (ms ++ ns)
unfolding after_moves
legal_append [] ns t l k = k
legal_append (m ∷ ms) ns t l k = (l.0, (l.1.0, legal_append ms ns (after_move t m) l.1.1 k))

-- ---- what a legal list keeps

pub legal_fair : (ms : List Move) (t : Table) → Fair t → Legal t ms → Fair (after_moves t ms)
unfolding after_moves
legal_fair [] t f l = f
legal_fair (m ∷ ms) t f l = legal_fair ms (after_move t m) (fair_after t m f l.0 l.1.0) l.1.1

pub legal_cards : (ms : List Move) (t : Table) → Fair t → Legal t ms → (x : ℕ) → occurs x (cards_on (after_moves t ms)) ≡ occurs x (cards_on t)
unfolding after_moves
legal_cards [] t f l x = refl
legal_cards (m ∷ ms) t f l x =
    legal_cards ms (after_move t m) (fair_after t m f l.0 l.1.0) l.1.1 x ∙ allowed-keeps t m f.seats l.0 l.1.0 x

-- ---- its records

pub records_written : (ms : List Move) → records_in (bytes_of ms) ≡ records_of ms
unfolding bytes_of records_of
records_written [] = records_none [] (omega arith)
records_written (m ∷ ms) =
    let r = record_long m in
    let l = length-append (record_of m) (bytes_of ms) in
    records_first (record_of m ++ bytes_of ms) (omega arith)
    ∙ ap₂ (λ (s t : List ℕ). s ∷ records_in t) (take_at (record_of m) (bytes_of ms) 5 r) (drop_at (record_of m) (bytes_of ms) 5 r)
    ∙ ap (λ (rs : List (List ℕ)). record_of m ∷ rs) (records_written ms)

-- ---- its records replayed

module _ (b : Board) (m : Move) (said : sayable m ≡ true) (ok : allowed (shown b) m ≡ true) where
  step_legal : stepped b (record_of m) ≡ given (board_of (after_move (shown b) m))
  unfolding stepped
  step_legal = ap (played_on b) (asked_said m said) ∙ made_yes b m ok

  shown_then : Sound b → shown (board_of (after_move (shown b) m)) ≡ after_move (shown b) m
  shown_then s = shown_of_record (after_move (shown b) m) (fair_laid (after_move (shown b) m) (fair_then b s m said ok))

pub line_legal : (ms : List Move) (b : Board) → Sound b → Legal (shown b) ms
    → line_from b (records_of ms) ≡ record { verdict = fine; moves = length ms; board = board_of (after_moves (shown b) ms) }
unfolding line_from records_of after_moves
line_legal [] b s l = ap (λ (d : Board). record { verdict = fine; moves = 0; board = d }) (sym (record_of_shown b s.in_columns))
line_legal (m ∷ ms) b s l =
    let c = board_of (after_move (shown b) m) in
    let same = shown_then b m l.0 l.1.0 s in
    ap (λ (a : Answer Board). go_on b a (λ d. line_from d (records_of ms))) (step_legal b m l.0 l.1.0)
    ∙ ap one_more (line_legal ms c (sound_after b s m l.0 l.1.0) (subst (λ (t : Table). Legal t ms) (sym same) l.1.1))
    ∙ ap (λ (t : Table). record { verdict = fine; moves = suc (length ms); board = board_of (after_moves t ms) }) same
