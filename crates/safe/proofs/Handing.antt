-- The loop of the chain, turn by turn, and what is handed back.
use Rattle.board.specs.Refusal.{answered}
use Rattle.std.specs.Prelude.{Ok, Some, Result, None}
use mathlib.Core.Path.{◌≡◌, refl, sym, ap, ◌∙◌, subst}
use mathlib.Core.Bool.{Bool, true, false}
use mathlib.Core.List.{List, [], ◌∷◌}
use Prim.Native.Nat.{ℕ, suc, ◌+◌, ◌-◌, ◌<◌, ◌≤◌}
use native.Mathlib.Omega.{arith}
use lib.ListN.{length}
use Rattle.base.specs.Answer.{given, refused, unless}
use Rattle.card.specs.Card.{is_card}
use Rattle.board.specs.Table.{Table}
use Rattle.board.specs.Record.{examined, shown, board_of}
use Rattle.board.specs.Inner.{Sound}
use Rattle.board.specs.declared.Board.{Board}
use Rattle.board.specs.declared.Refusal.{Refusal}
use Rattle.board.proofs.Records.{record_of_shown}
use Rattle.board.proofs.Fair.{shows_fair}
use Rattle.questions.proofs.Asking.{after_yes, shown_foundation}
use Rattle.moves.specs.Play.{after_move}
use Rattle.moves.specs.declared.Move.{Move}
use Rattle.play.specs.Change.{Becomes, Ready}
use Rattle.replay.specs.Played.{after_moves}
use Rattle.replay.proofs.Stepping.{became, sound_after}
use Rattle.replay.proofs.Legal.{after_none, after_next}
use Rattle.safe.specs.Safe.{safe, first_safe}
use Rattle.safe.specs.Chain.{chain_of, chain}
use Rattle.safe.specs.Asked.{safe_asked, chained, Runs}
use Rattle.safe.proofs.Safety.{safe_said, safe-allowed}
use Rattle.safe.proofs.Chaining.{chain_next, chain_none, chain_stops}

-- ---- what the loop knows

-- the chain from the start is the moves made so far and then what is left from here
pub record Chaining (b now : Board) (moves : ℕ) : Type 0 where
  pub sound : Sound now
  pub upto : moves ≤ 52
  pub many : length (chain (shown b)) ≡ moves + length (chain_of (52 - moves) (shown now))
  pub left : after_moves (shown b) (chain (shown b)) ≡ after_moves (shown now) (chain_of (52 - moves) (shown now))

pub chaining_start : {b : Board} → Sound b → Chaining b b 0
unfolding chain
chaining_start s = record { sound = s; upto = omega arith; many = omega arith; left = refl }

-- a first safe move may be played
pub chain_ready : {b : Board} {m : Move} → Sound b → first_safe (shown b) ≡ Some m → Ready b m
chain_ready {b} s e = record { sound = s; said = safe_said (shown b) e (shows_fair s); allows = safe-allowed (shown b) e }

module _ {b now : Board} {moves : ℕ} (r : Chaining b now moves) where
  pub chaining_turn : {m : Move} {next : Board} → moves < 52 → first_safe (shown now) ≡ Some m → Becomes next (after_move (shown now) m)
      → Chaining b next (moves + 1)
  chaining_turn {m} {next} h e d =
      record {
        sound = let k = chain_ready r.sound e in subst Sound (became d) (sound_after now r.sound m k.said k.allows);
        upto = omega arith;
        many = let a = r.many in let l = ap length step in omega arith;
        left = r.left ∙ ap (after_moves (shown now)) step ∙ after_next (shown now) m rest ∙ ap (λ (t : Table). after_moves t rest) (sym d.shows);
      }
    where
      rest : List Move
      rest = chain_of (52 - (moves + 1)) (shown next)

      step : chain_of (52 - moves) (shown now) ≡ m ∷ rest
      step =
          ap (λ (k : ℕ). chain_of k (shown now)) (let q : 52 - moves ≡ suc (52 - (moves + 1)) = omega arith in q)
          ∙ chain_next (52 - (moves + 1)) (shown now) e
          ∙ ap (λ (t : Table). m ∷ chain_of (52 - (moves + 1)) t) (sym d.shows)

  done : chain_of (52 - moves) (shown now) ≡ [] → Runs b now moves
  done e =
      record {
        many = let a = r.many in let l = ap length e in omega arith;
        ends = sym (ap board_of (r.left ∙ ap (after_moves (shown now)) e ∙ after_none (shown now)) ∙ record_of_shown now r.sound.in_columns);
        sound = r.sound;
      }

  pub chaining_stop : first_safe (shown now) ≡ None → Runs b now moves
  chaining_stop e = done (chain_stops (52 - moves) (shown now) e)

  pub chaining_full : 52 ≤ moves → Runs b now moves
  chaining_full h = done (ap (λ (k : ℕ). chain_of k (shown now)) (let q : 52 - moves ≡ 0 = omega arith in q) ∙ chain_none (shown now))

-- ---- what is handed back

pub chain_played : {b after : Board} {moves : ℕ} → Runs b after moves → record { moves = moves; board = after } ≡ chained b
unfolding chained
chain_played r = rw (r.many, r.ends) refl

module _ (b : Board) (x : ℕ) {e : Result (Unit {0}) Refusal} (p : answered e ≡ examined b) (q : e ≡ Ok tt) {ok : Bool} (k : ok ≡ is_card x) where
  on_card : {t : Bool} → ok ≡ t → unless t 30 (given (safe b.foundation x)) ≡ safe_asked b x
  unfolding safe_asked
  on_card c =
      ap (λ (t : Bool). unless t 30 (given (safe b.foundation x))) (sym c ∙ k)
      ∙ ap (λ (l : List ℕ). unless (is_card x) 30 (given (safe l x))) (shown_foundation b) ∙ sym (after_yes _ p q)

  pub asked_no_card : ok ≡ false → refused 30 ≡ safe_asked b x
  asked_no_card c = on_card c

  pub asked-safe : {r : Bool} → ok ≡ true → r ≡ safe b.foundation x → given r ≡ safe_asked b x
  asked-safe c f = ap (λ (t : Bool). given t) f ∙ on_card c
