-- When a move is worth trying, test by test; when its card is safe; what is tried late.
use mathlib.Core.Path.{◌≡◌, sym, ap, ap₂, ◌∙◌}
use mathlib.Core.Bool.{Bool, true, not}
use mathlib.Core.List.{List, []}
use Prim.Native.Nat.{ℕ, ◌+◌, ◌*◌, ◌<◌, ◌≤◌}
use native.Mathlib.Omega.{arith}
use borrow.Author.Tests.{lt-ltb, le-ltb, le-leb, lt-leb}
use lib.Dec.{ltb}
use lib.ListN.{length}
use Rattle.card.specs.Card.{is_card, is_value, code_of}
use Rattle.card.specs.declared.Card.{Card}
use Rattle.card.proofs.Codes.{code_is_card}
use Rattle.board.specs.Record.{shown}
use Rattle.board.specs.Table.{Table}
use Rattle.board.specs.declared.Board.{Board}
use Rattle.questions.specs.Questions.{home_count}
use Rattle.questions.proofs.Asking.{shown_foundation}
use Rattle.moves.specs.Move.{card}
use Rattle.moves.specs.Play.{after_move}
use Rattle.moves.specs.declared.Move.{Move}
use Rattle.moves.proofs.Records.{said_value}
use Rattle.play.specs.Change.{Ready}
use Rattle.moves.specs.Written.{Adds}
use Rattle.moves.proofs.Writing.{adds_same}
use Rattle.score.specs.Weights.{ENDGAME_UNSAFE_FOUNDATION_THRESHOLD}
use Rattle.features.specs.Features.{features_of}
use Rattle.features.specs.declared.Features.{Features}
use Rattle.safe.specs.Safe.{safe, chosen, is_safe, home_moves}
use Rattle.candidates.specs.Candidates.{better, worthwhile, is_unsafe, late_moves}
use Rattle.candidates.specs.Inner.{meets}
use Rattle.candidates.specs.declared.Test.{Test}
use Rattle.candidates.specs.declared.Test.TheVariants.{Unsafe, Worthwhile}

-- ---- better features

module _ (f g : Features) where
  pub more_options : f.immediate < g.immediate → true ≡ better f g
  unfolding better
  more_options h = sym (rw (lt-ltb f.immediate g.immediate h))

  module _ (no_more : g.immediate ≤ f.immediate) where
    pub less_blocked : g.blocked < f.blocked → true ≡ better f g
    unfolding better
    less_blocked h = sym (rw (le-ltb f.immediate g.immediate no_more, lt-ltb g.blocked f.blocked h))

    pub longer_run : f.blocked ≤ g.blocked → ltb f.longest g.longest ≡ better f g
    unfolding better
    longer_run h = sym (rw (le-ltb f.immediate g.immediate no_more, le-ltb g.blocked f.blocked h))

-- ---- a safe card

module _ {b : Board} {m : Move} (r : Ready b m) where
  pub good_value : {c : Card} → c ≡ card m → is_value c.value ≡ true
  good_value e = ap (λ (c : Card). is_value c.value) e ∙ said_value m r.said

  pub good_code : {c : Card} {x : ℕ} → c ≡ card m → x ≡ code_of c → is_card x ≡ true
  good_code {c} e q = ap is_card q ∙ code_is_card c (good_value e)

pub safe_here : (b : Board) (m : Move) {c : Card} {x : ℕ} {r : Bool} → c ≡ card m → x ≡ code_of c → r ≡ safe b.foundation x → r ≡ is_safe (shown b) m
unfolding is_safe
safe_here b m e q h = h ∙ ap₂ safe (shown_foundation b) (q ∙ ap code_of e)

-- ---- the tests

module _ (t : Table) (m : Move) {test : Test} {r : Bool} where
  pub meets_unsafe : test ≡ Unsafe → r ≡ is_safe t m → not r ≡ meets test t m
  unfolding is_unsafe
  meets_unsafe q e = ap not e ∙ ap (λ (k : Test). meets k t m) (sym q)

  pub meets_worth : {f g : Features} → test ≡ Worthwhile → f ≡ features_of t → g ≡ features_of (after_move t m) → r ≡ better f g → r ≡ meets test t m
  unfolding worthwhile
  meets_worth q a b e = e ∙ ap₂ better a b ∙ ap (λ (k : Test). meets k t m) (sym q)

-- ---- what is tried late

module _ (t : Table) {f : Features} (e : f ≡ features_of t) where
  home_is : f.home ≡ home_count t.foundation
  unfolding features_of
  home_is = ap (λ (g : Features). g.home) e

  pub nothing_late : f.home < ENDGAME_UNSAFE_FOUNDATION_THRESHOLD → late_moves t ≡ []
  unfolding late_moves
  nothing_late h = let q = home_is in rw (lt-leb ENDGAME_UNSAFE_FOUNDATION_THRESHOLD (home_count t.foundation) (omega arith))

  all_late : ENDGAME_UNSAFE_FOUNDATION_THRESHOLD ≤ f.home → late_moves t ≡ chosen (is_unsafe t) (home_moves t)
  unfolding late_moves
  all_late h = let q = home_is in rw (le-leb ENDGAME_UNSAFE_FOUNDATION_THRESHOLD (home_count t.foundation) (omega arith))

  pub late_room : (ms : List Move) → ms ≡ home_moves t → ENDGAME_UNSAFE_FOUNDATION_THRESHOLD ≤ f.home → (at lent : ℕ) → (at + length (late_moves t)) * 5 ≤ lent
      → (at + length (chosen (is_unsafe t) ms)) * 5 ≤ lent
  late_room ms q h at lent r = let l = ap length (all_late h ∙ ap (chosen (is_unsafe t)) (sym q)) in omega arith

  pub adds_late : {ms : List Move} {old new : List ℕ} {at r : ℕ} → ms ≡ home_moves t → ENDGAME_UNSAFE_FOUNDATION_THRESHOLD ≤ f.home
      → Adds old new at r (chosen (is_unsafe t) ms) → Adds old new at r (late_moves t)
  adds_late q h a = adds_same (sym (all_late h ∙ ap (chosen (is_unsafe t)) (sym q))) a
