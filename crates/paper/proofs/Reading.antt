-- Reading what was written gives the same moves, and writing what was read gives the text again.
use mathlib.Core.Path.{◌≡◌, refl, ap, ap₂, ◌∙◌, subst}
use mathlib.Core.Bool.{Bool, true, false}
use mathlib.Core.List.{List, [], ◌∷◌}
use Prim.Native.Nat.{ℕ, suc, ◌≤◌}
use native.Mathlib.Omega.{arith}
use borrow.Author.Tests.{le-leb}
use lib.Dec.{leb}
use lib.ListN.{length}
use Rattle.base.specs.Answer.{Answer, given, refused, unless}
use Rattle.board.specs.Table.{Table}
use Rattle.board.specs.Verdict.{Verdict, fine, after}
use Rattle.board.specs.Fair.{Fair}
use Rattle.moves.specs.Play.{after_move}
use Rattle.moves.specs.Causes.{ruling}
use Rattle.moves.specs.declared.Move.{Move}
use Rattle.moves.proofs.Fairness.{fair_after}
use Rattle.moves.proofs.Ruling.{allowed-fine, fine-allowed}
use Rattle.replay.specs.Played.{Legal}
use Rattle.notation.specs.Jot.{line_text, AllWell}
use Rattle.notation.specs.Form.{Reading, jots, wrong, line_in}
use Rattle.sense.specs.Meant.{meant}
use Rattle.sense.specs.Outcome.{Outcome, gives, checked, most_moves}
use Rattle.reading.specs.Lines.{ruled, first, read_on, moves_from, read_by, line_read}
use Rattle.writing.specs.Lines.{jots_of, text_of, Writable}
use Rattle.notation.specs.declared.Jot.{Jot}
use Rattle.notation.proofs.Forming.{form_back, form_forth}
use Rattle.notation.proofs.Stopping.{form_well}
use Rattle.sense.proofs.Meaning.{jot_means, meant_jot, meant_said}
use Rattle.sense.proofs.Well.{jot_well}
use Rattle.reading.proofs.Giving.{also_gives, not_given, read_few}
use Rattle.writing.proofs.Lengths.{jots_long}

-- ---- what is written is well made

pub jots_well : (t : Table) (ms : List Move) → Fair t → Legal t ms → AllWell (jots_of t ms)
unfolding jots_of
jots_well t [] f l = tt
jots_well t (m ∷ ms) f l = (jot_well t m f l.0, jots_well (after_move t m) ms (fair_after t m f l.0 l.1.0) l.1.1)

-- ---- reading what was written

moves_back : (t : Table) (ms : List Move) (at : ℕ) → Legal t ms → Writable ms → moves_from t at (jots_of t ms) ≡ gives ms
unfolding moves_from jots_of
moves_back t [] at l w = refl
moves_back t (m ∷ ms) at l w =
    ap (λ (a : Answer Move). read_on at (ruled t a) rest) (jot_means t m l.0 l.1.0 w.0)
    ∙ ap (λ (v : Verdict). read_on at (after v (given m)) rest) (allowed-fine t m l.1.0)
    ∙ ap (first m) (moves_back (after_move t m) ms (suc at) l.1.1 w.1)
  where
    rest : Move → Outcome (List Move)
    rest n = moves_from (after_move t n) (suc at) (jots_of (after_move t m) ms)

pub read_back_lem : (t : Table) (ms : List Move) → Fair t → Legal t ms → Writable ms → length ms ≤ most_moves → line_read t (text_of t ms) ≡ gives ms
unfolding line_read text_of
read_back_lem t ms f l w h =
    ap (read_by t) (form_back (jots_of t ms) (jots_well t ms f l))
    ∙ ap (λ (b : Bool). checked (unless b 31 fine) (moves_from t 0 (jots_of t ms))) (le-leb (length (jots_of t ms)) most_moves (let q = jots_long t ms in omega arith))
    ∙ moves_back t ms 0 l w

-- ---- writing what was read

-- the moves read are the written ones, each allowed when its turn comes
pub record Again (t : Table) (js : List Jot) (ms : List Move) : Type 0 where
  pub legal : Legal t ms
  pub writes : Writable ms
  pub same : jots_of t ms ≡ js

jots_again : (t : Table) (js : List Jot) (at : ℕ) (ms : List Move) → Fair t → AllWell js → moves_from t at js ≡ gives ms → Again t js ms
unfolding moves_from jots_of
jots_again t [] at ms f w e =
    let q : [] ≡ ms = cc in subst (Again t []) q (record { legal = tt; writes = tt; same = refl })
jots_again t (j ∷ js) at ms f w e = by_meant (meant t j) refl e (λ u ns g. jots_again u js (suc at) ns g w.1)
  where
    rest : Move → Outcome (List Move)
    rest m = moves_from (after_move t m) (suc at) js

    Later : Type 0
    Later = (u : Table) (ns : List Move) → Fair u → moves_from u (suc at) js ≡ gives ns → Again u js ns

    by_ruling : (m : Move) (v : Verdict) → meant t j ≡ given m → ruling t m ≡ v → read_on at (after v (given m)) rest ≡ gives ms → Later → Again t (j ∷ js) ms
    by_ruling m (given u) p q e later =
        let g = also_gives m (rest m) e in
        let s = meant_said t j f w.0 p in
        let said = s.said in
        let ok = fine-allowed t m q in
        let a = later (after_move t m) g.0 (fair_after t m f said ok) g.1.0 in
        subst (Again t (j ∷ js)) g.1.1
        (record {
          legal = (said, (ok, a.legal));
          writes = (s.writes, a.writes);
          same = ap₂ (λ (k : Jot) (ks : List Jot). k ∷ ks) (meant_jot t j p) a.same;
        })
    by_ruling m (refused n) p q e later = not_given n at e

    by_meant : (a : Answer Move) → meant t j ≡ a → read_on at (ruled t a) rest ≡ gives ms → Later → Again t (j ∷ js) ms
    by_meant (given m) p e later = by_ruling m (ruling t m) p refl e later
    by_meant (refused n) p e later = not_given n at e

-- what a text gives: it was the text of these moves
pub record Texted (t : Table) (text : List ℕ) (ms : List Move) : Type 0 where
  pub legal : Legal t ms
  pub writes : Writable ms
  pub few : length ms ≤ most_moves
  pub same : text_of t ms ≡ text

pub read_texted : (t : Table) (text : List ℕ) {ms : List Move} → Fair t → line_read t text ≡ gives ms → Texted t text ms
unfolding line_read text_of
read_texted t text {ms} f g = by_reading (line_in text) refl g
  where
    by_few : (js : List Jot) → line_in text ≡ jots js → (b : Bool) → leb (length js) most_moves ≡ b → checked (unless b 31 fine) (moves_from t 0 js) ≡ gives ms → Texted t text ms
    by_few js q true h e =
        let a = jots_again t js 0 ms f (form_well text q) e in
        record { legal = a.legal; writes = a.writes; few = read_few t text g; same = ap line_text a.same ∙ form_forth text q }
    by_few js q false h e = let z : ◌≡◌ {A = ℕ} 0 1 = cc in absurd (let w : ⊥ = omega arith in w)

    by_reading : (r : Reading) → line_in text ≡ r → read_by t r ≡ gives ms → Texted t text ms
    by_reading (jots js) q e = by_few js q (leb (length js) most_moves) refl e
    by_reading (wrong p) q e = not_given 42 p e
