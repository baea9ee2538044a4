-- FreeCell keeps the laws that the theorems rest on: well-formed tables are good, and legal moves lead to the table after them.
use mathlib.Core.Path.{◌≡◌, refl, sym, ap, ◌∙◌, subst}
use mathlib.Core.List.{List, [], ◌∷◌, ◌++◌}
use mathlib.Core.Logic.{inl, inr}
use borrow.Author.Tests.{eq-eqb}
use Rattle.board.specs.Table.{Table}
use Rattle.board.specs.Fair.{Fair}
use Rattle.moves.specs.declared.Move.{Move}
use Rattle.replay.specs.Played.{after_moves, Legal}
use Rattle.replay.proofs.Legal.{after_none, after-append, legal_append}
use Rattle.generate.specs.Found.{is_in}
use Rattle.signature.specs.Signed.{signature_of}
use Rattle.score.proofs.Winning.{won_most}
use Rattle.candidates.specs.Candidates.{candidates}
use Rattle.candidates.specs.Inner.{Playable}
use Rattle.candidates.proofs.Trying.{one_of_all, all-candidates}
use Rattle.candidates.proofs.Bearing.{child_legal, child_fair, child_reached}
use Rattle.search.specs.Game.{Laws, among}
use Rattle.search.specs.Freecell.{freecell}

-- the moves are legal from t, and u is the table after them
pub record Reaches (t : Table) (l : List Move) (u : Table) : Type 0 where
  pub legal : Legal t l
  pub there : after_moves t l ≡ u

pub none_reaches : (t : Table) → Reaches t [] t
none_reaches t = record { legal = tt; there = after_none t }

pub both_reach : {t u v : Table} {l m : List Move} → Reaches t l u → Reaches u m v → Reaches t (l ++ m) v
both_reach {t} {u} {v} {l} {m} r q =
    record {
      legal = legal_append l m t r.legal (subst (λ (x : Table). Legal x m) (sym r.there) q.legal);
      there = after-append l m t ∙ ap (λ (x : Table). after_moves x m) r.there ∙ q.there;
    }

is_in_lem : (m : Move) (l : List Move) → among m l → is_in m l
is_in_lem m [] i = i
is_in_lem m (x ∷ l) (inl e) = inl e
is_in_lem m (x ∷ l) (inr i) = inr (is_in_lem m l i)

pub playable : (t : Table) (m : Move) → Fair t → among m (candidates t) → Playable t m
playable t m f i = one_of_all t m (candidates t) (is_in_lem m (candidates t) i) (all-candidates t f)

abbrev pub freecell_laws : Laws freecell
freecell_laws =
    record {
      Good = Fair;
      Leads = Reaches;
      none_leads = none_reaches;
      both_lead = both_reach;
      one_end = λ r q. sym r.there ∙ q.there;
      child_leads = λ t m f i. record { legal = child_legal t f m (playable t m f i); there = child_reached t m };
      child_good = λ t m f i. child_fair t f m (playable t m f i);
      same_self = λ t. eq-eqb (signature_of t) (signature_of t) refl;
      won_most = won_most;
    }
