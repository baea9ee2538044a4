-- Request (v), sentence by sentence: "A best line that finishes."
use Rattle.std.specs.Prelude.{◌≡◌, true, false}
use Rattle.questions.specs.Questions.{won_on}
use Rattle.signature.specs.Signed.{signature_of}
use Rattle.search.specs.Solve.{Node, start}
use Rattle.search.specs.Freecell.{freecell}
use Rattle.search.specs.Claims.{Struck, best_of, Borne}
use Rattle.crossing.specs.Numbers.{flag}
use Rattle.corbelnib.specs.Calls.{replay, judge, Call, capacity_in}
use Rattle.demands.specs.Demand1.{GoodSearch}
use Rattle.demands.specs.Demand2.{table_in, Answers, Replays, end_of}
use Rattle.demands.specs.Demand3.{Accepted, SameList, NoLess}

-- 1 was given before this request: the limit strikes, and a best-progress list is brought
abbrev pub StruckBy : Call judge → Type 0
StruckBy c = Struck freecell (table_in c.input.board) c.input.budget (capacity_in c.before) (flag c.input.partial)

-- the nodes that the run of a call bears
abbrev pub BorneBy : Call judge → Node freecell → Type 0
BorneBy c = Borne freecell c.input.budget (capacity_in c.before) (start freecell (table_in c.input.board))

-- two boards of the run, one won and one not, so that they differ, share a signature
pub record SharedSignature (c : Call judge) : Type 0 where
  pub finished : Node freecell
  pub other : Node freecell
  pub finished_borne : BorneBy c finished
  pub other_borne : BorneBy c other
  pub wins : won_on finished.board.foundation ≡ true
  pub unwon : won_on other.board.foundation ≡ false
  pub shared : signature_of finished.board ≡ signature_of other.board

-- what a call y makes of the answer 5 of a call x
pub data Becomes (x y : Call judge) : Type 0 where
  won_then : y.number ≡ 0 → Becomes x y
  still : y.number ≡ 5 → SameList x y → Becomes x y
  no_room_then : y.number ≡ 23 → Becomes x y
  exhausted_then : y.number ≡ 2 → SameList x y → SharedSignature y → Becomes x y

pub record BestLine : Type 0 where
  -- "From now on answer 5, which returns and leaves what 1 does, ..": where 1 was given, the best line is brought, whatever it is called
  pub leaves : (c : Call judge) → GoodSearch c → (s : StruckBy c) → Answers c (best_of freecell s.state)
  -- ".. replaces 1 when the best board is won": then, ..
  pub finished : (c : Call judge) (r : Call replay) → GoodSearch c → StruckBy c → Replays c r → won_on (table_in (end_of r)).foundation ≡ true → c.number ≡ 5
  -- .. and only then; so 1 means that it is not
  pub only : (c : Call judge) (r : Call replay) → Replays c r → c.number ≡ 5 → StruckBy c × (won_on (table_in (end_of r)).foundation ≡ true)
  pub unfinished : (c : Call judge) (r : Call replay) → Replays c r → c.number ≡ 1 → StruckBy c × (won_on (table_in (end_of r)).foundation ≡ false)
  -- at the limit, and with the flag alone
  pub spent : (c : Call judge) → c.number ≡ 5 → c.after.pops ≡ c.input.budget
  pub flagged : (c : Call judge) → c.number ≡ 5 → flag c.input.partial ≡ true
  -- "With budget and capacity no smaller and the same flag, 5 becomes only 0, 5 with the same list, 23, or, where two different boards of
  -- the run share a signature, 2 with the same list." (That 5 is a best-progress list, and not won, is in Demand3.antt.)
  pub becomes : (x y : Call judge) → NoLess x y → Accepted y → x.number ≡ 5 → Becomes x y
