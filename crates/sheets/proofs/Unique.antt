-- Every promise allows one result only (where it is an equation, by `once`).
use Rattle.board.proofs.Unique.{answered_once}
use Rattle.std.specs.Prelude.{Result}
use Rattle.board.specs.declared.Refusal.{Refusal}
use mathlib.Core.Path.{◌≡◌}
use mathlib.Core.List.{List}
use Prim.Native.Nat.{ℕ}
use Rattle.base.proofs.Unique.{once}
use Rattle.sheets.specs.Promises.{Adds}

-- of `add`
pub adds_once : {a b X Y : List ℕ} {r s : Result (Unit {0}) Refusal} → Adds a b X r → Adds a b Y s → (X ≡ Y) × (r ≡ s)
adds_once {a} {b} {X} {Y} {r} {s} p q = (once p.left q.left, answered_once {r = r} {s = s} p.said q.said)
