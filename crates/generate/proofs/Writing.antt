-- A walk that writes list after list of moves.
use mathlib.Core.Path.{◌≡◌, sym, subst}
use mathlib.Core.List.{List}
use Prim.Native.Nat.{ℕ, ◌+◌, ◌*◌, ◌<◌, ◌≤◌}
use native.Mathlib.Omega.{arith}
use lib.ListN.{length}
use Rattle.moves.specs.declared.Move.{Move}
use Rattle.generate.specs.Found.{gather}
use Rattle.moves.specs.Written.{Adds}
use Rattle.moves.proofs.Writing.{adds_none, adds_long, adds_more}
use Rattle.generate.proofs.Gathering.{gather_none, gather_more, gather-room, gather_up}

-- ---- a walk that has written the first j of `last` lists

pub record Walked (f : ℕ → List Move) (last : ℕ) (old : List ℕ) (n : ℕ) (now : List ℕ) (made j : ℕ) : Type 0 where
  pub upto : j ≤ last
  pub adds : Adds old now n made (gather j f)

pub walk_start : (f : ℕ → List Move) (last : ℕ) (old : List ℕ) (n : ℕ) → Walked f last old n old n 0
walk_start f last old n = record { upto = omega arith; adds = adds_none old n (gather_none f) }

module _ {f : ℕ → List Move} {last : ℕ} {old : List ℕ} {n : ℕ} (room : (n + length (gather last f)) * 5 ≤ length old)
    {now : List ℕ} {made j : ℕ} (w : Walked f last old n now made j) where
  so_far : (n + length (gather j f)) * 5 ≤ length old
  so_far = let u = gather_up f j last w.upto in omega arith

  pub walk_long : length now ≡ length old
  walk_long = adds_long so_far w.adds

  -- there is room for the next list
  pub walk_room : j < last → (made + length (f j)) * 5 ≤ length now
  walk_room h = let r = gather-room f j last h in let l = walk_long in let m = w.adds.many in omega arith

  pub walk_on : j < last → {next : List ℕ} {more : ℕ} → Adds now next made more (f j) → Walked f last old n next more (j + 1)
  walk_on h {next} {more} a =
      record {
        upto = omega arith;
        adds = subst (λ (l : List Move). Adds old next n more l) (sym (gather_more f j)) (adds_more so_far w.adds a);
      }

  pub walk_end : last ≤ j → Adds old now n made (gather last f)
  walk_end h = subst (λ (k : ℕ). Adds old now n made (gather k f)) (let q : j ≡ last = let u = w.upto in omega arith in q) w.adds
