-- Piece after piece is written: what was put so far, and what is left of the whole.
use mathlib.Core.Path.{◌≡◌, refl, sym, ap, ◌∙◌}
use mathlib.Core.List.{List, [], ◌++◌, append_assoc, append-nil}
use Prim.Native.Nat.{ℕ, ◌+◌, ◌≤◌}
use native.Mathlib.Omega.{arith}
use lib.ListN.{length, take, drop, take-append-drop}
use Rattle.base.specs.Put.{Puts}
use Rattle.base.proofs.Putting.{puts_long, puts_more, puts_same}

pub record Along (old now whole rest : List ℕ) (at to : ℕ) : Type 0 where
  pub done : List ℕ
  pub puts : Puts old now at to done
  pub left : done ++ rest ≡ whole
  pub within : to ≤ length old

pub along_start : (old whole : List ℕ) (at : ℕ) → at ≤ length old → Along old old whole whole at at
along_start old whole at h =
    record {
      done = [];
      puts = record {
        room = sym (ap (λ (n : ℕ). take at old ++ drop n old) (let q : at + 0 ≡ at = omega arith in q) ∙ take-append-drop at old);
        after = omega arith;
      };
      left = refl;
      within = h;
    }

module _ {old now whole rest : List ℕ} {at to : ℕ} (a : Along old now whole rest at to) where
  so_far : at + length a.done ≤ length old
  so_far = let e = a.puts.after in let w = a.within in omega arith

  pub along_long : length now ≡ length old
  along_long = puts_long so_far a.puts

  -- the next piece
  pub along_on : {new p : List ℕ} {more : ℕ} (then : List ℕ) → rest ≡ p ++ then → to + length p ≤ length old → Puts now new to more p
      → Along old new whole then at more
  along_on {new} {p} {more} then e room b =
      record {
        done = a.done ++ p;
        puts = puts_more so_far a.puts b;
        left = append_assoc a.done p then ∙ ap (λ (l : List ℕ). a.done ++ l) (sym e) ∙ a.left;
        within = let q = b.after in omega arith;
      }

  -- nothing is left
  pub along_end : rest ≡ [] → Puts old now at to whole
  along_end e = puts_same (sym (append-nil a.done) ∙ ap (λ (l : List ℕ). a.done ++ l) (sym e) ∙ a.left) a.puts
