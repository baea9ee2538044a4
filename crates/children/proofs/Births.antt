-- A birth: what is written fits, and the counts after it.
use mathlib.Core.Path.{◌≡◌, sym, ap, ◌∙◌, subst}
use mathlib.Core.List.{List}
use Prim.Native.Nat.{ℕ, ◌+◌, ◌*◌, ◌<◌, ◌≤◌}
use native.Mathlib.Omega.{arith}
use borrow.Author.Tests.{lt-ltb, le-ltb}
use lib.ListN.{length}
use Rattle.board.specs.Record.{shown}
use Rattle.board.specs.declared.Board.{Board}
use Rattle.moves.specs.declared.Move.{Move}
use Rattle.frontier.specs.Heap.{Puts}
use Rattle.frontier.specs.Packing.{packed}
use Rattle.costs.specs.Promises.{Stores}
use Rattle.features.specs.Features.{features_of}
use Rattle.score.specs.Scores.{heuristic_key, progress_key}
use Rattle.features.specs.declared.Features.{Features}
use Rattle.nodes.specs.Step.{Added}
use Rattle.memory.specs.declared.Room.{Room}
use Rattle.memory.specs.declared.Counts.{Counts}
use Rattle.memory.specs.Memory.{Memory, lent}
use Rattle.memory.specs.Steps.{counted_with, counted, Wrote}
use Rattle.children.specs.Inner.{Birth}
use Rattle.children.proofs.Hoping.{hope_is, hope_fits}

module _ (c : Counts) (progress : ℕ) where
  pub counted_higher : c.progress < progress
      → record { born = c.born + 1; waiting = c.waiting + 1; best = c.born; progress = progress; pops = c.pops } ≡ counted_with c progress
  counted_higher h = sym (rw (lt-ltb c.progress progress h))

  pub counted_as_good : progress ≤ c.progress
      → record { born = c.born + 1; waiting = c.waiting + 1; best = c.best; progress = c.progress; pops = c.pops } ≡ counted_with c progress
  counted_as_good h = sym (rw (le-ltb c.progress progress h))

-- ---- a child that can be written

module _ {r : Room} {m : Memory} {c : Counts} {parent : ℕ} {move : Move} {cost slot key : ℕ} {child : Board} (b : Birth r m c parent move cost slot key child) where
  module _ {f : Features} (e : f ≡ features_of (shown child)) where
    module _ {hope : ℕ} (q : hope ≡ heuristic_key f) where
      pub birth_sum : cost + hope < 131072
      birth_sum = let s = hope_fits b.sound e q in let k = b.short in omega arith

      -- node, entry and key are written
      pub wrote : {nodes keys costs heap : List ℕ} {waits : ℕ} → waits ≡ packed (cost + hope) hope c.born
          → Added m.nodes nodes c.born parent move cost slot → Stores m.keys m.costs keys costs r.entries slot key cost
          → Puts m.heap heap c.waiting waits
          → Wrote r m (lent nodes heap keys costs) c parent move cost slot (shown child)
      wrote {nodes} {keys} {costs} {heap} w a s p =
          record {
            nodes = a;
            table = subst (λ (k : ℕ). Stores m.keys m.costs keys costs r.entries slot k cost) b.signs s;
            heap = subst (Puts m.heap heap c.waiting) (w ∙ ap (λ (h : ℕ). packed (cost + h) h c.born) (hope_is b.sound e q)) p;
          }

    pub counts_on : {d : Counts} {p : ℕ} → p ≡ progress_key f → d ≡ counted_with c p → d ≡ counted c (shown child)
    counts_on q h = h ∙ ap (counted_with c) (q ∙ ap progress_key e)

  pub birth_words : (c.born + 1) * 3 ≤ length m.nodes
  birth_words = let w = b.room.words in let f = b.free in omega arith

  pub birth_number : c.born < 4294967296
  birth_number = let f = b.free in let w = b.room.few in omega arith

  pub birth_heap : c.waiting < length m.heap
  birth_heap = let f = b.free in let w = b.room.waits in let h = b.waits in omega arith

  pub birth_slot : slot < 4294967296
  birth_slot = let w = b.place.within in let t = b.table.most in omega arith
