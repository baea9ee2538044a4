-- The root is written, and the search begins.
use mathlib.Core.Path.{◌≡◌, refl, sym, ap, ◌∙◌, subst}
use mathlib.Core.List.{List}
use Prim.Native.Nat.{ℕ, ◌+◌, ◌<◌, ◌≤◌}
use native.Mathlib.Omega.{arith}
use lib.ListN.{length}
use Rattle.board.specs.Record.{shown}
use Rattle.board.specs.Inner.{Sound}
use Rattle.board.specs.declared.Board.{Board}
use Rattle.frontier.specs.Heap as frontier
use Rattle.frontier.specs.Packing.{packed}
use Rattle.costs.specs.Promises.{Vacant, Stores}
use Rattle.signature.specs.Signed.{signature_of}
use Rattle.features.specs.Features.{features_of}
use Rattle.score.specs.Scores.{heuristic_key, progress_key}
use Rattle.features.specs.declared.Features.{Features}
use Rattle.nodes.specs.Step as nodes
use Rattle.memory.specs.declared.Room.{Room}
use Rattle.memory.specs.Memory.{Memory, lent}
use Rattle.memory.specs.Steps.{Blank, Rooted, begun}
use Rattle.memory.proofs.Starting.{machine_start, state_start}
use Rattle.turns.specs.Inner.{Seeds}
use Rattle.children.specs.Inner.{Empty}
use Rattle.children.proofs.Hoping.{hope_is}

module _ {r : Room} {m : Memory} (b : Blank r m) where
  pub blank_empty : Empty m.keys m.costs r.entries
  blank_empty = record { some = let s = b.room.spare in omega arith; most = b.most; keyed = b.keyed; costed = b.costed; zero = λ i h. b.free i }

  pub seed_words : 3 ≤ length m.nodes
  seed_words = let w = b.room.words in let s = b.some in omega arith

  pub seed_heap : 0 < length m.heap
  seed_heap = let w = b.room.waits in let s = b.some in omega arith

  pub seed_slot : {k slot : ℕ} → Vacant m.keys m.costs r.entries k slot → slot < 4294967296
  seed_slot v = let w = v.place.within in let h = b.most in omega arith

  module _ {root : Board} (s : Sound root) {f : Features} (e : f ≡ features_of (shown root)) where
    module _ {hope : ℕ} (q : hope ≡ heuristic_key f) where
      pub seeded : {key slot waits p : ℕ} {words heap keys costs : List ℕ} → key ≡ signature_of (shown root)
          → Vacant m.keys m.costs r.entries key slot → nodes.Puts m.nodes words 0 0 0 slot
          → Stores m.keys m.costs keys costs r.entries slot key 0 → waits ≡ packed hope hope 0 → frontier.Puts m.heap heap 0 waits → p ≡ progress_key f
          → Seeds root r (lent words heap keys costs) (record { born = 1; waiting = 1; best = 0; progress = p; pops = 0 })
      seeded {key} {slot} {waits} {p} {words} {heap} {keys} {costs} signs v n st w h g = subst (Seeds root r new) (sym counts) (record { machine = machine_start b rooted; pops = refl; begins = state_start b rooted })
        where
          new : Memory
          new = lent words heap keys costs

          counts : record { born = 1; waiting = 1; best = 0; progress = p; pops = 0 } ≡ begun (shown root)
          counts = ap (λ (x : ℕ). record { born = 1; waiting = 1; best = 0; progress = x; pops = 0 }) (g ∙ ap progress_key e)

          rooted : Rooted (shown root) r m new slot
          rooted =
              record {
                spot = subst (λ (k : ℕ). Vacant m.keys m.costs r.entries k slot) signs v;
                nodes = n;
                table = subst (λ (k : ℕ). Stores m.keys m.costs keys costs r.entries slot k 0) signs st;
                heap = subst (frontier.Puts m.heap heap 0) (w ∙ ap (λ (x : ℕ). packed x x 0) (hope_is s e q) ∙ ap (λ (x : ℕ). packed x (heuristic_key (features_of (shown root))) 0) (let z : heuristic_key (features_of (shown root)) ≡ 0 + heuristic_key (features_of (shown root)) = omega arith in z)) h;
              }
