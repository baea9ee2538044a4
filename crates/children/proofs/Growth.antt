-- One child, case by case: the memory shows what the definition makes of it.
use Rattle.std.specs.Prelude.{Option, Some, None}
use mathlib.Core.Path.{◌≡◌, refl, sym, ap, subst}
use mathlib.Core.Bool.{true, false}
use Prim.Native.Nat.{ℕ, ◌+◌, ◌<◌, ◌≤◌}
use native.Mathlib.Omega.{arith}
use lib.ListN.{length}
use Rattle.board.specs.Record.{shown}
use Rattle.board.specs.Inner.{Sound}
use Rattle.board.specs.declared.Board.{Board}
use Rattle.board.proofs.Fair.{shows_fair}
use Rattle.moves.specs.Play.{after_move}
use Rattle.moves.specs.declared.Move.{Move}
use Rattle.moves.proofs.Fairness.{fair_after}
use Rattle.play.specs.Change.{Ready}
use Rattle.costs.specs.CostIn.{cost_in}
use Rattle.signature.specs.Signed.{signature_of}
use Rattle.safe.proofs.Chaining.{chain_most}
use Rattle.candidates.specs.Children.{child_moves}
use Rattle.candidates.specs.Inner as candidates
use Rattle.candidates.specs.Inner.{Playable}
use Rattle.nodes.specs.Step.{cost_at}
use Rattle.search.specs.Solve.{as_good}
use Rattle.memory.specs.View.{told}
use Rattle.memory.specs.declared.Room.{Room}
use Rattle.memory.specs.declared.Counts.{Counts}
use Rattle.memory.specs.Memory.{Memory}
use Rattle.memory.specs.Steps.{Spot, counted, Wrote}
use Rattle.memory.proofs.Within.{cost_short}
use Rattle.memory.proofs.Children.{Child, child_by, child_few}
use Rattle.memory.proofs.Writing.{spot_place, node_kept, machine_wrote}
use Rattle.memory.proofs.Bearing.{bears_deep, bears_known, bears_full, bears_born}
use Rattle.children.specs.Inner.{Chooses, Birth, Stands, Onward, Bears}

child_most : (b : Board) (move : Move) → Ready b move → length (child_moves (shown b) move) ≤ 53
unfolding child_moves
child_most b move r =
    let h = chain_most (after_move (shown b) move) (fair_after (shown b) move (shows_fair r.sound) r.said r.allows) in
    omega arith

module _ {root : Board} {r : Room} {m : Memory} {c : Counts} {i : ℕ} {b : Board} (s : Stands root r m c i b) {move : Move} (p : Playable (shown b) move) where
  pub bear_ready : Ready b move
  bear_ready = record { sound = s.sound; said = p.said; allows = p.allows }

  -- nothing changes
  same : Onward root r m m c c i
  same = record { machine = s.machine; more = omega arith; same = refl; pops = refl }

  module _ {cost : ℕ} (e : cost ≡ cost_at m.nodes i) {moves : ℕ} {board : Board} (k : candidates.Bears b move moves board) where
    pub bear_total : cost + moves ≤ 253
    bear_total =
        let a = cost_short s.machine i s.born in
        let h = child_most b move bear_ready in
        let q = k.many in
        omega arith

    child : Child (shown root) m c i move (cost + moves) (shown board)
    child = child_by s.machine s.born bear_ready s.shows k (ap (λ (n : ℕ). n + moves) e)

    pub bear_deep : 200 < cost + moves → Bears root r m m c i move (Some c)
    bear_deep h = record { grew = same; grows = bears_deep s.machine child h }

    module _ {key : ℕ} (signs : key ≡ signature_of (shown board)) {choice : Option ℕ} (ch : Chooses m.keys m.costs r.entries key (cost + moves) choice) where
      pub bear_known : choice ≡ None → Bears root r m m c i move (Some c)
      bear_known q =
          record {
            grew = same;
            grows =
                bears_known s.machine child
                (subst (λ (x : ℕ). as_good (told (cost_in m.keys m.costs r.entries x)) (cost + moves) ≡ true) signs (ch.dropped q));
          }

      module _ {slot : ℕ} (q : choice ≡ Some slot) (short : cost + moves ≤ 200) where
        fresh : as_good (told (cost_in m.keys m.costs r.entries (signature_of (shown board)))) (cost + moves) ≡ false
        fresh = subst (λ (x : ℕ). as_good (told (cost_in m.keys m.costs r.entries x)) (cost + moves) ≡ false) signs (ch.passes slot q)

        spot : Spot r m (signature_of (shown board)) slot
        spot = let there : Spot r m key slot = record { which = ch.spot slot q } in subst (λ (x : ℕ). Spot r m x slot) signs there

        pub bear_full : r.capacity ≤ c.born → Bears root r m m c i move None
        bear_full h = record { grew = tt; grows = bears_full s.machine child short fresh h }

        module _ (free : c.born < r.capacity) where
          pub birth_of : Sound board → Birth r m c i move (cost + moves) slot key board
          birth_of sound =
              let there : Spot r m key slot = record { which = ch.spot slot q } in
              record {
                sound = sound;
                signs = signs;
                room = s.machine.room;
                free = free;
                waits = s.machine.waits;
                older = s.born;
                said = p.said;
                few = child_few (shows_fair s.begins) s.machine child;
                short = short;
                table = s.machine.table;
                place = spot_place there;
                heap = s.machine.heap;
              }

          pub bear_born : {new : Memory} {d : Counts} → Wrote r m new c i move (cost + moves) slot (shown board) → d ≡ counted c (shown board)
              → Bears root r m new c i move (Some d)
          bear_born {new} w g = subst (λ (x : Counts). Bears root r m new c i move (Some x)) (sym g)
              (record {
                grew =
                    record {
                      machine = machine_wrote (shows_fair s.begins) s.machine child short free spot w;
                      more = omega arith;
                      same = node_kept (shows_fair s.begins) s.machine child short free spot w i s.born;
                      pops = refl;
                    };
                grows = bears_born s.machine child short fresh (shows_fair s.begins) free spot w;
              })
