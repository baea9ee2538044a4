-- What `decode` leaves to be shown: the first thing that is impossible, or the move.
use mathlib.Core.Path.{refl, sym, ◌∙◌, subst}
use native.Mathlib.Omega.{arith}
use Prim.Native.Nat.{ℕ, ◌<◌, ◌≤◌}
use lib.ListN.{get_or}
use borrow.Author.Tests.{lt-ltb}
use Rattle.moves.proofs.Records.{not_five, no_card_lem, no_source, no_target, no_count, said}
use Rattle.moves.proofs.Saying.{said_asked}
use Rattle.moves.proofs.decode.Goals as goal

pub returns-then-bytes-ne5 : goal.returns-then-bytes-ne5
returns-then-bytes-ne5 c = record { result_value = not_five c.args.bytes.now c.if-bytes-ne5.true; result_value_2 = refl }

pub returns-then-not-is_card : goal.returns-then-not-is_card
returns-then-not-is_card c = record { result_value = no_card_lem c.args.bytes.now (sym c.is_card.ensures ∙ c.if-not-is_card.true); result_value_2 = refl }

pub returns-then-source_room-from : goal.returns-then-source_room-from
returns-then-source_room-from c = record { result_value = no_source c.args.bytes.now (subst (λ (n : ℕ). n ≤ get_or c.args.bytes.now 1 0) c.source_room.ensures c.if-source_room-from.true); result_value_2 = refl }

pub returns-then-not-target_allows : goal.returns-then-not-target_allows
returns-then-not-target_allows c = record { result_value = no_target c.args.bytes.now (sym c.target_allows.ensures ∙ c.if-not-target_allows.true); result_value_2 = refl }

pub returns-then-not-count_allows : goal.returns-then-not-count_allows
returns-then-not-count_allows c = record { result_value = no_count c.args.bytes.now (sym c.count_allows.ensures ∙ c.if-not-count_allows.true); result_value_2 = refl }

pub move_said-requires : goal.move_said-requires
move_said-requires c = (sym c.is_card.ensures ∙ c.if-not-is_card.false)

pub returns : goal.returns
returns c =
    let e = said c.args.bytes.now c.if-bytes-ne5.false (sym c.is_card.ensures ∙ c.if-not-is_card.false) (lt-ltb _ _ (subst (λ (n : ℕ). get_or c.args.bytes.now 1 0 < n) c.source_room.ensures c.if-source_room-from.false)) (sym c.target_allows.ensures ∙ c.if-not-target_allows.false) (sym c.count_allows.ensures ∙ c.if-not-count_allows.false) c.move_said.ensures in
    record { result_value = e; result_value_2 = said_asked c.args.bytes.now (omega (arith, c.shared_slice_known-5-1.given 3)) e }
