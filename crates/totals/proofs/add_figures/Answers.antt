-- What `add_figures` leaves to be shown: flag, answers and pops, lengths and bits, and the two marks.
use mathlib.Core.Path.{sym, ap, ◌∙◌, subst}
use mathlib.Core.List.{List}
use Prim.Native.Nat.{ℕ}
use native.Mathlib.Omega.{arith}
use Rattle.sheets.specs.declared.Side.TheVariants.{Longest as longest}
use Rattle.sheets.specs.Promises.{Small, mark_chosen}
use Rattle.sheets.proofs.Goodness.{good_is}
use Rattle.sheets.proofs.Figuring.{room_1, room_2, small_good, small_3, small_4, all-added}
use Rattle.totals.proofs.add_figures.Goals as goal

pub bounds-into-2 : goal.bounds-into-2
bounds-into-2 c = omega (arith, (good_is _ c.requires.one).long)

pub bounds-into-2-2 : goal.bounds-into-2-2
bounds-into-2-2 c = omega (arith, (good_is _ c.requires.one).long)

pub add_words-requires : goal.add_words-requires
add_words-requires c = room_1 c.args.into.now c.args.other.now c.requires _ c.flag.ensures

pub add_words-requires-2 : goal.add_words-requires-2
add_words-requires-2 c = room_2 c.args.into.now c.args.other.now c.requires _ c.flag.ensures c.add_words.ensures (λ i. (c.slice_known-1.given i).fits) (λ i. (c.shared_slice_known-1.given i).fits)

pub add_mark-requires : goal.add_mark-requires
add_mark-requires c = record { small = small_3 c.args.into.now c.args.other.now c.requires _ c.flag.ensures c.add_words.ensures c.add_words-2.ensures; small_2 = small_good _ _ (good_is _ c.requires.other) }

pub add_mark-requires-2 : goal.add_mark-requires-2
add_mark-requires-2 c = record { small = subst (Small longest) (sym c.add_mark.ensures) (small_4 c.args.into.now c.args.other.now c.requires _ c.flag.ensures c.add_words.ensures c.add_words-2.ensures); small_2 = small_good _ _ (good_is _ c.requires.other) }

pub returns : goal.returns
returns c = c.add_mark-2.ensures ∙ ap (λ (l : List ℕ). mark_chosen longest l c.args.other.now) c.add_mark.ensures ∙ all-added c.args.into.now c.args.other.now c.requires _ c.flag.ensures c.add_words.ensures c.add_words-2.ensures
