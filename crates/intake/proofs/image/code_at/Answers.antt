-- What `code_at` leaves to be shown: a row within the part, or past it.
use mathlib.Core.Path.{sym}
use Prim.Native.Nat.{◌/◌, ◌%◌}
use native.Mathlib.Omega.{arith}
use Rattle.board.specs.Record.{room}
use Rattle.board.proofs.Tables.{part_code_lem, part_past}
use Rattle.intake.proofs.image.code_at.Goals as goal

pub bounds-counts-i : goal.bounds-counts-i
bounds-counts-i c = omega (arith, c.requires.parts.counts8)

pub bounds-starts-i : goal.bounds-starts-i
bounds-starts-i c = omega (arith, c.requires.parts.starts8)

pub overflow_add-at : goal.overflow_add-at
overflow_add-at c =
    omega (arith, c.from-count.ensures, c.requires.parts.within (c.args.p / room) (omega arith))

pub bounds-codes-at : goal.bounds-codes-at
bounds-codes-at c =
    omega (arith, c.from-count.ensures, c.requires.parts.within (c.args.p / room) (omega arith))

pub returns-then-row-count : goal.returns-then-row-count
returns-then-row-count c = sym (part_code_lem c.args.starts.now c.args.counts.now c.args.codes.now (c.args.p / room) (c.args.p % room) (omega (arith, c.from-count.ensures)))

pub returns : goal.returns
returns c = sym (part_past c.args.starts.now c.args.counts.now c.args.codes.now (c.args.p / room) (c.args.p % room) (omega (arith, c.from-count.ensures)))
