-- What the inner functions say of a text while they read it.
use Rattle.std.specs.Prelude.{ℕ, ◌+◌, length, Result, Ok, Err}
use Rattle.notation.specs.Form.{Reading, jots, wrong}
use Rattle.notation.specs.declared.Due.{Due}
use Rattle.notation.specs.declared.Due.TheVariants.{Source, OfColumn, OfCell, Pair, Digit, Whole}
use Rattle.notation.specs.declared.WrongSign.{WrongSign}

-- how many moves, n before those read from here, or which sign is wrong
abbrev pub formed_after : ℕ → Reading → Result ℕ WrongSign
formed_after n (jots js) = Ok (n + length js)
formed_after n (wrong p) = Err (record { place = p })

-- a move is begun
abbrev pub begun : Due → ℕ
begun Source = 0
begun (OfColumn i) = 1
begun (OfCell c) = 1
begun (Pair i j) = 1
begun (Digit i j) = 1
begun (Whole j) = 1
