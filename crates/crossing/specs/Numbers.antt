-- Numbers that cross: a flag that goes in, and which of the numbers that come back are a search's answers.
use Rattle.std.specs.Prelude.{Bool, not, ◌||◌, ℕ, eqb, leb}

-- a flag is a number: 0 is no
abbrev pub flag : ℕ → Bool
flag n = not (eqb n 0)

-- 0 to 5 and 23 are answers, the other numbers refusals
abbrev pub is_answer : ℕ → Bool
is_answer n = leb n 5 || eqb n 23
