-- What an entry point hands back: what was asked for, or a refusal by SCOPE.md's number.
use Rattle.std.specs.Prelude.{Bool, cond, ℕ, Option, Some, None}

pub data Answer (A : Type 0) : Type 0 where
  given : A → Answer A
  refused : ℕ → Answer A

-- a if the test holds, else the refusal n
abbrev pub unless : {A : Type 0} → Bool → ℕ → Answer A → Answer A
unless ok n a = cond ok a (refused n)

-- what was found, or the refusal n where nothing was
abbrev pub given_or : {A : Type 0} → ℕ → Option A → Answer A
given_or n (Some a) = given a
given_or n None = refused n
