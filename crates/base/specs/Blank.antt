-- Memory with nothing in it.
use Rattle.std.specs.Prelude.{List, ℕ, length, replicate}

-- every place 0
unfoldable pub blank : List ℕ → List ℕ
blank old = replicate (length old) 0
