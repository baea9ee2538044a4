-- The progress token: seven fixed labels, each before its number in decimal digits.
use Rattle.std.specs.Prelude.{List, [], ◌∷◌, ◌++◌, ℕ, zero, suc, ◌+◌, ◌/◌, ◌%◌, cond, ltb}
use Rattle.base.specs.Words.{concat}
use Rattle.features.specs.declared.Features.{Features}

-- the decimal digits of a number of at most so many digits, as bytes of text
unfoldable pub digits_in : ℕ → ℕ → List ℕ
digits_in zero n = []
digits_in (suc places) n = cond (ltb n 10) ((48 + n) ∷ []) (digits_in places (n / 10) ++ ((48 + n % 10) ∷ []))

unfoldable pub decimal : ℕ → List ℕ
decimal n = digits_in 20 n

-- a label and its number
abbrev pub labelled : List ℕ → ℕ → List ℕ
labelled label n = label ++ decimal n

-- f:.. |i:.. |u:.. |e:.. |r:.. |b:.. |m:..
abbrev pub parts : Features → List (List ℕ)
parts f =
    labelled (102 ∷ 58 ∷ []) f.home
    ∷ labelled (124 ∷ 105 ∷ 58 ∷ []) f.immediate
    ∷ labelled (124 ∷ 117 ∷ 58 ∷ []) f.used
    ∷ labelled (124 ∷ 101 ∷ 58 ∷ []) f.empty
    ∷ labelled (124 ∷ 114 ∷ 58 ∷ []) f.longest
    ∷ labelled (124 ∷ 98 ∷ 58 ∷ []) f.blocked
    ∷ labelled (124 ∷ 109 ∷ 58 ∷ []) f.imbalance
    ∷ []

unfoldable pub token_of : Features → List ℕ
token_of f = concat (parts f)
