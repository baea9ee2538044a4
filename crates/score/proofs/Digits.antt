-- Decimal digits of a number below a thousand, and how long a token is.
use mathlib.Core.Path.{◌≡◌, sym, ap, ◌∙◌}
use mathlib.Core.List.{List, [], ◌∷◌, ◌++◌}
use Prim.Native.Nat.{ℕ, suc, ◌+◌, ◌-◌, ◌/◌, ◌%◌, ◌<◌, ◌≤◌}
use native.Mathlib.Omega.{arith}
use native.Mathlib.Decide.{dec_lt}
use borrow.Author.Tests.{lt-ltb, le-ltb}
use lib.ListN.{length, take, drop, length-append}
use Rattle.base.specs.Words.{concat}
use Rattle.features.specs.Features.{Bounded}
use Rattle.score.specs.Token.{digits_in, decimal, token_of}
use Rattle.features.specs.declared.Features.{Features}

digits_one : (places n : ℕ) → n < 10 → digits_in (suc places) n ≡ (48 + n) ∷ []
unfolding digits_in
digits_one places n h = rw (lt-ltb n 10 h)

digits_more : (places n : ℕ) → 10 ≤ n → digits_in (suc places) n ≡ digits_in places (n / 10) ++ ((48 + n % 10) ∷ [])
unfolding digits_in
digits_more places n h = rw (le-ltb n 10 h)

pub decimal_one : (n : ℕ) → n < 10 → (48 + n % 10) ∷ [] ≡ decimal n
unfolding decimal
decimal_one n h = sym (digits_one 19 n h ∙ ap (λ (k : ℕ). (48 + k) ∷ []) (let q : n ≡ n % 10 = omega arith in q))

pub decimal_two : (n : ℕ) → 10 ≤ n → n < 100 → (48 + n / 10 % 10) ∷ (48 + n % 10) ∷ [] ≡ decimal n
unfolding decimal
decimal_two n l h =
    sym
    (digits_more 19 n l
    ∙ ap (λ (d : List ℕ). d ++ ((48 + n % 10) ∷ [])) (digits_one 18 (n / 10) (omega arith) ∙ ap (λ (k : ℕ). (48 + k) ∷ []) (let q : n / 10 ≡ n / 10 % 10 = omega arith in q)))

pub decimal-three : (n : ℕ) → 100 ≤ n → n < 1000 → (48 + n / 100) ∷ (48 + n / 10 % 10) ∷ (48 + n % 10) ∷ [] ≡ decimal n
unfolding decimal
decimal-three n l h =
    sym
    (digits_more 19 n (omega arith)
    ∙ ap (λ (d : List ℕ). d ++ ((48 + n % 10) ∷ []))
    (digits_more 18 (n / 10) (omega arith)
    ∙ ap (λ (d : List ℕ). d ++ ((48 + n / 10 % 10) ∷ []))
    (digits_one 17 (n / 10 / 10) (omega arith) ∙ ap (λ (k : ℕ). (48 + k) ∷ []) (let q : n / 10 / 10 ≡ n / 100 = omega arith in q))))

-- the three digits, of which the first `leading` are left out
module _ (n leading : ℕ) {a b c : ℕ} (hundreds : a ≡ 48 + n / 100) (tens : b ≡ 48 + n / 10 % 10) (ones : c ≡ 48 + n % 10) where
  abbrev shown : List ℕ
  shown = take (3 - leading) (drop leading (a ∷ b ∷ c ∷ []))

  pub shown_one : leading ≡ 2 → n ≤ 9 → shown ≡ decimal n
  shown_one e h = rw e (rw ones (decimal_one n (omega arith)))

  pub shown_two : leading ≡ 1 → 10 ≤ n → n ≤ 99 → shown ≡ decimal n
  shown_two e l h = rw e (rw (tens, ones) (decimal_two n l (omega arith)))

  pub shown_three : leading ≡ 0 → 100 ≤ n → n < 1000 → shown ≡ decimal n
  shown_three e l h = rw e (rw (hundreds, tens, ones) (decimal-three n l h))

-- ---- lengths

long_one : (n : ℕ) → n < 10 → length (decimal n) ≤ 1
long_one n h = let e = ap length (decimal_one n h) in omega arith

long_two : (n : ℕ) → n < 100 → length (decimal n) ≤ 2
long_two n h = by_side (dec_lt n 10)
  where
    by_side : Dec (n < 10) → length (decimal n) ≤ 2
    by_side (yes l) = let e = long_one n l in omega arith
    by_side (no l) = let e = ap length (decimal_two n (omega arith) h) in omega arith

pub long_three : (n : ℕ) → n < 1000 → length (decimal n) ≤ 3
long_three n h = by_side (dec_lt n 100)
  where
    by_side : Dec (n < 100) → length (decimal n) ≤ 3
    by_side (yes l) = let e = long_two n l in omega arith
    by_side (no l) = let e = ap length (decimal-three n (omega arith) h) in omega arith

module _ (f : Features) where
  -- the parts of a token, added up
  pub token_long : length (token_of f)
      ≡ 2 + length (decimal f.home) + (3 + length (decimal f.immediate) + (3 + length (decimal f.used) + (3 + length (decimal f.empty)
      + (3 + length (decimal f.longest) + (3 + length (decimal f.blocked) + (3 + length (decimal f.imbalance)))))))
  unfolding token_of concat
  token_long = simp length-append (omega arith)

  -- the room that a token is asked for is enough
  pub token_32 : Bounded f → length (token_of f) ≤ 32
  token_32 b =
      let long = token_long in
      let home = long_two f.home (omega arith) in
      let immediate = long_one f.immediate (omega arith) in
      let used = long_one f.used (omega arith) in
      let empty = long_one f.empty (omega arith) in
      let longest = long_two f.longest (omega arith) in
      let blocked = long_three f.blocked (omega arith) in
      let imbalance = long_two f.imbalance (omega arith) in
      omega arith
