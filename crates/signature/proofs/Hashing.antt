-- A hash over words goes on where it stands: word by word, and list by list.
use Rattle.std.proofs.Common.{◌≡◌, ℕ, List, [], ◌∷◌, ◌++◌, map, sym, refl, ap, ◌∙◌}
use Rattle.std.specs.List.{fold, range_with_len}
use Rattle.base.specs.Words.{listed, concat}
use Rattle.base.proofs.Lists.{map-range}
use Rattle.signature.specs.Fnv.{fnv_step, fnv_from}

pub hash_append : (h : ℕ) (s t : List ℕ) → fnv_from h (s ++ t) ≡ fnv_from (fnv_from h s) t
unfolding fnv_from
hash_append h [] t = refl
hash_append h (x ∷ s) t = hash_append (fnv_step h x) s t

pub hash_next : (h x : ℕ) (s : List ℕ) → fnv_from h (x ∷ s) ≡ fnv_from (fnv_step h x) s
unfolding fnv_from
hash_next h x s = refl

-- ---- a fold over words, and over lists of words

pub hash_all : (h : ℕ) (s : List ℕ) → fold fnv_step h s ≡ fnv_from h s
unfolding fnv_from
hash_all h [] = refl
hash_all h (x ∷ s) = hash_all (fnv_step h x) s

hash_mapped : (h : ℕ) (f : ℕ → ℕ) (s : List ℕ) → fold (λ a k. fnv_step a (f k)) h s ≡ fnv_from h (map f s)
unfolding fnv_from
hash_mapped h f [] = refl
hash_mapped h f (k ∷ s) = hash_mapped (fnv_step h (f k)) f s

pub hash_listed : (h : ℕ) (f : ℕ → ℕ) (n : ℕ) → fold (λ a k. fnv_step a (f k)) h (range_with_len 0 n) ≡ fnv_from h (listed n f)
hash_listed h f n = hash_mapped h f (range_with_len 0 n) ∙ ap (fnv_from h) (map-range f n)

lists_mapped : (h : ℕ) (f : ℕ → List ℕ) (s : List ℕ) → fold (λ a k. fnv_from a (f k)) h s ≡ fnv_from h (concat (map f s))
unfolding fnv_from concat
lists_mapped h f [] = refl
lists_mapped h f (k ∷ s) = lists_mapped (fnv_from h (f k)) f s ∙ sym (hash_append h (f k) (concat (map f s)))

pub lists_hashed : (h : ℕ) (f : ℕ → List ℕ) (n : ℕ) → fold (λ a k. fnv_from a (f k)) h (range_with_len 0 n) ≡ fnv_from h (concat (listed n f))
lists_hashed h f n = lists_mapped h f (range_with_len 0 n) ∙ ap (λ (ls : List (List ℕ)). fnv_from h (concat ls)) (map-range f n)
