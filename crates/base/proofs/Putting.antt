-- Bytes put into lent room at a place, and more bytes after them.
use mathlib.Core.Path.{◌≡◌, refl, sym, ap, ap₂, ◌∙◌, subst}
use mathlib.Core.List.{List, [], ◌∷◌, ◌++◌, append_assoc}
use Prim.Native.Nat.{ℕ, suc, ◌+◌, ◌<◌, ◌≤◌}
use native.Mathlib.Numerals.{add-one}
use native.Mathlib.Omega.{arith}
use lib.ListN.{length, get_or, set, take, drop, length-append, length-drop, take-append-drop}
use lib.Seq.{paste, paste-zero, paste-suc, length-paste, take-length, take-suc, drop-drop, length-take-le, take_at, drop-append-add}
use Rattle.base.specs.Words.{concat}
use Rattle.base.proofs.Words.{concat-append, concat_one}
use Rattle.base.specs.Put.{Puts, over}

-- ---- a loop that copies: the first k bytes are put

pub record Copied (old now s : List ℕ) (at k : ℕ) : Type 0 where
  pub upto : k ≤ length s
  pub paste : now ≡ paste old at s k

pub copy_start : (old s : List ℕ) (at : ℕ) → Copied old old s at 0
copy_start old s at = record { upto = omega arith; paste = paste-zero old at s }

module _ {old now s : List ℕ} {at k : ℕ} (room : at + length s ≤ length old) (c : Copied old now s at k) where
  pub copy_long : length now ≡ length old
  copy_long = let u = c.upto in ap length c.paste ∙ length-paste old at s k (omega arith) c.upto

  pub copy_more : k < length s → Copied old (set now (at + k) (get_or s k 0)) s at (k + 1)
  copy_more h =
      record {
        upto = omega arith;
        paste = ap (λ (l : List ℕ). set l (at + k) (get_or s k 0)) c.paste ∙ paste-suc old at s k 0 (omega arith) h
            ∙ ap (λ (n : ℕ). paste old at s n) (sym (add-one k));
      }

  pub copy_end : length s ≤ k → Puts old now at (at + length s) s
  copy_end h =
      let u = c.upto in
      record {
        room = c.paste ∙ ap (λ (n : ℕ). paste old at s n) (let q : k ≡ length s = omega arith in q)
            ∙ ap (λ (l : List ℕ). take at old ++ l ++ drop (at + length s) old) (take-length s)
            ∙ append_assoc (take at old) s (drop (at + length s) old);
        after = refl;
      }

-- ---- one after the other

module _ {old mid : List ℕ} {at k : ℕ} {s : List ℕ} (room : at + length s ≤ length old) (a : Puts old mid at k s) where
  front : List ℕ
  front = take at old ++ s

  front_long : length front ≡ at + length s
  unfolding front
  front_long = length-append (take at old) s ∙ (let t = length-take-le at old (omega arith) in omega arith)

  parts : mid ≡ front ++ drop (at + length s) old
  unfolding front
  parts = a.room ∙ sym (append_assoc (take at old) s (drop (at + length s) old))

  pub puts_long : length mid ≡ length old
  puts_long =
      ap length parts ∙ length-append front (drop (at + length s) old)
      ∙ (let f = front_long in let d = length-drop (at + length s) old in omega arith)

  pub puts_room : (t : List ℕ) → at + length (s ++ t) ≤ length old → k + length t ≤ length mid
  puts_room t h = let l = puts_long in let e = a.after in omega (arith, length-append s t)

  pub puts_more : {new : List ℕ} {r : ℕ} {t : List ℕ} → Puts mid new k r t → Puts old new at r (s ++ t)
  unfolding front
  puts_more {new} {r} {t} b =
      record {
        room = b.room
            ∙ ap₂ (λ (x y : List ℕ). x ++ (t ++ y)) before behind
            ∙ append_assoc (take at old) s (t ++ drop (at + length (s ++ t)) old)
            ∙ ap (λ (l : List ℕ). take at old ++ l) (sym (append_assoc s t (drop (at + length (s ++ t)) old)));
        after = let e = a.after in let f = b.after in omega (arith, length-append s t);
      }
    where
      before : take k mid ≡ front
      before = ap₂ take a.after parts ∙ take_at front (drop (at + length s) old) (at + length s) front_long

      behind : drop (k + length t) mid ≡ drop (at + length (s ++ t)) old
      behind =
          ap (drop (k + length t)) parts
          ∙ ap (λ (n : ℕ). drop n (front ++ drop (at + length s) old))
          (let f = front_long in let e = a.after in let q : k + length t ≡ length front + length t = omega arith in q)
          ∙ drop-append-add front (drop (at + length s) old) (length t)
          ∙ drop-drop (length t) (at + length s) old
          ∙ ap (λ (n : ℕ). drop n old) (let l = length-append s t in let q : at + length s + length t ≡ at + length (s ++ t) = omega arith in q)

-- the same bytes, otherwise said
pub puts_same : {old new : List ℕ} {at r : ℕ} {s t : List ℕ} → s ≡ t → Puts old new at r s → Puts old new at r t
puts_same {old} {new} {at} {r} e a = subst (λ (l : List ℕ). Puts old new at r l) e a

-- at the start of the room
pub puts_over : {old new : List ℕ} {r : ℕ} {s : List ℕ} → Puts old new 0 r s → new ≡ over s old
unfolding over
puts_over {old} {new} {r} {s} a = a.room ∙ ap (λ (n : ℕ). s ++ drop n old) (let q : 0 + length s ≡ length s = omega arith in q)

-- ---- list after list: the first k of some that all have room

pub record Reached (ps : List (List ℕ)) (k : ℕ) (old now : List ℕ) (at : ℕ) : Type 0 where
  pub fits : length (concat ps) ≤ length old
  pub puts : Puts old now 0 at (concat (take k ps))

pub reach_start : (ps : List (List ℕ)) (old : List ℕ) → length (concat ps) ≤ length old → Reached ps 0 old old 0
unfolding concat
reach_start ps old h = record { fits = h; puts = record { room = refl; after = refl } }

module _ {ps : List (List ℕ)} {old now : List ℕ} {at : ℕ} (k : ℕ) (h : k < length ps) (r : Reached ps k old now at) where
  upto : concat (take (suc k) ps) ≡ concat (take k ps) ++ get_or ps k []
  upto =
      ap concat (take-suc ps k [] h) ∙ concat-append (take k ps) (get_or ps k [] ∷ [])
      ∙ ap (λ (l : List ℕ). concat (take k ps) ++ l) (concat_one (get_or ps k []))

  so_far : length (concat (take k ps)) ≤ length (concat ps)
  so_far =
      omega (arith, ap length (sym (concat-append (take k ps) (drop k ps)) ∙ ap concat (take-append-drop k ps)), length-append (concat (take k ps)) (concat (drop k ps)))

  pub reach_next : {new : List ℕ} {more : ℕ} → Puts now new at more (get_or ps k []) → Reached ps (suc k) old new more
  reach_next p =
      let s = so_far in
      let f = r.fits in
      record { fits = f; puts = puts_same (sym upto) (puts_more (omega arith) r.puts p) }
