-- Laws of the lent room: records written one after the other.
use mathlib.Core.Path.{◌≡◌, refl, sym, ap, ap₂, ◌∙◌, subst}
use mathlib.Core.List.{List, [], ◌∷◌, ◌++◌, append_assoc, append-nil}
use Prim.Native.Nat.{ℕ, ◌+◌, ◌-◌, ◌*◌, ◌≤◌}
use native.Mathlib.Omega.{arith}
use lib.ListN.{length, take, drop, length-append, length-drop, take-append-drop}
use borrow.Rule.Slice.PartMut.{put_mid}
use lib.Seq.{length-take-le, take_at, drop-append-add, drop-drop}
use Rattle.moves.specs.Record.{record_of}
use Rattle.moves.specs.declared.Move.{Move}
use Rattle.moves.specs.declared.Move.TheVariants.{TableauToTableau, TableauToFoundation, TableauToFreeCell, FreeCellToTableau, FreeCellToFoundation, FoundationToTableau}
use Rattle.moves.specs.Written.{bytes_of, written, Adds}

-- ---- bytes

pub record_long : (m : Move) → length (record_of m) ≡ 5
unfolding record_of
record_long (TableauToTableau s d n c) = refl
record_long (TableauToFoundation s c) = refl
record_long (TableauToFreeCell s i c) = refl
record_long (FreeCellToTableau i d c) = refl
record_long (FreeCellToFoundation i c) = refl
record_long (FoundationToTableau s d c) = refl

pub bytes_long : (ms : List Move) → length (bytes_of ms) ≡ length ms * 5
unfolding bytes_of
bytes_long [] = refl
bytes_long (m ∷ ms) =
    length-append (record_of m) (bytes_of ms) ∙ (let r = record_long m in let b = bytes_long ms in omega arith)

bytes_join : (ms ns : List Move) → bytes_of (ms ++ ns) ≡ bytes_of ms ++ bytes_of ns
unfolding bytes_of
bytes_join [] ns = refl
bytes_join (m ∷ ms) ns =
    ap (λ (l : List ℕ). record_of m ++ l) (bytes_join ms ns) ∙ sym (append_assoc (record_of m) (bytes_of ms) (bytes_of ns))

-- ---- the room

module _ (old : List ℕ) (n : ℕ) where
  pub written_none : written old n [] ≡ old
  unfolding written bytes_of
  written_none = ap (λ (k : ℕ). take (n * 5) old ++ drop k old) (let q : (n + 0) * 5 ≡ n * 5 = omega arith in q) ∙ take-append-drop (n * 5) old

  module _ (ms : List Move) (room : (n + length ms) * 5 ≤ length old) where
    abbrev front : List ℕ
    front = take (n * 5) old ++ bytes_of ms

    front_long : length front ≡ (n + length ms) * 5
    front_long =
        length-append (take (n * 5) old) (bytes_of ms)
        ∙ (let t = length-take-le (n * 5) old (omega arith) in let b = bytes_long ms in omega arith)

    -- the front, and the rest of the room
    parts : written old n ms ≡ front ++ drop ((n + length ms) * 5) old
    unfolding written
    parts = sym (append_assoc (take (n * 5) old) (bytes_of ms) (drop ((n + length ms) * 5) old))

    pub written_long : length (written old n ms) ≡ length old
    written_long =
        ap length parts ∙ length-append front (drop ((n + length ms) * 5) old)
        ∙ (let f = front_long in let d = length-drop ((n + length ms) * 5) old in omega arith)

    module _ (ns : List Move) where
      before_next : take ((n + length ms) * 5) (written old n ms) ≡ front
      before_next = ap (take ((n + length ms) * 5)) parts ∙ take_at front (drop ((n + length ms) * 5) old) ((n + length ms) * 5) front_long

      after_next : drop ((n + length ms + length ns) * 5) (written old n ms) ≡ drop ((n + length (ms ++ ns)) * 5) old
      after_next =
          let f = front_long in
          let l = length-append ms ns in
          ap (drop ((n + length ms + length ns) * 5)) parts
          ∙ ap (λ (k : ℕ). drop k (front ++ drop ((n + length ms) * 5) old)) (let q : (n + length ms + length ns) * 5 ≡ length front + length ns * 5 = omega arith in q)
          ∙ drop-append-add front (drop ((n + length ms) * 5) old) (length ns * 5)
          ∙ drop-drop (length ns * 5) ((n + length ms) * 5) old
          ∙ ap (λ (k : ℕ). drop k old) (let q : (n + length ms) * 5 + length ns * 5 ≡ (n + length (ms ++ ns)) * 5 = omega arith in q)

      pub written_more : written (written old n ms) (n + length ms) ns ≡ written old n (ms ++ ns)
      unfolding written
      written_more =
          ap₂ (λ (x y : List ℕ). x ++ (bytes_of ns ++ y)) before_next after_next
          ∙ append_assoc (take (n * 5) old) (bytes_of ms) (bytes_of ns ++ drop ((n + length (ms ++ ns)) * 5) old)
          ∙ ap (λ (l : List ℕ). take (n * 5) old ++ l)
          (sym (append_assoc (bytes_of ms) (bytes_of ns) (drop ((n + length (ms ++ ns)) * 5) old))
          ∙ ap (λ (l : List ℕ). l ++ drop ((n + length (ms ++ ns)) * 5) old) (sym (bytes_join ms ns)))

-- ---- one record

pub adds_one : (old : List ℕ) (n : ℕ) {r : List ℕ} {m : Move} → r ≡ record_of m → Adds old (put_mid (n * 5) (n * 5 + 5 - n * 5) old r) n (n + 1) (m ∷ [])
unfolding written bytes_of
adds_one old n {r} {m} e =
    record {
      room = ap₂ (λ (x y : List ℕ). take (n * 5) old ++ (x ++ y)) (e ∙ sym (append-nil (record_of m)))
          (drop-drop (n * 5 + 5 - n * 5) (n * 5) old ∙ ap (λ (k : ℕ). drop k old) (let q : n * 5 + (n * 5 + 5 - n * 5) ≡ (n + 1) * 5 = omega arith in q));
      many = refl;
    }

-- ---- adding

pub adds_none : (old : List ℕ) (n : ℕ) {ms : List Move} → ms ≡ [] → Adds old old n n ms
adds_none old n e =
    subst (λ (l : List Move). Adds old old n n l) (sym e) (record { room = sym (written_none old n); many = omega arith })

pub adds_same : {old new : List ℕ} {n r : ℕ} {ms ns : List Move} → ms ≡ ns → Adds old new n r ms → Adds old new n r ns
adds_same {old} {new} {n} {r} e a = subst (λ (l : List Move). Adds old new n r l) e a

pub adds_long : {old new : List ℕ} {n r : ℕ} {ms : List Move} → (n + length ms) * 5 ≤ length old → Adds old new n r ms → length new ≡ length old
adds_long {old} {new} {n} {r} {ms} room a = ap length a.room ∙ written_long old n ms room

pub adds_more : {old mid new : List ℕ} {n k r : ℕ} {ms ns : List Move} → (n + length ms) * 5 ≤ length old
    → Adds old mid n k ms → Adds mid new k r ns → Adds old new n r (ms ++ ns)
adds_more {old} {mid} {new} {n} {k} {r} {ms} {ns} room a b =
    record {
      room = b.room ∙ ap₂ (λ (l : List ℕ) (j : ℕ). written l j ns) a.room a.many ∙ written_more old n ms room ns;
      many = let l = length-append ms ns in let p = a.many in let q = b.many in omega arith;
    }
