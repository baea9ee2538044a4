-- A line of numbers, number after number; a line for each record of a list.
use mathlib.Core.Path.{◌≡◌, refl, sym, ap, ap₂, ◌∙◌}
use mathlib.Core.List.{List, [], ◌∷◌, ◌++◌}
use Prim.Native.Nat.{ℕ, suc, ◌+◌, ◌-◌, ◌*◌, ◌<◌, ◌≤◌}
use native.Mathlib.Numerals.{add-one}
use native.Mathlib.Omega.{arith}
use lib.ListN.{length, get_or, take, drop, length-drop, length-append, drop_of_length-le}
use lib.Seq.{drop-cons, take_at, drop_at, take-length}
use Rattle.base.specs.Put.{Puts}
use Rattle.score.specs.Token.{decimal}
use Rattle.score.proofs.Digits.{long_three}
use Rattle.base.proofs.Putting.{puts_long, puts_more, puts_same}
use Rattle.onetext.specs.Text.{line, line_end}
use Rattle.onetext.specs.Inner.{PutsFew, record_lines}
use Rattle.onetext.proofs.Along.{Along, along_long, along_on, along_end}

-- ---- a line

line_first : (ns : List ℕ) → 1 ≤ length ns → line ns ≡ decimal (get_or ns 0 0) ++ line_end (drop 1 ns)
unfolding line
line_first [] h = absurd (let w : ⊥ = omega arith in w)
line_first (n ∷ ns) h = refl

line_next : (ns : List ℕ) (k : ℕ) → k < length ns → line_end (drop k ns) ≡ ((32 ∷ []) ++ decimal (get_or ns k 0)) ++ line_end (drop (k + 1) ns)
unfolding line_end
line_next ns k h =
    ap line_end (drop-cons ns k 0 h) ∙ ap (λ (j : ℕ). ((32 ∷ []) ++ decimal (get_or ns k 0)) ++ line_end (drop j ns)) (sym (add-one k))

line_last : (ns : List ℕ) (k : ℕ) → length ns ≤ k → line_end (drop k ns) ≡ (10 ∷ []) ++ []
unfolding line_end
line_last ns k h = ap line_end (drop_of_length-le ns h)

-- after the first number: those of the rest before place k stand on the line
pub record Lining (old now ns : List ℕ) (at to k : ℕ) : Type 0 where
  pub along : Along old now (line_end ns) (line_end (drop k ns)) at to
  pub upto : k ≤ length ns
  pub few : to + (length ns - k) * 4 ≤ at + length ns * 4

module _ {old ns : List ℕ} {at : ℕ} (room : at + length ns * 4 + 1 ≤ length old) where
  module _ {now : List ℕ} {to k : ℕ} (l : Lining old now ns at to k) where
    lining_long : length now ≡ length old
    lining_long = along_long l.along

    pub next_room : (n : ℕ) → n < 256 → k < length ns → to + length ((32 ∷ []) ++ decimal n) ≤ length now
    next_room n h t = let d = long_three n (omega arith) in let f = l.few in let e = lining_long in omega arith

    pub rest_on : {new : List ℕ} {more n : ℕ} → n ≡ get_or ns k 0 → n < 256 → k < length ns → Puts now new to more ((32 ∷ []) ++ decimal n)
        → Lining old new ns at more (k + 1)
    rest_on {new} {more} {n} e h t p =
        let d = long_three n (omega arith) in
        let f = l.few in
        record {
          along = along_on l.along (line_end (drop (k + 1) ns))
              (line_next ns k t ∙ ap (λ (x : ℕ). ((32 ∷ []) ++ decimal x) ++ line_end (drop (k + 1) ns)) (sym e)) (omega arith) p;
          upto = omega arith;
          few = let q = p.after in omega arith;
        }

    pub rest_done : length ns ≤ k → {new : List ℕ} {r : ℕ} → Puts now new to r (10 ∷ []) → PutsFew old new at r (length ns * 4 + 1) (line_end ns)
    rest_done t p =
        let f = l.few in
        record { puts = along_end (along_on l.along [] (line_last ns k t) (omega arith) p) refl; few = let q = p.after in omega arith }

-- the rest, as the code lends it
pub all_rest : (ns : List ℕ) → take (length ns - 1) (drop 1 ns) ≡ drop 1 ns
all_rest ns = ap (λ (j : ℕ). take j (drop 1 ns)) (sym (length-drop 1 ns)) ∙ take-length (drop 1 ns)

-- the first number, and the rest
module _ (ns : List ℕ) (n : ℕ) {old mid : List ℕ} {at to : ℕ} (some : 1 ≤ length ns) (room : at + length ns * 4 ≤ length old) (small : n < 256)
    (p : Puts old mid at to (decimal n)) where
  pub rest_room : to + length (drop 1 ns) * 4 + 1 ≤ length mid
  rest_room =
      let d = long_three n (omega arith) in
      let l = puts_long (omega arith) p in
      let q = p.after in
      let e = length-drop 1 ns in
      omega arith

  pub line_puts : n ≡ get_or ns 0 0 → {new : List ℕ} {r : ℕ} → PutsFew mid new to r (length (drop 1 ns) * 4 + 1) (line_end (drop 1 ns))
      → PutsFew old new at r (length ns * 4) (line ns)
  line_puts e {new} {r} b =
      let d = long_three n (omega arith) in
      let q = p.after in
      let f = b.few in
      let g = length-drop 1 ns in
      record {
        puts = puts_same (ap (λ (x : ℕ). decimal x ++ line_end (drop 1 ns)) e ∙ sym (line_first ns some)) (puts_more (omega arith) p b.puts);
        few = omega arith;
      }

-- ---- a line for each record

records_next : (bytes part rest : List ℕ) (n : ℕ) → bytes ≡ part ++ rest → length part ≡ 5 → record_lines (suc n) bytes ≡ line part ++ record_lines n rest
unfolding record_lines
records_next bytes part rest n e h =
    ap₂ (λ (x y : List ℕ). line x ++ record_lines n y) (ap (take 5) e ∙ take_at part rest 5 h) (ap (drop 5) e ∙ drop_at part rest 5 h)

records_last : (bytes : List ℕ) (n : ℕ) → n ≡ 0 → record_lines n bytes ≡ []
unfolding record_lines
records_last bytes n e = ap (λ (j : ℕ). record_lines j bytes) e

-- the first records have their lines, and `left` more stand at the start of the rest
pub record Recorded (old now bytes : List ℕ) (n at to : ℕ) (rest : List ℕ) (left : ℕ) : Type 0 where
  pub along : Along old now (record_lines n bytes) (record_lines left rest) at to
  pub some : left * 5 ≤ length rest
  pub few : to + left * 20 ≤ at + n * 20

module _ {old now bytes rest : List ℕ} {n at to left : ℕ} (room : at + n * 20 ≤ length old) (l : Recorded old now bytes n at to rest left) where
  pub recorded_long : length now ≡ length old
  recorded_long = along_long l.along

  module _ (part after : List ℕ) (less : ℕ) (e : rest ≡ part ++ after) (five : length part ≡ 5) (c : left ≡ less + 1) where
    pub record_on : {new : List ℕ} {more : ℕ} → PutsFew now new to more (length part * 4) (line part) → Recorded old new bytes n at more after less
    record_on p =
        let f = l.few in
        let g = p.few in
        let q = p.puts.after in
        let s = l.some in
        let d = ap length e ∙ length-append part after in
        let w = recorded_long in
        record {
          along = along_on l.along (record_lines less after)
              (ap (λ (j : ℕ). record_lines j rest) (c ∙ add-one less) ∙ records_next rest part after less e five) (omega arith) p.puts;
          some = omega arith;
          few = omega arith;
        }

  pub record_done : (0 < left → length rest < 5) → Puts old now at to (record_lines n bytes)
  record_done h = along_end l.along (records_last rest left (let s = l.some in grind arith))
