-- What a season that is given fulfils, and what `season` leaves.
use Rattle.std.specs.Prelude.{Err, Ok, Result}
use mathlib.Core.Path.{◌≡◌, refl, sym, ap, ◌∙◌}
use mathlib.Core.Bool.{Bool, true, ◌&&◌}
use mathlib.Core.List.{List, ◌++◌}
use Prim.Native.Nat.{ℕ, ◌≤◌}
use native.Mathlib.Omega.{arith}
use borrow.Author.Tests.{leb-true}
use lib.Dec.{leb}
use lib.ListN.{length, take, drop}
use lib.Seq.{length-take-le}
use Rattle.base.specs.Answer.{Answer, given, refused, unless}
use Rattle.base.specs.Blank.{blank}
use Rattle.base.specs.Put.{over}
use Rattle.base.proofs.Answers.{given_by}
use Rattle.base.proofs.Clearing.{blank_same}
use Rattle.base.proofs.Words.{first, second}
use Rattle.board.specs.Verdict.{fine}
use Rattle.board.specs.Refusal.{number_of, answered}
use Rattle.board.specs.declared.Refusal.{Refusal}
use Rattle.intake.specs.Number.{is_number}
use Rattle.memory.specs.declared.Room.{Room}
use Rattle.solver.specs.Capacity.{entries_of}
use Rattle.sheets.specs.Over.{Settings, sheet_over, between}
use Rattle.sheets.specs.Promises.{said_of}
use Rattle.season.specs.Season.{Lent, settings_in, filled, left_by, result_of, season_asked, season_in}
use Rattle.season.specs.Inner.{settings_of, Accepts, Leaves}

-- ---- a season that is given

pub record Given (from to : ℕ) (s : Settings) (words : ℕ) (x : List ℕ) : Type 0 where
  pub begins : is_number from ≡ true
  pub ends : is_number to ≡ true
  pub cheap : s.budget ≤ 1000000
  pub wide : 716 ≤ words
  pub some : 1 ≤ s.capacity
  pub sheet : x ≡ sheet_over s (result_of s) (between from to)

pub given_is : (from to : ℕ) (s : Settings) (words : ℕ) (x : List ℕ) → season_asked from to s words ≡ given x → Given from to s words x
unfolding season_asked
given_is from to s words x q =
    let sheet : Answer (List ℕ) = given (sheet_over s (result_of s) (between from to)) in
    let u = given_by (is_number from && is_number to) 41 (unless (leb s.budget 1000000) 20 (unless (leb 716 words) 21 (unless (leb 1 s.capacity) 22 sheet))) q in
    let v = given_by (leb s.budget 1000000) 20 (unless (leb 716 words) 21 (unless (leb 1 s.capacity) 22 sheet)) u.1 in
    let w = given_by (leb 716 words) 21 (unless (leb 1 s.capacity) 22 sheet) v.1 in
    let y = given_by (leb 1 s.capacity) 22 sheet w.1 in
    record {
      begins = first (is_number from) (is_number to) u.0;
      ends = second (is_number from) (is_number to) u.0;
      cheap = leb-true s.budget 1000000 v.0;
      wide = leb-true 716 words w.0;
      some = leb-true 1 s.capacity y.0;
      sheet = let z = y.1 in cc;
    }

-- ---- what is said tells whether it is given

said_no : (a : Answer (List ℕ)) (n : ℕ) → refused n ≡ said_of a → a ≡ refused n
said_no (given x) n e = let z : ◌≡◌ {A = ℕ} 0 1 = cc in absurd (let w : ⊥ = omega arith in w)
said_no (refused m) n e = cc

said_yes : (a : Answer (List ℕ)) → fine ≡ said_of a → (x : List ℕ) × (a ≡ given x)
said_yes (given x) e = (x, refl)
said_yes (refused m) e = let z : ◌≡◌ {A = ℕ} 0 1 = cc in absurd (let w : ⊥ = omega arith in w)

-- ---- what is left

module _ (old : Lent) (from to budget : ℕ) (partial : Bool) {capacity : ℕ} {e : Result (Unit {0}) Refusal} (q : capacity ≡ (settings_in old budget partial).capacity)
    (a : Accepts from to budget capacity (length old.sheet) e) where
  told_here : answered e ≡ said_of (season_in old from to budget partial)
  unfolding season_in
  told_here = a.told partial ∙ ap (λ (c : ℕ). said_of (season_asked from to (settings_of budget c partial) (length old.sheet))) q

  pub leaves_refused : {why : Refusal} → e ≡ Err why → Leaves old old from to budget partial (Err why)
  leaves_refused {why} r =
      let t = ap answered (sym r) ∙ told_here in
      record { said = t; left = sym (ap (left_by old) (said_no (season_in old from to budget partial) (number_of why) t)) }

  pub leaves_given : (n h k c : List ℕ) {room : Room} {n' h' k' c' words : List ℕ} → e ≡ Ok tt → room ≡ record { capacity = capacity; entries = entries_of capacity }
      → words ≡ sheet_over (settings_of budget room.capacity partial) (result_of (settings_of budget room.capacity partial)) (between from to)
      → length words ≡ length (take 716 old.sheet)
      → length n ≡ length old.nodes → n' ≡ blank n → length h ≡ length old.heap → h' ≡ blank h
      → length k ≡ length old.keys → k' ≡ blank k → length c ≡ length old.costs → c' ≡ blank c
      → Leaves old (record { nodes = n'; heap = h'; keys = k'; costs = c'; sheet = words ++ drop 716 old.sheet }) from to budget partial (Ok tt)
  unfolding season_in over
  leaves_given n h k c {room} {n'} {h'} {k'} {c'} {words} r y w l ln bn lh bh lk bk lc bc =
      record {
        said = t;
        left = same ∙ sym (ap (left_by old) (is.1 ∙ ap given known.sheet));
      }
    where
      t : fine ≡ said_of (season_in old from to budget partial)
      t = ap answered (sym r) ∙ told_here

      is : (x : List ℕ) × (season_in old from to budget partial ≡ given x)
      is = said_yes (season_in old from to budget partial) t

      known : Given from to (settings_in old budget partial) (length old.sheet) is.0
      known = given_is from to (settings_in old budget partial) (length old.sheet) is.0 is.1

      the_sheet : words ≡ sheet_over (settings_in old budget partial) (result_of (settings_in old budget partial)) (between from to)
      the_sheet =
          w ∙ ap (λ (x : ℕ). sheet_over (settings_of budget x partial) (result_of (settings_of budget x partial)) (between from to)) (ap (λ (x : Room). x.capacity) y ∙ q)

      long : length words ≡ 716
      long = l ∙ length-take-le 716 old.sheet known.wide

      in_room : words ++ drop 716 old.sheet ≡ over words old.sheet
      in_room = ap (λ (x : ℕ). words ++ drop x old.sheet) (sym long)

      same : record { nodes = n'; heap = h'; keys = k'; costs = c'; sheet = words ++ drop 716 old.sheet }
          ≡ filled old (sheet_over (settings_in old budget partial) (result_of (settings_in old budget partial)) (between from to))
      same =
          let u = bn ∙ blank_same n old.nodes ln in
          let v = bh ∙ blank_same h old.heap lh in
          let x = bk ∙ blank_same k old.keys lk in
          let z = bc ∙ blank_same c old.costs lc in
          let s = in_room ∙ ap (λ (p : List ℕ). over p old.sheet) the_sheet in
          cc
