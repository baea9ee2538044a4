-- Two changes of a record, one after the other, are a move.
use mathlib.Core.Path.{◌≡◌, refl, sym, ap, ◌∙◌, subst}
use mathlib.Core.Bool.{true, ◌&&◌}
use mathlib.Core.List.{List, [], ◌∷◌, ◌++◌}
use Prim.Native.Nat.{ℕ, ◌+◌, ◌-◌, ◌*◌, ◌<◌, ◌≤◌}
use native.Mathlib.Omega.{arith}
use native.Mathlib.Decide.{ℕ_discrete}
use borrow.Author.Tests.{eqb-true, eqb-false, ltb-true, not-true}
use lib.Dec.{eqb, leb}
use lib.ListN.{length, get_or, length-set, length-append, length-drop, length-take}
use lib.Seq.{get_or-set_other, get_or-set_same, set_comm}
use Rattle.base.specs.Words.{listed}
use Rattle.card.specs.Card.{is_card, is_value, code_of}
use Rattle.card.specs.declared.Card.{Card}
use Rattle.card.specs.Suit.{suit_number}
use Rattle.card.specs.declared.Suit.{Suit}
use Rattle.card.proofs.Codes.{code_is_card}
use Rattle.base.proofs.Words.{first, second, length-listed}
use Rattle.board.specs.Table.{Table, pile, held}
use Rattle.board.specs.Record.{room, shown}
use Rattle.board.specs.Inner.{GoodColumns}
use Rattle.board.specs.declared.Board.{Board}
use Rattle.board.proofs.Soundness.{column_length}
use Rattle.board.proofs.Tables.{cell_empty, cell_card}
use Rattle.board.specs.Fair.{Seats, Fair}
use Rattle.board.proofs.Fair.{shows_fair, fair_laid}
use Rattle.questions.proofs.Asking.{shown_column, shown_foundation}
use Rattle.moves.specs.Move.{from, to, count, card, is_place, sayable}
use Rattle.moves.specs.declared.Place.{Place}
use Rattle.moves.specs.declared.Place.TheVariants.{Column as column, Cell as cell, Home as home}
use Rattle.moves.specs.Play.{there, cell_code, put, last_of, others_of, hand, without, after_move, cell_free}
use Rattle.moves.specs.declared.Move.{Move}
use Rattle.moves.specs.declared.Move.TheVariants.{TableauToTableau, TableauToFoundation, TableauToFreeCell, FreeCellToTableau, FreeCellToFoundation, FoundationToTableau}
use Rattle.moves.proofs.Keeping.{seats_put}
use Rattle.moves.proofs.Allowing.{Allowed, allowed_is, one_card}
use Rattle.moves.proofs.Fairness.{fair_after}
use Rattle.play.specs.Change.{Becomes, Ready}

-- ---- a fair table that a record shows, with good columns, is a sound record's

pub count-there : (b : Board) → GoodColumns b.counts b.tableau → (i : ℕ) → i < 8 → length (there (shown b) (column i)) ≡ get_or b.counts i 0
count-there b g i h = ap length (sym (shown_column b i h)) ∙ column_length g i h

-- no column of a fair table is over its room
fair_short : (t : Table) → Fair t → (i : ℕ) → i < 8 → length (there t (column i)) ≤ room
fair_short t f i h = (fair_laid t f).short i h

module _ {b : Board} {m : Move} (r : Ready b m) where
  abbrev t : Table
  t = shown b

  table_fair : Fair t
  table_fair = shows_fair r.sound

  tests : Allowed t m
  tests = allowed_is t m r.allows

  after_fair : Fair (after_move t m)
  after_fair = fair_after t m table_fair r.said r.allows

  from-there : is_place (from m) ≡ true
  unfolding sayable
  from-there = first (is_place (from m)) _ r.said

  to-there : is_place (to m) ≡ true
  unfolding sayable
  to-there = first (is_place (to m)) _ (second (is_place (from m)) _ r.said)

  card_value : is_value (card m).value ≡ true
  unfolding sayable
  card_value = second (leb 1 (count m) && leb (count m) 255) (is_value (card m).value) (second (is_place (to m)) _ (second (is_place (from m)) _ r.said))

-- ---- two columns

module _ (t : Table) (s d : ℕ) (other : s ≡ d → ⊥) where
  there_other : (l : List ℕ) → there (put t (column d) l) (column s) ≡ there t (column s)
  there_other l = get_or-set_other t.columns d s l [] other

  there_back : (l : List ℕ) → there (put t (column s) l) (column d) ≡ there t (column d)
  there_back l = get_or-set_other t.columns s d l [] (λ q. other (sym q))

  puts_commute : (k l : List ℕ) → put (put t (column d) l) (column s) k ≡ put (put t (column s) k) (column d) l
  puts_commute k l =
      ap (λ (c : List (List ℕ)). record { cells = t.cells; foundation = t.foundation; columns = c })
      (set_comm t.columns d s l k (λ q. other (sym q)))

module _ {b : Board} {s d n : ℕ} {c : Card} (r : Ready b (TableauToTableau s d n c)) where
  abbrev tb : Table
  tb = shown b

  pub run_source : s < 8
  run_source = ltb-true s 8 (from-there r)

  pub run_target : d < 8
  run_target = ltb-true d 8 (to-there r)

  pub run_other : s ≡ d → ⊥
  run_other = eqb-false s d (not-true (eqb s d) (tests r).away)

  pub run_enough : n ≤ get_or b.counts s 0
  run_enough = let e = (tests r).enough in let k = count-there b r.sound.in_columns s run_source in omega arith

  hand_long : length (hand tb (TableauToTableau s d n c)) ≡ n
  unfolding hand last_of
  hand_long = length-drop (length (there tb (column s)) - n) (there tb (column s)) ∙ (let e = (tests r).enough in omega arith)

  pub run_fits : get_or b.counts d 0 + n ≤ room
  unfolding after_move without
  run_fits =
      let m = TableauToTableau s d n c in
      let f = fair_short (after_move tb m) (after_fair r) d run_target in
      let k = count-there b r.sound.in_columns d run_target in
      let e = ap length (get_or-set_same (without tb m).columns d (there (without tb m) (column d) ++ hand tb m) []
      (let z = length-set tb.columns s (others_of n (there tb (column s))) in let y = (table_fair r).seats.eight in let x = run_target in omega arith)) in
      let a = length-append (there (without tb m) (column d)) (hand tb m) in
      let h = hand_long in
      let o = ap length (there_back tb s d run_other (others_of n (there tb (column s)))) in
      omega arith

  pub run_again : {r1 : Board} → Becomes r1 (put tb (column d) (there tb (column d) ++ last_of n (there tb (column s)))) → n ≤ get_or r1.counts s 0
  run_again {r1} e =
      let k = count-there r1 e.good s run_source in
      let a = ap (λ (x : Table). length (there x (column s))) e.shows in
      let o = ap length (there_other tb s d run_other (there tb (column d) ++ last_of n (there tb (column s)))) in
      let w = (tests r).enough in
      omega arith

  pub run_played : {r1 r2 : Board} → Becomes r1 (put tb (column d) (there tb (column d) ++ last_of n (there tb (column s))))
      → Becomes r2 (put (shown r1) (column s) (others_of n (there (shown r1) (column s)))) → Becomes r2 (after_move tb (TableauToTableau s d n c))
  unfolding after_move without hand
  run_played {r1} {r2} e f =
      let x = there tb (column d) ++ last_of n (there tb (column s)) in
      record {
        shows = f.shows
            ∙ ap (λ (u : Table). put u (column s) (others_of n (there u (column s)))) e.shows
            ∙ ap (λ (l : List ℕ). put (put tb (column d) x) (column s) (others_of n l)) (there_other tb s d run_other x)
            ∙ puts_commute tb s d run_other (others_of n (there tb (column s))) x
            ∙ ap (λ (l : List ℕ). put (put tb (column s) (others_of n (there tb (column s)))) (column d) (l ++ last_of n (there tb (column s))))
            (sym (there_back tb s d run_other (others_of n (there tb (column s)))));
        good = f.good;
      }

-- ---- taken up first, then put down

seats_without : (t : Table) (m : Move) → Seats t → Seats (without t m)
unfolding without
seats_without t m s = seats_put t (from m) (others_of (count m) (there t (from m))) s

module _ (b : Board) (m : Move) {r1 : Board} (e : Becomes r1 (without (shown b) m)) where
  -- the second change makes the move whole
  pub second_step : {r2 : Board} (l : List ℕ) → l ≡ there (without (shown b) m) (to m) ++ hand (shown b) m → Becomes r2 (put (shown r1) (to m) l)
      → Becomes r2 (after_move (shown b) m)
  unfolding after_move
  second_step l q f =
      record {
        shows = f.shows ∙ ap (λ (u : Table). put u (to m) l) e.shows ∙ ap (put (without (shown b) m) (to m)) q;
        good = f.good;
      }

  -- a column that takes one card more has room for it
  pub step_room : Ready b m → (d : ℕ) → d < 8 → to m ≡ column d → length (hand (shown b) m) ≡ 1 → get_or r1.counts d 0 < room
  unfolding after_move
  step_room r d h q one =
      let u = without (shown b) m in
      let l = there u (column d) ++ hand (shown b) m in
      let whole : Fair (put u (column d) l) = subst (λ (p : Place). Fair (put u p (there u p ++ hand (shown b) m))) q (after_fair r) in
      let f = fair_short (put u (column d) l) whole d h in
      let g = ap length (get_or-set_same u.columns d l [] (let x = (seats_without (shown b) m (table_fair r).seats).eight in omega arith)) in
      let a = length-append (there u (column d)) (hand (shown b) m) in
      let k = count-there r1 e.good d h in
      let z = ap (λ (x : Table). length (there x (column d))) e.shows in
      omega arith

-- ---- the five kinds of one card

module _ (t : Table) (i : ℕ) where
  -- a cell that gave its card is empty
  pub cell_given : cell_code (others_of 1 (there t (cell i))) ≡ 255
  unfolding others_of
  cell_given = by_side (ℕ_discrete (get_or t.cells i 0) 255)
    where
      by_side : Dec (get_or t.cells i 0 ≡ 255) → cell_code (others_of 1 (held (get_or t.cells i 0 ∷ []))) ≡ 255
      by_side (yes q) = rw (cell_empty (get_or t.cells i 0) q)
      by_side (no d) = rw (cell_card (get_or t.cells i 0) d)

  -- a free cell that takes a card holds it
  pub cell_taken : (x : ℕ) → get_or t.cells i 0 ≡ 255 → cell_code (there t (cell i) ++ (x ∷ [])) ≡ x
  cell_taken x e = rw (cell_empty (get_or t.cells i 0) e)

module _ (t : Table) (s : ℕ) where
  pub pile_given : length (others_of 1 (there t (home s))) ≡ get_or t.foundation s 0 - 1
  unfolding others_of pile
  pile_given =
      let n = get_or t.foundation s 0 in
      let l = length-listed (λ v. (v + 1) * 16 + s) n in
      length-take (length (listed n (λ v. (v + 1) * 16 + s)) - 1) (listed n (λ v. (v + 1) * 16 + s)) ∙ (omega arith)

  pub pile_taken : (x : ℕ) → get_or t.foundation s 0 + 1 ≡ length (there t (home s) ++ (x ∷ []))
  unfolding pile
  pile_taken x =
      let n = get_or t.foundation s 0 in
      let l = length-listed (λ v. (v + 1) * 16 + s) n in
      let a = length-append (listed n (λ v. (v + 1) * 16 + s)) (x ∷ []) in
      omega arith

  pub pile_some : 1 ≤ length (there t (home s)) → 1 ≤ get_or t.foundation s 0
  unfolding pile
  pile_some h = let l = length-listed (λ v. (v + 1) * 16 + s) (get_or t.foundation s 0) in omega arith

-- ---- the second step, by where it goes

module _ (b : Board) (m : Move) {r1 : Board} (e : Becomes r1 (without (shown b) m)) (x : ℕ) (one : hand (shown b) m ≡ x ∷ []) where
  abbrev u : Table
  u = without (shown b) m

  foundation_there : u.foundation ≡ r1.foundation
  foundation_there = sym (ap (λ (y : Table). y.foundation) e.shows) ∙ sym (shown_foundation r1)

  pub home_step : {r2 : Board} (k : ℕ) → to m ≡ home k
      → ((l : List ℕ) → get_or r1.foundation k 0 + 1 ≡ length l → Becomes r2 (put (shown r1) (home k) l)) → Becomes r2 (after_move (shown b) m)
  home_step {r2} k q f =
      let l = there u (home k) ++ (x ∷ []) in
      second_step b m e l (ap (λ (p : Place). there u p ++ (x ∷ [])) (sym q) ∙ ap (λ (h : List ℕ). there u (to m) ++ h) (sym one))
      (subst (λ (p : Place). Becomes r2 (put (shown r1) p l)) (sym q)
      (f l (ap (λ (c : List ℕ). get_or c k 0 + 1) (sym foundation_there) ∙ pile_taken u k x)))

  pub cell_step : {r2 : Board} (i : ℕ) → to m ≡ cell i → get_or u.cells i 0 ≡ 255
      → ((l : List ℕ) → x ≡ cell_code l → Becomes r2 (put (shown r1) (cell i) l)) → Becomes r2 (after_move (shown b) m)
  cell_step {r2} i q free f =
      let l = there u (cell i) ++ (x ∷ []) in
      second_step b m e l (ap (λ (p : Place). there u p ++ (x ∷ [])) (sym q) ∙ ap (λ (h : List ℕ). there u (to m) ++ h) (sym one))
      (subst (λ (p : Place). Becomes r2 (put (shown r1) p l)) (sym q) (f l (sym (cell_taken u i x free))))

  pub column_step : {r2 : Board} (d : ℕ) → to m ≡ column d
      → Becomes r2 (put (shown r1) (column d) (there (shown r1) (column d) ++ (x ∷ []))) → Becomes r2 (after_move (shown b) m)
  column_step {r2} d q f =
      second_step b m e (there (shown r1) (column d) ++ (x ∷ []))
      (ap (λ (y : Table). there y (column d) ++ (x ∷ [])) e.shows ∙ ap (λ (p : Place). there u p ++ (x ∷ [])) (sym q) ∙ ap (λ (h : List ℕ). there u (to m) ++ h) (sym one))
      (subst (λ (p : Place). Becomes r2 (put (shown r1) p (there (shown r1) (column d) ++ (x ∷ [])))) (sym q) f)

-- ---- what each kind needs

module _ {b : Board} {m : Move} (r : Ready b m) where
  pub value_of : is_value (card m).value ≡ true
  value_of = card_value r

  pub is_card_of : is_card (code_of (card m)) ≡ true
  is_card_of = code_is_card (card m) (card_value r)

  pub in_hand : count m ≡ 1 → hand (shown b) m ≡ code_of (card m) ∷ []
  in_hand e = one_card (shown b) m (tests r) e

  pub column_from : (i : ℕ) → from m ≡ column i → i < 8
  column_from i q = ltb-true i 8 (subst (λ (p : Place). is_place p ≡ true) q (from-there r))

  pub cell_from : (i : ℕ) → from m ≡ cell i → i < 4
  cell_from i q = ltb-true i 4 (subst (λ (p : Place). is_place p ≡ true) q (from-there r))

  pub column_to : (i : ℕ) → to m ≡ column i → i < 8
  column_to i q = ltb-true i 8 (subst (λ (p : Place). is_place p ≡ true) q (to-there r))

  pub cell_to : (i : ℕ) → to m ≡ cell i → i < 4
  cell_to i q = ltb-true i 4 (subst (λ (p : Place). is_place p ≡ true) q (to-there r))

  pub one_there : (i : ℕ) → from m ≡ column i → 1 ≤ get_or b.counts i 0
  one_there i q =
      let k = count-there b r.sound.in_columns i (column_from i q) in
      let s = subst (λ (p : Place). 1 ≤ length (there (shown b) p)) q (tests r).some in
      omega arith

  pub home-there : (k : ℕ) → from m ≡ home k → 1 ≤ get_or b.foundation k 0
  home-there k q =
      subst (λ (f : List ℕ). 1 ≤ get_or f k 0) (sym (shown_foundation b))
      (pile_some (shown b) k (subst (λ (p : Place). 1 ≤ length (there (shown b) p)) q (tests r).some))

  pub cell_is_free : (i : ℕ) → to m ≡ cell i → get_or (shown b).cells i 0 ≡ 255
  cell_is_free i q = eqb-true (get_or (shown b).cells i 0) 255 (subst (λ (p : Place). cell_free (shown b) p ≡ true) q (tests r).free)

-- ---- the move that a match tells

pub ready_for : {b : Board} {m n : Move} → Ready b m → m ≡ n → Ready b n
ready_for {b} r e = subst (Ready b) e r

pub played_as : {b r : Board} {m n : Move} → Ready b m → m ≡ n → Becomes r (after_move (shown b) n) → Becomes r (after_move (shown b) m)
played_as {b} {r} p e d = subst (λ (m : Move). Becomes r (after_move (shown b) m)) (sym e) d

-- ---- each kind of one card, step by step

module _ {b r1 : Board} {s : ℕ} {c : Card} (r : Ready b (TableauToFoundation s c))
    (f : Becomes r1 (put (shown b) (column s) (others_of 1 (there (shown b) (column s))))) where
  taken_2 : Becomes r1 (without (shown b) (TableauToFoundation s c))
  unfolding without
  taken_2 = f

  pub played_2 : {r2 : Board} → ((l : List ℕ) → get_or r1.foundation (suit_number c.suit) 0 + 1 ≡ length l → Becomes r2 (put (shown r1) (home (suit_number c.suit)) l))
      → Becomes r2 (after_move (shown b) (TableauToFoundation s c))
  played_2 g = home_step b (TableauToFoundation s c) taken_2 (code_of c) (in_hand r refl) (suit_number c.suit) refl g

module _ {b r1 : Board} {s i : ℕ} {c : Card} (r : Ready b (TableauToFreeCell s i c))
    (f : Becomes r1 (put (shown b) (column s) (others_of 1 (there (shown b) (column s))))) where
  taken_3 : Becomes r1 (without (shown b) (TableauToFreeCell s i c))
  unfolding without
  taken_3 = f

  pub played_3 : {r2 : Board} {x : ℕ} → x ≡ code_of c → ((l : List ℕ) → x ≡ cell_code l → Becomes r2 (put (shown r1) (cell i) l))
      → Becomes r2 (after_move (shown b) (TableauToFreeCell s i c))
  unfolding without
  played_3 q g = cell_step b (TableauToFreeCell s i c) taken_3 (code_of c) (in_hand r refl) i refl (cell_is_free r i refl) (λ l e. g l (q ∙ e))

module _ {b r1 : Board} {i d : ℕ} {c : Card} (r : Ready b (FreeCellToTableau i d c)) (f : (l : List ℕ) → 255 ≡ cell_code l → Becomes r1 (put (shown b) (cell i) l)) where
  taken_4 : Becomes r1 (without (shown b) (FreeCellToTableau i d c))
  unfolding without
  taken_4 = f (others_of 1 (there (shown b) (cell i))) (sym (cell_given (shown b) i))

  pub room_4 : get_or r1.counts d 0 < room
  room_4 = step_room b (FreeCellToTableau i d c) taken_4 r d (column_to r d refl) refl (ap length (in_hand r refl))

  pub played_4 : {r2 : Board} {x : ℕ} → x ≡ code_of c → Becomes r2 (put (shown r1) (column d) (there (shown r1) (column d) ++ (x ∷ [])))
      → Becomes r2 (after_move (shown b) (FreeCellToTableau i d c))
  played_4 {r2} {x} q g = column_step b (FreeCellToTableau i d c) taken_4 x (in_hand r refl ∙ ap (λ (y : ℕ). y ∷ []) (sym q)) d refl g

module _ {b r1 : Board} {i : ℕ} {c : Card} (r : Ready b (FreeCellToFoundation i c)) (f : (l : List ℕ) → 255 ≡ cell_code l → Becomes r1 (put (shown b) (cell i) l)) where
  taken_5 : Becomes r1 (without (shown b) (FreeCellToFoundation i c))
  unfolding without
  taken_5 = f (others_of 1 (there (shown b) (cell i))) (sym (cell_given (shown b) i))

  pub played_5 : {r2 : Board} → ((l : List ℕ) → get_or r1.foundation (suit_number c.suit) 0 + 1 ≡ length l → Becomes r2 (put (shown r1) (home (suit_number c.suit)) l))
      → Becomes r2 (after_move (shown b) (FreeCellToFoundation i c))
  played_5 g = home_step b (FreeCellToFoundation i c) taken_5 (code_of c) (in_hand r refl) (suit_number c.suit) refl g

module _ {b r1 : Board} {s : Suit} {d : ℕ} {c : Card} (r : Ready b (FoundationToTableau s d c))
    (f : (l : List ℕ) → get_or b.foundation (suit_number s) 0 - 1 ≡ length l → Becomes r1 (put (shown b) (home (suit_number s)) l)) where
  taken_6 : Becomes r1 (without (shown b) (FoundationToTableau s d c))
  unfolding without
  taken_6 =
      f (others_of 1 (there (shown b) (home (suit_number s))))
      (ap (λ (l : List ℕ). get_or l (suit_number s) 0 - 1) (shown_foundation b) ∙ sym (pile_given (shown b) (suit_number s)))

  pub room_6 : get_or r1.counts d 0 < room
  room_6 = step_room b (FoundationToTableau s d c) taken_6 r d (column_to r d refl) refl (ap length (in_hand r refl))

  pub played_6 : {r2 : Board} {x : ℕ} → x ≡ code_of c → Becomes r2 (put (shown r1) (column d) (there (shown r1) (column d) ++ (x ∷ [])))
      → Becomes r2 (after_move (shown b) (FoundationToTableau s d c))
  played_6 {r2} {x} q g = column_step b (FoundationToTableau s d c) taken_6 x (in_hand r refl ∙ ap (λ (y : ℕ). y ∷ []) (sym q)) d refl g
