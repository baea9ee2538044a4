-- A record of which one column is changed shows the table with that column changed.
use mathlib.Core.Path.{◌≡◌, refl, sym, ap, ◌∙◌, subst}
use mathlib.Core.Bool.{true}
use mathlib.Core.List.{List, [], ◌∷◌, ◌++◌}
use Prim.Native.Nat.{ℕ, ◌+◌, ◌-◌, ◌*◌, ◌<◌, ◌≤◌}
use native.Mathlib.Omega.{arith}
use native.Mathlib.Decide.{ℕ_discrete, dec_lt}
use lib.ListN.{length, get_or, take, drop, set, length-set, length-append, length-take, length-drop, take-append-drop, get_or-eq_default, get_or-append}
use lib.Seq.{ext_get_or, get_or-set_same, get_or-set_other, get_or-append_seam, get_or-append-add, get_or-take, get_or-drop}
use Rattle.base.specs.Words.{all, listed}
use Rattle.card.specs.Card.{is_card}
use Rattle.base.proofs.Words.{first, second, all_at, all_by, all_append, both, length-listed, get_or-listed}
use Rattle.board.specs.Record.{room, column_at, shown, laid, tableau_room}
use Rattle.board.specs.Inner.{GoodColumns}
use Rattle.board.specs.declared.Board.{Board}
use Rattle.board.proofs.Soundness.{column_length, column_code}
use Rattle.questions.proofs.Asking.{shown_column}
use Rattle.moves.specs.declared.Place.TheVariants.{Column as column, Cell as cell, Home as home}
use Rattle.moves.specs.Play.{put, there, others_of, last_of, cell_code}
use Rattle.play.specs.Change.{Becomes, Cleared, Copied}

one_card : (x : ℕ) → is_card x ≡ true → all is_card (x ∷ []) ≡ true
unfolding all
one_card x e = both e refl

module _ {counts tableau : List ℕ} (g : GoodColumns counts tableau) (i : ℕ) (h : i < 8) (l : List ℕ) (short : length l ≤ room) (cards : all is_card l ≡ true)
    (n : ℕ) (many : n ≡ length l) (T : List ℕ) (full : length T ≡ tableau_room)
    (here : (j : ℕ) → j < room → get_or T (i * room + j) 0 ≡ get_or l j 0)
    (others : (k j : ℕ) → k < 8 → (k ≡ i → ⊥) → j < room → get_or T (k * room + j) 0 ≡ get_or tableau (k * room + j) 0) where
  count_here : get_or (set counts i n) i 0 ≡ length l
  count_here = get_or-set_same counts i n 0 (let e = g.eight in omega arith) ∙ many

  count_other : (k : ℕ) → (k ≡ i → ⊥) → get_or (set counts i n) k 0 ≡ get_or counts k 0
  count_other k d = get_or-set_other counts i k n 0 d

  pub good_changed : GoodColumns (set counts i n) T
  good_changed =
      record {
        eight = length-set counts i n ∙ g.eight;
        full = full;
        within = λ k b. within_by k b (ℕ_discrete k i);
        codes = λ k j b c. codes_by k j b c (ℕ_discrete k i);
        spare = λ k j b c d. spare_by k j b c d (ℕ_discrete k i);
      }
    where
      at_i : (k : ℕ) → k ≡ i → get_or (set counts i n) k 0 ≡ length l
      at_i k q = ap (λ (m : ℕ). get_or (set counts i n) m 0) q ∙ count_here

      within_by : (k : ℕ) → k < 8 → Dec (k ≡ i) → get_or (set counts i n) k 0 ≤ room
      within_by k b (yes q) = let e = at_i k q in omega arith
      within_by k b (no d) = let e = count_other k d in let w = g.within k b in omega arith

      codes_by : (k j : ℕ) → k < 8 → j < get_or (set counts i n) k 0 → Dec (k ≡ i) → is_card (get_or T (k * room + j) 0) ≡ true
      codes_by k j b c (yes q) =
          let e = at_i k q in
          subst (λ (m : ℕ). is_card (get_or T (m * room + j) 0) ≡ true) (sym q)
          (subst (λ (x : ℕ). is_card x ≡ true) (sym (here j (omega arith))) (all_at is_card l cards j (omega arith)))
      codes_by k j b c (no d) =
          let e = count_other k d in
          let w = g.within k b in
          subst (λ (x : ℕ). is_card x ≡ true) (sym (others k j b d (omega arith))) (g.codes k j b (omega arith))

      spare_by : (k j : ℕ) → k < 8 → get_or (set counts i n) k 0 ≤ j → j < room → Dec (k ≡ i) → get_or T (k * room + j) 0 ≡ 0
      spare_by k j b c d (yes q) =
          let e = at_i k q in
          ap (λ (m : ℕ). get_or T (m * room + j) 0) q ∙ here j d ∙ get_or-eq_default l 0 (omega arith)
      spare_by k j b c d (no z) = let e = count_other k z in others k j b z d ∙ g.spare k j b (omega arith) d

  column_here : column_at (set counts i n) T i ≡ l
  column_here =
      let e = column_length good_changed i h in
      let c = count_here in
      ext_get_or 0 (column_at (set counts i n) T i) l (e ∙ c)
      (λ j b. column_code (set counts i n) T i j (omega arith) ∙ here j (omega arith))

  column_other : (k : ℕ) → k < 8 → (k ≡ i → ⊥) → column_at (set counts i n) T k ≡ column_at counts tableau k
  column_other k b d =
      let e = column_length good_changed k b in
      let c = count_other k d in
      let f = column_length g k b in
      let w = g.within k b in
      ext_get_or 0 (column_at (set counts i n) T k) (column_at counts tableau k) (omega arith)
      (λ j m. column_code (set counts i n) T k j (omega arith) ∙ others k j b d (omega arith) ∙ sym (column_code counts tableau k j (omega arith)))

  pub columns_changed : listed 8 (column_at (set counts i n) T) ≡ set (listed 8 (column_at counts tableau)) i l
  columns_changed =
      let a = length-listed (column_at (set counts i n) T) 8 in
      let c = length-listed (column_at counts tableau) 8 in
      ext_get_or [] (listed 8 (column_at (set counts i n) T)) (set (listed 8 (column_at counts tableau)) i l)
      (a ∙ sym (length-set (listed 8 (column_at counts tableau)) i l ∙ c))
      (λ k b. get_or-listed (column_at (set counts i n) T) 8 k [] (omega arith) ∙ by_side k (omega arith) (ℕ_discrete k i))
    where
      by_side : (k : ℕ) → k < 8 → Dec (k ≡ i) → column_at (set counts i n) T k ≡ get_or (set (listed 8 (column_at counts tableau)) i l) k []
      by_side k b (yes q) =
          ap (column_at (set counts i n) T) q ∙ column_here
          ∙ sym (ap (λ (m : ℕ). get_or (set (listed 8 (column_at counts tableau)) i l) m []) q
          ∙ get_or-set_same (listed 8 (column_at counts tableau)) i l [] (let c = length-listed (column_at counts tableau) 8 in omega arith))
      by_side k b (no d) =
          column_other k b d
          ∙ sym (get_or-set_other (listed 8 (column_at counts tableau)) i k l [] d ∙ get_or-listed (column_at counts tableau) 8 k [] b)

-- the record with that column
module _ (b : Board) (g : GoodColumns b.counts b.tableau) (i : ℕ) (h : i < 8) (l : List ℕ) (short : length l ≤ room) (cards : all is_card l ≡ true)
    (n : ℕ) (many : n ≡ length l) (T : List ℕ) (full : length T ≡ tableau_room)
    (here : (j : ℕ) → j < room → get_or T (i * room + j) 0 ≡ get_or l j 0)
    (others : (k j : ℕ) → k < 8 → (k ≡ i → ⊥) → j < room → get_or T (k * room + j) 0 ≡ get_or b.tableau (k * room + j) 0) where
  pub becomes_column : Becomes (laid b.cells b.foundation (set b.counts i n) T) (put (shown b) (column i) l)
  unfolding shown
  becomes_column =
      record {
        shows = ap (λ (c : List (List ℕ)). record { cells = b.cells; foundation = b.foundation; columns = c })
            (columns_changed g i h l short cards n many T full here others);
        good = good_changed g i h l short cards n many T full here others;
      }

-- ---- one card more on a column

module _ (b : Board) (g : GoodColumns b.counts b.tableau) (i : ℕ) (h : i < 8) (less : get_or b.counts i 0 < room)
    (code : ℕ) (isc : is_card code ≡ true) (w : ℕ) (e : w ≡ get_or b.counts i 0) where
  abbrev col : List ℕ
  col = column_at b.counts b.tableau i

  abbrev lain : List ℕ
  lain = set b.tableau (i * room + w) code

  long : length (col ++ (code ∷ [])) ≡ w + 1
  long = length-append col (code ∷ []) ∙ (let n = column_length g i h in omega arith)

  here_laid : (j : ℕ) → j < room → get_or lain (i * room + j) 0 ≡ get_or (col ++ (code ∷ [])) j 0
  here_laid j b0 = by_side (ℕ_discrete j w) (dec_lt j w)
    where
      by_side : Dec (j ≡ w) → Dec (j < w) → get_or lain (i * room + j) 0 ≡ get_or (col ++ (code ∷ [])) j 0
      by_side (yes q) d =
          ap (λ (k : ℕ). get_or lain (i * room + k) 0) q ∙ get_or-set_same b.tableau (i * room + w) code 0 (let f = g.full in omega arith)
          ∙ sym (ap (λ (k : ℕ). get_or (col ++ (code ∷ [])) k 0) (q ∙ e ∙ sym (column_length g i h)) ∙ get_or-append_seam col code [] 0)
      by_side (no q) (yes d) =
          get_or-set_other b.tableau (i * room + w) (i * room + j) code 0 (λ z. q (let y : j ≡ w = omega arith in y))
          ∙ sym (get_or-append col (code ∷ []) 0 j (let n = column_length g i h in omega arith) ∙ column_code b.counts b.tableau i j (omega arith))
      by_side (no q) (no d) =
          get_or-set_other b.tableau (i * room + w) (i * room + j) code 0 (λ z. q (let y : j ≡ w = omega arith in y))
          ∙ g.spare i j h (omega arith) b0
          ∙ sym (get_or-eq_default (col ++ (code ∷ [])) 0 (let n = long in omega arith))

  pub becomes_laid : Becomes (laid b.cells b.foundation (set b.counts i (get_or b.counts i 0 + 1)) lain)
      (put (shown b) (column i) (there (shown b) (column i) ++ (code ∷ [])))
  becomes_laid =
      subst (λ (c : List ℕ). Becomes (laid b.cells b.foundation (set b.counts i (get_or b.counts i 0 + 1)) lain)
      (put (shown b) (column i) (c ++ (code ∷ []))))
      (shown_column b i h)
      (becomes_column b g i h (col ++ (code ∷ [])) (let n = long in omega arith) (all_append is_card col (code ∷ []) ∙ both column_cards (one_card code isc))
      (get_or b.counts i 0 + 1) (let n = long in omega arith) lain (length-set b.tableau (i * room + w) code ∙ g.full) here_laid
      (λ k j c d f. get_or-set_other b.tableau (i * room + w) (k * room + j) code 0 (λ z. d (let y : k ≡ i = omega arith in y))))
    where
      column_cards : all is_card col ≡ true
      column_cards = all_by is_card col (λ j m. let n = column_length g i h in
          subst (λ (x : ℕ). is_card x ≡ true) (sym (column_code b.counts b.tableau i j (omega arith))) (g.codes i j h (omega arith)))

-- ---- the top n cards gone

column_cards : {counts tableau : List ℕ} → GoodColumns counts tableau → (i : ℕ) → i < 8 → all is_card (column_at counts tableau i) ≡ true
column_cards {counts} {tableau} g i h =
    all_by is_card (column_at counts tableau i)
    (λ j m. let n = column_length g i h in
    subst (λ (x : ℕ). is_card x ≡ true) (sym (column_code counts tableau i j (omega arith))) (g.codes i j h (omega arith)))

module _ (b : Board) (g : GoodColumns b.counts b.tableau) (i : ℕ) (h : i < 8) (n : ℕ) (enough : n ≤ get_or b.counts i 0)
    (w : ℕ) (e : w ≡ get_or b.counts i 0) (T : List ℕ) (c : Cleared b.tableau T (i * room + (w - n)) n) where
  abbrev col' : List ℕ
  col' = column_at b.counts b.tableau i

  others_long : length (others_of n col') ≡ w - n
  unfolding others_of
  others_long = length-take (length col' - n) col' ∙ (let l = column_length g i h in omega arith)

  here_left : (j : ℕ) → j < room → get_or T (i * room + j) 0 ≡ get_or (others_of n col') j 0
  unfolding others_of
  here_left j b0 = by_side (dec_lt j (w - n)) (dec_lt j w)
    where
      by_side : Dec (j < w - n) → Dec (j < w) → get_or T (i * room + j) 0 ≡ get_or (take (length col' - n) col') j 0
      by_side (yes l) d =
          c.below (i * room + j) (omega arith)
          ∙ sym (get_or-take (length col' - n) col' j 0 (let m = column_length g i h in omega arith) ∙ column_code b.counts b.tableau i j (omega arith))
      by_side (no l) (yes d) =
          ap (λ (p : ℕ). get_or T p 0) (let q : i * room + j ≡ i * room + (w - n) + (j - (w - n)) = omega arith in q)
          ∙ c.zero (j - (w - n)) (omega arith)
          ∙ sym (get_or-eq_default (take (length col' - n) col') 0 (let o = length-take (length col' - n) col' in let m = column_length g i h in omega arith))
      by_side (no l) (no d) =
          c.above (i * room + j) (omega arith) ∙ g.spare i j h (omega arith) b0
          ∙ sym (get_or-eq_default (take (length col' - n) col') 0 (let o = length-take (length col' - n) col' in let m = column_length g i h in omega arith))

  elsewhere-left : (k j : ℕ) → k < 8 → (k ≡ i → ⊥) → j < room → get_or T (k * room + j) 0 ≡ get_or b.tableau (k * room + j) 0
  elsewhere-left k j a d f = let within = g.within i h in by_side (dec_lt k i)
    where
      by_side : Dec (k < i) → get_or T (k * room + j) 0 ≡ get_or b.tableau (k * room + j) 0
      by_side (yes l) = let within = g.within i h in c.below (k * room + j) (omega arith)
      by_side (no l) = let within = g.within i h in c.above (k * room + j) (let m : i < k = omega arith in omega arith)

  others_cards : all is_card (others_of n col') ≡ true
  unfolding others_of
  others_cards =
      first (all is_card (take (length col' - n) col')) (all is_card (drop (length col' - n) col'))
      (sym (all_append is_card (take (length col' - n) col') (drop (length col' - n) col')) ∙ ap (all is_card) (take-append-drop (length col' - n) col') ∙ column_cards g i h)

  pub becomes_dropped : Becomes (laid b.cells b.foundation (set b.counts i (w - n)) T)
      (put (shown b) (column i) (others_of n (there (shown b) (column i))))
  becomes_dropped =
      subst (λ (l : List ℕ). Becomes (laid b.cells b.foundation (set b.counts i (w - n)) T)
      (put (shown b) (column i) (others_of n l)))
      (shown_column b i h)
      (becomes_column b g i h (others_of n col') (let o = others_long in let m = g.within i h in omega arith) others_cards (w - n) (sym others_long) T
      (c.long ∙ g.full) here_left elsewhere-left)

-- ---- a run once more on another column

module _ (b : Board) (g : GoodColumns b.counts b.tableau) (s d : ℕ) (hs : s < 8) (hd : d < 8) (n : ℕ) (enough : n ≤ get_or b.counts s 0)
    (fits : get_or b.counts d 0 + n ≤ room) (v : ℕ) (ev : v ≡ get_or b.counts s 0) (w : ℕ) (ew : w ≡ get_or b.counts d 0)
    (T : List ℕ) (c : Copied b.tableau T (s * room + (v - n)) (d * room + w) n) where
  abbrev source : List ℕ
  source = column_at b.counts b.tableau s

  abbrev target : List ℕ
  target = column_at b.counts b.tableau d

  run_long : length (last_of n source) ≡ n
  unfolding last_of
  run_long = length-drop (length source - n) source ∙ (let l = column_length g s hs in omega arith)

  both_long : length (target ++ last_of n source) ≡ w + n
  both_long = length-append target (last_of n source) ∙ (let r = run_long in let l = column_length g d hd in omega arith)

  run_code : (k : ℕ) → k < n → get_or (last_of n source) k 0 ≡ get_or b.tableau (s * room + (v - n) + k) 0
  unfolding last_of
  run_code k l =
      let m = column_length g s hs in
      get_or-drop (length source - n) source k 0
      ∙ column_code b.counts b.tableau s (length source - n + k) (omega arith)
      ∙ ap (λ (p : ℕ). get_or b.tableau p 0) (let q : s * room + (length source - n + k) ≡ s * room + (v - n) + k = omega arith in q)

  here_run : (j : ℕ) → j < room → get_or T (d * room + j) 0 ≡ get_or (target ++ last_of n source) j 0
  here_run j b0 = by_side (dec_lt j w) (dec_lt j (w + n))
    where
      by_side : Dec (j < w) → Dec (j < w + n) → get_or T (d * room + j) 0 ≡ get_or (target ++ last_of n source) j 0
      by_side (yes l) a =
          c.below (d * room + j) (omega arith)
          ∙ sym (get_or-append target (last_of n source) 0 j (let m = column_length g d hd in omega arith) ∙ column_code b.counts b.tableau d j (omega arith))
      by_side (no l) (yes a) =
          let m = column_length g d hd in
          ap (λ (p : ℕ). get_or T p 0) (let q : d * room + j ≡ d * room + w + (j - w) = omega arith in q)
          ∙ c.same (j - w) (omega arith) ∙ sym (run_code (j - w) (omega arith))
          ∙ sym (ap (λ (p : ℕ). get_or (target ++ last_of n source) p 0) (let q : j ≡ length target + (j - w) = omega arith in q)
          ∙ get_or-append-add target (last_of n source) (j - w) 0)
      by_side (no l) (no a) =
          c.above (d * room + j) (omega arith) ∙ g.spare d j hd (omega arith) b0
          ∙ sym (get_or-eq_default (target ++ last_of n source) 0 (let o = both_long in omega arith))

  elsewhere_run : (k j : ℕ) → k < 8 → (k ≡ d → ⊥) → j < room → get_or T (k * room + j) 0 ≡ get_or b.tableau (k * room + j) 0
  elsewhere_run k j a z f = by_side (dec_lt k d)
    where
      by_side : Dec (k < d) → get_or T (k * room + j) 0 ≡ get_or b.tableau (k * room + j) 0
      by_side (yes l) = c.below (k * room + j) (omega arith)
      by_side (no l) = c.above (k * room + j) (let m : d < k = omega arith in omega arith)

  run_cards : all is_card (last_of n source) ≡ true
  unfolding last_of
  run_cards =
      second (all is_card (take (length source - n) source)) (all is_card (drop (length source - n) source))
      (sym (all_append is_card (take (length source - n) source) (drop (length source - n) source)) ∙ ap (all is_card) (take-append-drop (length source - n) source) ∙ column_cards g s hs)

  pub becomes_run : Becomes (laid b.cells b.foundation (set b.counts d (w + n)) T)
      (put (shown b) (column d) (there (shown b) (column d) ++ last_of n (there (shown b) (column s))))
  becomes_run =
      subst (λ (l : List ℕ). Becomes (laid b.cells b.foundation (set b.counts d (w + n)) T)
      (put (shown b) (column d) (l ++ last_of n (there (shown b) (column s)))))
      (shown_column b d hd)
      (subst (λ (l : List ℕ). Becomes (laid b.cells b.foundation (set b.counts d (w + n)) T)
      (put (shown b) (column d) (target ++ last_of n l)))
      (shown_column b s hs)
      (becomes_column b g d hd (target ++ last_of n source) (let o = both_long in omega arith)
      (all_append is_card target (last_of n source) ∙ both (column_cards g d hd) run_cards) (w + n) (sym both_long) T
      (c.long ∙ g.full) here_run elsewhere_run))

-- ---- a cell or a foundation changed

module _ (b : Board) (g : GoodColumns b.counts b.tableau) where
  pub becomes_cell : (i code : ℕ) (l : List ℕ) → code ≡ cell_code l
      → Becomes (laid (set b.cells i code) b.foundation b.counts b.tableau) (put (shown b) (cell i) l)
  unfolding shown
  becomes_cell i code l e =
      record { shows = ap (λ (x : ℕ). record { cells = set b.cells i x; foundation = b.foundation; columns = listed 8 (column_at b.counts b.tableau) }) e; good = g }

  pub becomes_home : (s n : ℕ) {F : List ℕ} → F ≡ set b.foundation s n → (l : List ℕ) → n ≡ length l
      → Becomes (laid b.cells F b.counts b.tableau) (put (shown b) (home s) l)
  unfolding shown
  becomes_home s n f l e =
      record {
        shows = ap (λ (x : List ℕ). record { cells = b.cells; foundation = x; columns = listed 8 (column_at b.counts b.tableau) })
            (f ∙ ap (set b.foundation s) e);
        good = g;
      }
