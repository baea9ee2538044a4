-- T2 and T3: two masters never disagree, and larger settings keep what was won or exhausted and never lower the best progress.
use mathlib.Core.Path.{◌≡◌, refl, sym, ap, ◌∙◌, subst}
use mathlib.Core.Bool.{Bool, true, false, cond}
use mathlib.Core.List.{List, ◌∷◌}
use mathlib.Core.Logic.{◌⊎◌, inl, inr}
use Prim.Native.Nat.{ℕ, ◌+◌, ◌-◌, ◌≤◌}
use native.Mathlib.Omega.{arith}
use borrow.Author.Tests.{ltb-true}
use lib.Dec.{ltb}
use Rattle.search.specs.Game.{Game, Laws, among}
use Rattle.search.specs.Solve.{Perhaps, some, Node, State, End, won, limit, exhausted, out_of_nodes_at, Answer}
use Rattle.search.specs.Solve.{at_limit, when_exhausted, best_exhausted, better, start, child_of, dropped, bearing, taken, run, brings, best_at_limit, progressed, answer, solve_as, solve}
use Rattle.search.specs.Claims.{is_best_at_limit, is_best}
use Rattle.search.proofs.Numbers.{limit_said_lem, not_at_limit, not_best}
use Rattle.search.proofs.Later.{Fixed, stays, goes_on}
use Rattle.search.proofs.Kept.{EndKept, kept}
use Rattle.search.proofs.Lines.{Fine, BestFine, best_fine}

module _ (G : Game) where
  -- ---- two runs that are won or exhausted are one

  pub one_end : (a c x y : ℕ) (s : State G) → Fixed G (run G a c s) → Fixed G (run G x y s) → run G a c s ≡ run G x y s
  one_end a c x y s f g =
      let h : c ≤ c + y = omega arith in
      let k : y ≤ c + y = omega arith in
      sym (stays G h a (a + x) (omega arith) s f) ∙ stays G k x (a + x) (omega arith) s g

  -- ---- what the numbers say of an end

  abbrev pub is_fixed : ℕ → Type 0
  is_fixed n = (n ≡ 0) ⊎ ((n ≡ 2) ⊎ (n ≡ 4))

  not_stuck : is_fixed 23 → ⊥
  not_stuck (inl e) = omega arith
  not_stuck (inr (inl e)) = omega arith
  not_stuck (inr (inr e)) = omega arith

  -- no best-progress list at the limit is won or exhausted
  not_fixed : {n : ℕ} → is_best_at_limit n → is_fixed n → ⊥
  not_fixed (inl e) (inl f) = omega arith
  not_fixed (inl e) (inr (inl f)) = omega arith
  not_fixed (inl e) (inr (inr f)) = omega arith
  not_fixed (inr e) (inl f) = omega arith
  not_fixed (inr e) (inr (inl f)) = omega arith
  not_fixed (inr e) (inr (inr f)) = omega arith

  limit_number : (t : Bool) (s : State G) → is_fixed (progressed G t (best_at_limit G s) at_limit s).number → ⊥
  limit_number true s f = not_fixed (limit_said_lem (G.won s.best.board) refl) f
  limit_number false s (inl e) = omega arith
  limit_number false s (inr (inl e)) = omega arith
  limit_number false s (inr (inr e)) = omega arith

  fixed_end : (partial : Bool) (e : End G) → is_fixed (answer G partial e).number → Fixed G e
  fixed_end partial (won l p) f = tt
  fixed_end partial (limit s) f = limit_number (brings G partial s) s f
  fixed_end partial (exhausted s) f = tt
  fixed_end partial (out_of_nodes_at p) f = not_stuck f

  exhausted_number : {A : Type 0} (t : Bool) (s : State G) → (progressed G t best_exhausted when_exhausted s).number ≡ 0 → A
  exhausted_number true s e = absurd (let w : ⊥ = omega arith in w)
  exhausted_number false s e = absurd (let w : ⊥ = omega arith in w)

  -- a won end has its list whatever the flag
  won_list : (p q : Bool) (e : End G) → (answer G p e).number ≡ 0 → (answer G p e).list ≡ (answer G q e).list
  won_list p q (won l n) e = refl
  won_list p q (limit s) e = absurd (limit_number (brings G p s) s (inl e))
  won_list p q (exhausted s) e = exhausted_number (brings G p s) s e
  won_list p q (out_of_nodes_at n) e = absurd (let w : ⊥ = omega arith in w)

  won_or_exhausted : (p q : Bool) (e : End G) → (answer G p e).number ≡ 0 → ((answer G q e).number ≡ 2) ⊎ ((answer G q e).number ≡ 4) → ⊥
  won_or_exhausted p q (won l n) e (inl f) = omega arith
  won_or_exhausted p q (won l n) e (inr f) = omega arith
  won_or_exhausted p q (limit s) e f = limit_number (brings G p s) s (inl e)
  won_or_exhausted p q (exhausted s) e f = exhausted_number (brings G p s) s e
  won_or_exhausted p q (out_of_nodes_at n) e f = omega arith

  module _ (b : G.Board) where
    same_won : (a c x y : ℕ) (p q w : Bool) → (solve_as G w b a c p).number ≡ 0 → (solve_as G w b x y q).number ≡ 0
        → (solve_as G w b a c p).list ≡ (solve_as G w b x y q).list
    same_won a c x y p q true e f = refl
    same_won a c x y p q false e f =
        let same = one_end a c x y (start G b) (fixed_end p (run G a c (start G b)) (inl e)) (fixed_end q (run G x y (start G b)) (inl f)) in
        won_list p q (run G a c (start G b)) e ∙ ap (λ (r : End G). (answer G q r).list) same

    -- T2: no two winning lists
    pub one_winning_list : (a c x y : ℕ) (p q : Bool) → (solve G b a c p).number ≡ 0 → (solve G b x y q).number ≡ 0
        → (solve G b a c p).list ≡ (solve G b x y q).list
    unfolding solve
    one_winning_list a c x y p q e f = same_won a c x y p q (G.won b) e f

    apart : (a c x y : ℕ) (p q w : Bool) → (solve_as G w b a c p).number ≡ 0
        → ((solve_as G w b x y q).number ≡ 2) ⊎ ((solve_as G w b x y q).number ≡ 4) → ⊥
    apart a c x y p q true e (inl f) = omega arith
    apart a c x y p q true e (inr f) = omega arith
    apart a c x y p q false e f =
        let same = one_end a c x y (start G b) (fixed_end p (run G a c (start G b)) (inl e)) (fixed_end q (run G x y (start G b)) (inr f)) in
        won_or_exhausted p q (run G x y (start G b)) (sym (ap (λ (r : End G). (answer G p r).number) same) ∙ e) f

    -- T2: not won in one and exhausted in the other
    pub not_won_and_exhausted : (a c x y : ℕ) (p q : Bool) → (solve G b a c p).number ≡ 0
        → ((solve G b x y q).number ≡ 2) ⊎ ((solve G b x y q).number ≡ 4) → ⊥
    unfolding solve
    not_won_and_exhausted a c x y p q e f = apart a c x y p q (G.won b) e f

    larger : (a c x y : ℕ) (p w : Bool) → a ≤ x → c ≤ y → is_fixed (solve_as G w b a c p).number → solve_as G w b x y p ≡ solve_as G w b a c p
    larger a c x y p true h k f = refl
    larger a c x y p false h k f = ap (answer G p) (stays G k a x h (start G b) (fixed_end p (run G a c (start G b)) f))

    -- T3: won and exhausted stay, with list and count, under larger settings
    pub larger_settings : (a c x y : ℕ) (p : Bool) → a ≤ x → c ≤ y → is_fixed (solve G b a c p).number → solve G b x y p ≡ solve G b a c p
    unfolding solve
    larger_settings a c x y p h k f = larger a c x y p (G.won b) h k f

  -- ---- best progress

  module _ (k : ℕ) where
    abbrev AtLeast : State G → Type 0
    AtLeast s = k ≤ G.progress s.best.board

    rise : (t : Bool) (m best : Node G) → ltb (G.progress best.board) (G.progress m.board) ≡ t
        → k ≤ G.progress best.board → k ≤ G.progress (cond t m best).board
    rise true m best e h = let l = ltb-true (G.progress best.board) (G.progress m.board) e in omega arith
    rise false m best e h = h

    taking : (s : State G) (n : Node G) (l : List (Node G)) → s.waiting ≡ n ∷ l → AtLeast s → AtLeast (taken G l s) × Unit {0}
    unfolding taken
    taking s n l e h = (h, tt)

    child_more : (n : Node G) (c : G.Move) (s : State G) → Unit {0} → among c (G.candidates n.board)
        → dropped G (child_of G n c s) s ≡ false → AtLeast s → AtLeast (bearing G (child_of G n c s) s)
    unfolding bearing better
    child_more n c s f i e h = rise (ltb (G.progress s.best.board) (G.progress (child_of G n c s).board)) (child_of G n c s) s.best refl h

    abbrev GrewTo : End G → Type 0
    GrewTo (won l p) = Unit {0}
    GrewTo (limit s) = AtLeast s
    GrewTo (exhausted s) = AtLeast s
    GrewTo (out_of_nodes_at p) = Unit {0}

    grew : (e : End G) → EndKept G AtLeast (λ n. Unit {0}) taking child_more e → GrewTo e
    grew (won l p) q = tt
    grew (limit s) q = q
    grew (exhausted s) q = q
    grew (out_of_nodes_at p) q = tt

    grows : (a c : ℕ) (s : State G) → AtLeast s → GrewTo (run G a c s)
    grows a c s h = grew (run G a c s) (kept G AtLeast (λ n. Unit {0}) taking child_more a c s h)

  -- a search at its limit, and a larger one of the same board that has a best board too
  module _ {a c x y : ℕ} (h : a ≤ x) (k : c ≤ y) (s u : State G) (small : run G a c s ≡ limit u) where
    reached : GrewTo (G.progress u.best.board) (run G x y s)
    reached = subst (GrewTo (G.progress u.best.board)) (sym (goes_on G k a x h s u small)) (grows (G.progress u.best.board) (x - a) y u (omega arith))

    pub limit_grows : (v : State G) → run G x y s ≡ limit v → G.progress u.best.board ≤ G.progress v.best.board
    limit_grows v e = subst (GrewTo (G.progress u.best.board)) e reached

    pub exhausted_grows : (v : State G) → run G x y s ≡ exhausted v → G.progress u.best.board ≤ G.progress v.best.board
    exhausted_grows v e = subst (GrewTo (G.progress u.best.board)) e reached

-- ---- best progress, as it is answered

module _ (G : Game) (L : Laws G) (b : G.Board) (good : L.Good b) where
  -- the board that a best-progress list leads to
  best_board : (s : State G) (t : Bool) (x y : ℕ) (l : List G.Move) (c : G.Board) → Fine G L b s.best
      → (progressed G t x y s).list ≡ some l → L.Leads b l c → G.progress c ≡ G.progress s.best.board
  best_board s true x y l c f e h =
      let same : s.best.line ≡ l = cc in
      ap G.progress (L.one_end h (subst (λ (m : List G.Move). L.Leads b m s.best.board) same f.leads))
  best_board s false x y l c f e h = let z : ◌≡◌ {A = ℕ} 0 1 = cc in absurd (let w : ⊥ = omega arith in w)

  module _ {a c x y : ℕ} (h : a ≤ x) (k : c ≤ y) (p : Bool) (l m : List G.Move) (d e : G.Board) (leads : L.Leads b l d) (leads' : L.Leads b m e) where
    last : (u : State G) → run G a c (start G b) ≡ limit u → (answer G p (limit u)).list ≡ some l → (r : End G) → run G x y (start G b) ≡ r
        → is_best (answer G p r).number → (answer G p r).list ≡ some m → G.progress d ≤ G.progress e
    last u small q (won n i) large j t = absurd (not_best {n = 0} (λ z. omega arith) (λ z. omega arith) (λ z. omega arith) j)
    last u small q (limit v) large j t =
        let g = limit_grows G h k (start G b) u small v large in
        let f = best_board u (brings G p u) (best_at_limit G u) at_limit l d (subst (BestFine G L b) small (best_fine G L b good a c)) q leads in
        let f' = best_board v (brings G p v) (best_at_limit G v) at_limit m e (subst (BestFine G L b) large (best_fine G L b good x y)) t leads' in
        omega arith
    last u small q (exhausted v) large j t =
        let g = exhausted_grows G h k (start G b) u small v large in
        let f = best_board u (brings G p u) (best_at_limit G u) at_limit l d (subst (BestFine G L b) small (best_fine G L b good a c)) q leads in
        let f' = best_board v (brings G p v) best_exhausted when_exhausted m e (subst (BestFine G L b) large (best_fine G L b good x y)) t leads' in
        omega arith
    last u small q (out_of_nodes_at n) large j t = absurd (not_best {n = 23} (λ z. omega arith) (λ z. omega arith) (λ z. omega arith) j)

    first : (r : End G) → run G a c (start G b) ≡ r → is_best_at_limit (answer G p r).number → (answer G p r).list ≡ some l
        → is_best (answer G p (run G x y (start G b))).number
        → (answer G p (run G x y (start G b))).list ≡ some m → G.progress d ≤ G.progress e
    first (won n i) small j q large t = absurd (not_at_limit {n = 0} (λ z. omega arith) (λ z. omega arith) j)
    first (limit u) small j q large t = last u small q (run G x y (start G b)) refl large t
    first (exhausted u) small j q large t = two_or_four (brings G p u) u j
      where
        two_or_four : (v : Bool) (u : State G) → is_best_at_limit (progressed G v best_exhausted when_exhausted u).number → G.progress d ≤ G.progress e
        two_or_four true u j = absurd (not_at_limit {n = 2} (λ z. omega arith) (λ z. omega arith) j)
        two_or_four false u j = absurd (not_at_limit {n = 4} (λ z. omega arith) (λ z. omega arith) j)
    first (out_of_nodes_at n) small j q large t = absurd (not_at_limit {n = 23} (λ z. omega arith) (λ z. omega arith) j)

    by_start : (w : Bool) → is_best_at_limit (solve_as G w b a c p).number → (solve_as G w b a c p).list ≡ some l
        → is_best (solve_as G w b x y p).number → (solve_as G w b x y p).list ≡ some m → G.progress d ≤ G.progress e
    by_start true j q large t = absurd (not_at_limit {n = 0} (λ z. omega arith) (λ z. omega arith) j)
    by_start false j q large t = first (run G a c (start G b)) refl j q large t

    -- T3: where both bring a best-progress list, the score of the last board is no lower under the larger settings
    pub progress_grows : is_best_at_limit (solve G b a c p).number → (solve G b a c p).list ≡ some l
        → is_best (solve G b x y p).number → (solve G b x y p).list ≡ some m → G.progress d ≤ G.progress e
    unfolding solve
    progress_grows j q large t = by_start (G.won b) j q large t

    -- T3: the same where the smaller settings were exhausted
    pub never_lower : is_best (solve G b a c p).number → (solve G b a c p).list ≡ some l
        → is_best (solve G b x y p).number → (solve G b x y p).list ≡ some m → G.progress d ≤ G.progress e
    never_lower (inl j) q large t = progress_grows j q large t
    never_lower (inr j) q large t =
        let same = ap (λ (r : Answer G). r.list) (larger_settings G b a c x y p h k (inr (inl j))) in
        let one : m ≡ l = same_line (sym t ∙ same ∙ q) in
        let end : d ≡ e = L.one_end leads (subst (λ (n : List G.Move). L.Leads b n e) one leads') in
        let f = ap G.progress end in
        omega arith
      where
        same_line : {l m : List G.Move} → ◌≡◌ {A = Perhaps (List G.Move)} (some m) (some l) → m ≡ l
        same_line e = cc
