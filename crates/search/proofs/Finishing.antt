-- What answer 5 becomes with more budget and room. A won board that is best stays best, so that its line is brought again at the limit and
-- after exhaustion; and a run that has borne a won node is exhausted only if one that is not won took its place in what is known.
use mathlib.Core.Path.{◌≡◌, refl, sym, ap, ◌∙◌, subst}
use mathlib.Core.Bool.{Bool, true, false, cond, not, ◌&&◌}
use mathlib.Core.List.{List, [], ◌∷◌}
use mathlib.Core.Logic.{◌⊎◌, inl, inr}
use Prim.Native.Nat.{ℕ, zero, suc, ◌-◌, ◌≤◌}
use native.Mathlib.Omega.{arith}
use borrow.Author.Tests.{eq-eqb, le-ltb}
use lib.Dec.{eqb, leb, ltb}
use Rattle.base.proofs.Words.{true_or_not}
use Rattle.search.specs.Game.{Game, Laws, among}
use Rattle.search.specs.Solve.{Perhaps, some, Node, State, Grown, out_of_nodes, grown, End, won, limit, exhausted, out_of_nodes_at, Turn, over, again, Answer}
use Rattle.search.specs.Solve.{MAX_DEPTH, at_limit, when_exhausted, best_exhausted, best_said, cost, differs, before, queued, learned, better, start, child_of, dropped, bearing, no_room, born_as, bear, then_grow, expand, grown_turn, visit_as, visit, taken, onward, stopped, go_on, run, brings, best_at_limit, progressed, answer, solve_as, solve}
use Rattle.search.specs.Claims.{Expanded, BornAmong, Borne, Clash, Becomes, won_then, still, no_room_then, exhausted_then}
use Rattle.search.proofs.Numbers.{said_won}
use Rattle.search.proofs.Striking.{two_or_four}
use Rattle.search.proofs.Kept.{EndKept, kept}
use Rattle.search.proofs.Later.{goes_on}
use Rattle.search.proofs.Lines.{Fine, Sane, takes, bears, start_sane}

-- ---- a won best stays best

module _ (G : Game) (L : Laws G) (b : G.Board) (n : Node G) (wins : G.won n.board ≡ true) where
  record Holds (s : State G) : Type 0 where
    sane : Sane G L b s
    best : s.best ≡ n

  takes_best : (s : State G) (m : Node G) (l : List (Node G)) → s.waiting ≡ m ∷ l → Holds s → Holds (taken G l s) × Fine G L b m
  unfolding taken
  takes_best s m l e h = let t = takes G L b s m l e h.sane in (record { sane = t.0; best = h.best }, t.1)

  not_better : (m best : Node G) → L.Good m.board → L.Good best.board → best ≡ n → better G m best ≡ n
  unfolding better
  not_better m best g f e =
      let most = L.won_most best.board m.board f g (ap (λ (k : Node G). G.won k.board) e ∙ wins) in
      ap (λ (t : Bool). cond t m best) (le-ltb (G.progress best.board) (G.progress m.board) most) ∙ e

  bears_best : (m : Node G) (k : G.Move) (s : State G) → Fine G L b m → among k (G.candidates m.board)
      → dropped G (child_of G m k s) s ≡ false → Holds s → Holds (bearing G (child_of G m k s) s)
  unfolding bearing child_of
  bears_best m k s f i d h =
      record {
        sane = bears G L b m k s f i d h.sane;
        best = not_better (child_of G m k s) s.best (L.child_good m.board k f.good i) h.sane.best.good h.best;
      }

  abbrev BestIs : End G → Type 0
  BestIs (won l p) = Unit {0}
  BestIs (limit s) = s.best ≡ n
  BestIs (exhausted s) = s.best ≡ n
  BestIs (out_of_nodes_at p) = Unit {0}

  end_best : (e : End G) → EndKept G Holds (Fine G L b) takes_best bears_best e → BestIs e
  end_best (won l p) q = tt
  end_best (limit s) q = q.best
  end_best (exhausted s) q = q.best
  end_best (out_of_nodes_at p) q = tt

  best_stays : (a c : ℕ) (s : State G) → Sane G L b s → s.best ≡ n → BestIs (run G a c s)
  best_stays a c s h e =
      end_best (run G a c s) (kept G Holds (Fine G L b) takes_best bears_best a c s (record { sane = h; best = e }))

-- ---- a won node that waits, and is what is known of its board

module _ (G : Game) (self : (b : G.Board) → G.same b b ≡ true) (Born : Node G → Type 0) where
  record Anchored (s : State G) : Type 0 where
    node : Node G
    waits : among node s.waiting
    current : differs (s.known node.board) (cost G node) ≡ false
    wins : G.won node.board ≡ true
    born : Born node

  -- where the best board is won there is such a node, or two boards have clashed
  abbrev Stands : State G → Type 0
  Stands s = G.won s.best.board ≡ true → Anchored s ⊎ Clash G Born

  -- ---- a birth

  queued_self : (m : Node G) (l : List (Node G)) → among m (queued G m l)
  unfolding queued
  queued_self m [] = inl refl
  queued_self m (n ∷ l) = by (before G m n) (queued_self m l)
    where
      by : (t : Bool) → among m (queued G m l) → among m (cond t (m ∷ n ∷ l) (n ∷ queued G m l))
      by true r = inl refl
      by false r = inr r

  queued_others : (m k : Node G) (l : List (Node G)) → among k l → among k (queued G m l)
  unfolding queued
  queued_others m k [] i = elim i [ ]
  queued_others m k (n ∷ l) i = by (before G m n) i (queued_others m k l)
    where
      by : (t : Bool) → among k (n ∷ l) → (among k l → among k (queued G m l)) → among k (cond t (m ∷ n ∷ l) (n ∷ queued G m l))
      by true i r = inr i
      by false (inl e) r = inl e
      by false (inr j) r = inr (r j)

  differs_own : (k : ℕ) → differs (some k) k ≡ false
  differs_own k = rw (eq-eqb k k refl)

  -- a won node that is born is what is known of its board
  anchored_born : (m : Node G) (s : State G) → G.won m.board ≡ true → Born m → Anchored (bearing G m s)
  unfolding bearing learned
  anchored_born m s w i =
      record {
        node = m;
        waits = queued_self m s.waiting;
        current = ap (λ (t : Bool). differs (cond t (some (cost G m)) (s.known m.board)) (cost G m)) (self m.board) ∙ differs_own (cost G m);
        wins = w;
        born = i;
      }

  -- another birth leaves a node what it is, or its board counts as the same
  still_anchored : (m : Node G) (s : State G) → G.won m.board ≡ false → Born m → (a : Anchored s) → Anchored (bearing G m s) ⊎ Clash G Born
  unfolding bearing learned
  still_anchored m s u i a = by (G.same a.node.board m.board) refl
    where
      by : (t : Bool) → G.same a.node.board m.board ≡ t → Anchored (bearing G m s) ⊎ Clash G Born
      by true e =
          inr (record { finished = a.node; other = m; finished_born = a.born; other_born = i; wins = a.wins; unwon = u; alike = e })
      by false e =
          inl (record {
            node = a.node;
            waits = queued_others m a.node s.waiting a.waits;
            current = ap (λ (t : Bool). differs (cond t (some (cost G m)) (s.known a.node.board)) (cost G a.node)) e ∙ a.current;
            wins = a.wins;
            born = a.born;
          })

  -- if the better of a node that is not won and the best is won, the best was
  best_before : (t : Bool) (m best : Node G) → G.won m.board ≡ false → G.won (cond t m best).board ≡ true → G.won best.board ≡ true
  best_before true m best u e = true_or_not (G.won m.board) e u
  best_before false m best u e = e

  was_won : (m : Node G) (s : State G) → G.won m.board ≡ false → G.won (bearing G m s).best.board ≡ true → G.won s.best.board ≡ true
  unfolding bearing better
  was_won m s u e = best_before (ltb (G.progress s.best.board) (G.progress m.board)) m s.best u e

  birth : (m : Node G) (s : State G) → Born m → Stands s → Stands (bearing G m s)
  birth m s i h e = by (G.won m.board) refl
    where
      so_far : G.won m.board ≡ false → Anchored s ⊎ Clash G Born → Anchored (bearing G m s) ⊎ Clash G Born
      so_far u (inl a) = still_anchored m s u i a
      so_far u (inr c) = inr c

      by : (t : Bool) → G.won m.board ≡ t → Anchored (bearing G m s) ⊎ Clash G Born
      by true w = inl (anchored_born m s w i)
      by false u = so_far u (h (was_won m s u e))

  -- ---- the children of a node

  abbrev GrownStands : Grown G → Type 0
  GrownStands out_of_nodes = Unit {0}
  GrownStands (grown s) = Stands s

  born_stands : (x y : Bool) (m : Node G) (s : State G) → (x ≡ false → y ≡ false → Born m) → Stands s → GrownStands (born_as G x y m s)
  born_stands true y m s i h = h
  born_stands false true m s i h = tt
  born_stands false false m s i h = birth m s (i refl refl) h

  grows : (c : ℕ) (n : Node G) (ks : List G.Move) (s : State G) → ((m : Node G) → BornAmong G c n ks s m → Born m) → Stands s
      → GrownStands (expand G c n ks s)
  unfolding expand bear
  grows c n [] s i h = h
  grows c n (k ∷ ks) s i h =
      first (grows c n ks) (bear G c n k s) refl
      (born_stands (dropped G (child_of G n k s) s) (no_room G c s) (child_of G n k s) s
      (λ p f. i (child_of G n k s) (record { earlier = []; move = k; later = ks; split = refl; state = s; grew = refl; passes = p; fits = f; made = refl })) h)
    where
      after : (u : State G) → bear G c n k s ≡ grown u → (m : Node G) → BornAmong G c n ks u m → BornAmong G c n (k ∷ ks) s m
      after u q m r =
          record {
            earlier = k ∷ r.earlier;
            move = r.move;
            later = r.later;
            split = ap (λ (l : List G.Move). k ∷ l) r.split;
            state = r.state;
            grew = ap (λ (g : Grown G). then_grow G g (expand G c n r.earlier)) q ∙ r.grew;
            passes = r.passes;
            fits = r.fits;
            made = r.made;
          }

      first : ((u : State G) → ((m : Node G) → BornAmong G c n ks u m → Born m) → Stands u → GrownStands (expand G c n ks u))
          → (g : Grown G) → bear G c n k s ≡ g → GrownStands g → GrownStands (then_grow G g (expand G c n ks))
      first rest out_of_nodes q p = tt
      first rest (grown u) q p = rest u (λ m r. i m (after u q m r)) p

  -- ---- a node that is taken

  -- one that is skipped or not won is not the one that stands
  taking : (n : Node G) (l : List (Node G)) (s : State G) → s.waiting ≡ n ∷ l
      → (differs (s.known n.board) (cost G n) ≡ true) ⊎ (G.won n.board ≡ false) → Stands s → Stands (taken G l s)
  unfolding taken
  taking n l s w unlike h e = so_far (h e)
    where
      other : (a : Anchored s) → among a.node (n ∷ l) → (differs (s.known n.board) (cost G n) ≡ true) ⊎ (G.won n.board ≡ false) → among a.node l
      other a (inl q) (inl d) = true_or_not (differs (s.known n.board) (cost G n)) d (subst (λ (k : Node G). differs (s.known k.board) (cost G k) ≡ false) q a.current)
      other a (inl q) (inr u) = true_or_not (G.won n.board) (subst (λ (k : Node G). G.won k.board ≡ true) q a.wins) u
      other a (inr i) x = i

      so_far : Anchored s ⊎ Clash G Born → Anchored (taken G l s) ⊎ Clash G Born
      so_far (inl a) =
          inl (record {
            node = a.node;
            waits = other a (subst (among a.node) w a.waits) unlike;
            current = a.current;
            wins = a.wins;
            born = a.born;
          })
      so_far (inr c) = inr c

  -- an exhausted run whose best board is won has had a clash
  abbrev Lost : End G → Type 0
  Lost (won l p) = Unit {0}
  Lost (limit s) = Unit {0}
  Lost (exhausted s) = G.won s.best.board ≡ true → Clash G Born
  Lost (out_of_nodes_at p) = Unit {0}

  abbrev TurnStands : Turn G → Type 0
  TurnStands (over e) = Lost e
  TurnStands (again s) = Stands s

  grown_stands : (p : ℕ) (g : Grown G) → GrownStands g → TurnStands (grown_turn G p g)
  grown_stands p out_of_nodes h = tt
  grown_stands p (grown s) h = h

  known_taken : (n : Node G) (l : List (Node G)) (s : State G) → differs ((taken G l s).known n.board) (cost G n) ≡ differs (s.known n.board) (cost G n)
  unfolding taken
  known_taken n l s = refl

  turned : (c : ℕ) (n : Node G) (l : List (Node G)) (s : State G) → s.waiting ≡ n ∷ l
      → (Expanded G n (taken G l s) → (m : Node G) → BornAmong G c n (G.candidates n.board) (taken G l s) m → Born m)
      → Stands s → TurnStands (visit G c n (taken G l s))
  unfolding visit
  turned c n l s w i h =
      by (differs ((taken G l s).known n.board) (cost G n)) (G.won n.board) (leb MAX_DEPTH (cost G n)) refl refl refl
    where
      by : (x v y : Bool) → differs ((taken G l s).known n.board) (cost G n) ≡ x → G.won n.board ≡ v → leb MAX_DEPTH (cost G n) ≡ y
          → TurnStands (visit_as G x v y c n (taken G l s))
      by true v y p q r = taking n l s w (inl (sym (known_taken n l s) ∙ p)) h
      by false true y p q r = tt
      by false false true p q r = taking n l s w (inr q) h
      by false false false p q r =
          grown_stands (taken G l s).pops (expand G c n (G.candidates n.board) (taken G l s))
          (grows c n (G.candidates n.board) (taken G l s) (i (record { current = p; unwon = q; shallow = r })) (taking n l s w (inr q) h))

  -- ---- a run that is exhausted

  -- nothing waits
  nothing_stands : (s : State G) → s.waiting ≡ [] → Stands s → Lost (exhausted s)
  nothing_stands s w h e = by (h e)
    where
      by : Anchored s ⊎ Clash G Born → Clash G Born
      by (inl a) = absurd (subst (among a.node) w a.waits)
      by (inr c) = c

  loses : (a c : ℕ) (s : State G) → ((m : Node G) → Borne G a c s m → Born m) → Stands s → Lost (run G a c s)
  unfolding run
  loses zero c s i h = at_rest s.waiting refl
    where
      at_rest : (l : List (Node G)) → s.waiting ≡ l → Lost (stopped G l s)
      at_rest [] w = nothing_stands s w h
      at_rest (n ∷ l) w = tt
  loses (suc a) c s i h = going (loses a c) s.waiting refl
    where
      -- a node that is born after a turn, or in it
      later : (n : Node G) (l : List (Node G)) → s.waiting ≡ n ∷ l → (u : State G) → visit G c n (taken G l s) ≡ again u
          → (m : Node G) → Borne G a c u m → Borne G (suc a) c s m
      later n l w u q m r =
          record {
            turns = suc r.turns;
            within = let h = r.within in omega arith;
            state = r.state;
            came = ap (λ (k : List (Node G)). go_on G c k s (run G r.turns c)) w ∙ ap (λ (t : Turn G). onward G t (run G r.turns c)) q ∙ r.came;
            node = r.node;
            rest = r.rest;
            next = r.next;
            expands = r.expands;
            bears = r.bears;
          }

      now_born : (n : Node G) (l : List (Node G)) → s.waiting ≡ n ∷ l → Expanded G n (taken G l s)
          → (m : Node G) → BornAmong G c n (G.candidates n.board) (taken G l s) m → Borne G (suc a) c s m
      now_born n l w x m r =
          record {
            turns = 0;
            within = omega arith;
            state = s;
            came = ap (λ (k : List (Node G)). stopped G k s) w;
            node = n;
            rest = l;
            next = w;
            expands = x;
            bears = r;
          }

      going_on : ((u : State G) → ((m : Node G) → Borne G a c u m → Born m) → Stands u → Lost (run G a c u)) → (n : Node G) (l : List (Node G))
          → s.waiting ≡ n ∷ l → (t : Turn G) → visit G c n (taken G l s) ≡ t → TurnStands t → Lost (onward G t (run G a c))
      going_on rest n l w (over e) q p = p
      going_on rest n l w (again u) q p = rest u (λ m r. i m (later n l w u q m r)) p

      going : ((u : State G) → ((m : Node G) → Borne G a c u m → Born m) → Stands u → Lost (run G a c u)) → (k : List (Node G)) → s.waiting ≡ k
          → Lost (go_on G c k s (run G a c))
      going rest [] w = nothing_stands s w h
      going rest (n ∷ l) w =
          going_on rest n l w (visit G c n (taken G l s)) refl (turned c n l s w (λ x m r. i m (now_born n l w x m r)) h)

-- ---- what it becomes

module _ (G : Game) (L : Laws G) (b : G.Board) (good : L.Good b) where
  -- a run from a start that is not won
  start_stands : (Born : Node G → Type 0) → G.won b ≡ false → Stands G L.same_self Born (start G b)
  unfolding start
  start_stands Born u e = true_or_not (G.won b) e u

  -- a run is exhausted with a won best board only where two boards of it clash
  pub clashes : (x y : ℕ) → G.won b ≡ false → (s : State G) → run G x y (start G b) ≡ exhausted s → G.won s.best.board ≡ true
      → Clash G (Borne G x y (start G b))
  clashes x y u s e =
      subst (Lost G L.same_self (Borne G x y (start G b))) e
      (loses G L.same_self (Borne G x y (start G b)) x y (start G b) (λ m r. r) (start_stands (Borne G x y (start G b)) u))

  module _ {a c x y : ℕ} (h : a ≤ x) (k : c ≤ y) (p : Bool) (l : List G.Move) where
    abbrev Then : Answer G → Type 0
    Then = Becomes G (Borne G x y (start G b)) l

    -- the larger run: it ends with the same best node
    brought : (s u : State G) → s.best ≡ u.best → brings G p u ≡ true → brings G p s ≡ true
    brought s u e t = ap (λ (n : Node G). p && not (eqb n.number 0)) e ∙ t

    best_list : (s u : State G) → s.best ≡ u.best → u.best.line ≡ l → (with without : ℕ) → (progressed G true with without s).list ≡ some l
    best_list s u e q with without = ap (λ (n : Node G). some n.line) e ∙ ap (λ (m : List G.Move). some m) q

    grown_to : (u : State G) → G.won b ≡ false → brings G p u ≡ true → (e : G.won u.best.board ≡ true) → u.best.line ≡ l
        → (r : End G) → run G x y (start G b) ≡ r → BestIs G L b u.best e r → Then (answer G p r)
    grown_to u w t e q (won m i) f z = won_then refl
    grown_to u w t e q (limit s) f z =
        subst (λ (d : Bool). Then (progressed G d (best_at_limit G s) at_limit s)) (sym (brought s u z t))
        (still (ap (λ (n : Node G). best_said (G.won n.board)) z ∙ ap best_said e) (best_list s u z q (best_at_limit G s) at_limit))
    grown_to u w t e q (exhausted s) f z =
        subst (λ (d : Bool). Then (progressed G d best_exhausted when_exhausted s)) (sym (brought s u z t))
        (exhausted_then refl (best_list s u z q best_exhausted when_exhausted)
        (clashes x y w s f (ap (λ (n : Node G). G.won n.board) z ∙ e)))
    grown_to u w t e q (out_of_nodes_at i) f z = no_room_then refl

    same_line : {m : List G.Move} → ◌≡◌ {A = Perhaps (List G.Move)} (some m) (some l) → m ≡ l
    same_line e = cc

    abbrev KeptAt : End G → Type 0
    KeptAt = EndKept G (Sane G L b) (Fine G L b) (takes G L b) (bears G L b)

    at_limit_lem : G.won b ≡ false → (u : State G) → run G a c (start G b) ≡ limit u → (t : Bool) → brings G p u ≡ t
        → (progressed G t (best_at_limit G u) at_limit u).number ≡ 5 → (progressed G t (best_at_limit G u) at_limit u).list ≡ some l
        → Then (answer G p (run G x y (start G b)))
    at_limit_lem w u f true t e q =
        let v = said_won (G.won u.best.board) e in
        let sane : Sane G L b u =
        subst KeptAt f (kept G (Sane G L b) (Fine G L b) (takes G L b) (bears G L b) a c (start G b) (start_sane G L b good)) in
        grown_to u w t v (same_line q) (run G x y (start G b)) refl
        (subst (BestIs G L b u.best v) (sym (goes_on G k a x h (start G b) u f)) (best_stays G L b u.best v (x - a) y u sane refl))
    at_limit_lem w u f false t e q = absurd (let z : ⊥ = omega arith in z)

    by_end : G.won b ≡ false → (r : End G) → run G a c (start G b) ≡ r → (answer G p r).number ≡ 5 → (answer G p r).list ≡ some l
        → Then (answer G p (run G x y (start G b)))
    by_end w (won m i) f e q = absurd (let z : ⊥ = omega arith in z)
    by_end w (limit u) f e q = at_limit_lem w u f (brings G p u) refl e q
    by_end w (exhausted u) f e q = two_or_four G b a c p (brings G p u) u (inr e)
    by_end w (out_of_nodes_at i) f e q = absurd (let z : ⊥ = omega arith in z)

    -- T5
    pub finishes : (solve G b a c p).number ≡ 5 → (solve G b a c p).list ≡ some l → Then (solve G b x y p)
    unfolding solve
    finishes e q = by_start (G.won b) refl e q
      where
        by_start : (w : Bool) → G.won b ≡ w → (solve_as G w b a c p).number ≡ 5 → (solve_as G w b a c p).list ≡ some l → Then (solve_as G w b x y p)
        by_start true f e q = absurd (let z : ⊥ = omega arith in z)
        by_start false f e q = by_end f (run G a c (start G b)) refl e q
