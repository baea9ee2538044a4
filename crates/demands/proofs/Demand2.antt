-- Demand 2 holds.
use mathlib.Core.Path.{◌≡◌, refl, sym, ap, ◌∙◌}
use mathlib.Core.Bool.{true}
use mathlib.Core.List.{List, []}
use Prim.Native.Nat.{ℕ, ◌≤◌}
use native.Mathlib.Omega.{arith}
use borrow.Author.Tests.{lt-ltb}
use lib.IntN.{ℤ}
use lib.ListN.{length, get_or}
use Rattle.base.specs.Answer.{Answer, given}
use Rattle.base.specs.Words.{all, listed}
use Rattle.card.specs.Card.{is_card}
use Rattle.base.proofs.Words.{listed_same, all_by, all_at}
use Rattle.card.proofs.Codes.{card_is}
use Rattle.board.specs.Table.{Table}
use Rattle.board.specs.Record.{shown}
use Rattle.board.specs.Fair.{Fair}
use Rattle.moves.specs.declared.Move.{Move}
use Rattle.moves.specs.declared.Place.TheVariants.{Column as column}
use Rattle.moves.proofs.Fairness.{fair_cards}
use Rattle.generate.specs.Found.{found}
use Rattle.moves.specs.Written.{written}
use Rattle.generate.specs.Asked.{record_room}
use Rattle.generate.specs.declared.Way.{Way}
use Rattle.signature.specs.Fnv.{fnv}
use Rattle.signature.specs.Signed.{signature_of, signature_asked, column_hashes}
use Rattle.features.specs.Features.{features_of}
use Rattle.score.specs.Scores.{heuristic, progress}
use Rattle.score.specs.Asked.{features_asked}
use Rattle.features.specs.declared.Features.{Features}
use Rattle.candidates.specs.Candidates.{candidates as tried}
use Rattle.solver.proofs.Calls.{answered-accepted, gives}
use Rattle.crossing.specs.Crossing.{Left, left, crossed}
use Rattle.crossing.specs.Lists.{list_left, candidates_left, way_asked, found_by, moves_left}
use Rattle.crossing.specs.Values.{value_left, signature_left, scores_left}
use Rattle.crossing.proofs.Crossing.{some_room}
use Rattle.corbelnib.specs.Calls.{moves, candidates, scores, signature, judge, Call, GoodBoard}
use Rattle.demands.specs.Demand1.{GoodSearch}
use Rattle.demands.specs.Fnv1a.{fnv1a, is_octet}
use Rattle.demands.specs.Demand2.{table_in, Lists, answer_to, Answers, Demand2}
use Rattle.demands.proofs.Crossing.{good_asked}
use Rattle.demands.proofs.Searching.{good_answered, searching, same_number, answered}
use Rattle.demands.proofs.Hashing.{hash_is}
use Rattle.demands.proofs.Replaying.{replay_number, replay_many, end_good, end_won}

-- ---- moves in lent room

list_room_lem : (a : Answer (List Move)) (ms : List Move) (room : List ℕ) (n : ℕ) → a ≡ given ms → record_room ≤ length room
    → list_left a room n ≡ left {A = List ℕ × ℕ} 0 (written room 0 ms, length ms)
unfolding list_left
list_room_lem a ms room n e h =
    ap (λ (x : Answer (List Move)). list_left x room n) e
    ∙ sym (some_room (λ x. crossed x (room, n) (λ l. left {A = List ℕ × ℕ} 0 (written room 0 l, length l))) record_room (length room) ms h)

lists : {ms : List Move} {before after : List ℕ × ℕ} {number : ℕ} → left number after ≡ left 0 (written before.0 0 ms, length ms) → Lists ms before after number
lists e =
    record {
      number = ap (λ (l : Left (List ℕ × ℕ)). l.number) e;
      room = ap (λ (l : Left (List ℕ × ℕ)). l.places.0) e;
      count = ap (λ (l : Left (List ℕ × ℕ)). l.places.1) e;
    }

moves_are : (c : Call moves) (w : Way) → GoodBoard c.input.0 → way_asked c.input.1 ≡ given w → record_room ≤ length c.before.0
    → Lists (found (table_in c.input.0) w) c.before c.after c.number
unfolding moves_left
moves_are c w g k h =
    lists (c.keeps
    ∙ list_room_lem _ (found (table_in c.input.0) w) c.before.0 c.before.1
    (good_asked (λ b. found_by (shown b) (way_asked c.input.1)) g ∙ ap (found_by (table_in c.input.0)) k) h)

order_is : (c : Call candidates) → GoodBoard c.input → record_room ≤ length c.before.0
    → Lists (tried (table_in c.input)) c.before c.after c.number
unfolding candidates_left
order_is c g h =
    lists (c.keeps
    ∙ list_room_lem _ (tried (table_in c.input)) c.before.0 c.before.1 (good_asked (λ b. given (tried (shown b))) g) h)

-- ---- numbers behind pointers

scores_are : (c : Call scores) → GoodBoard c.input
    → left c.number c.after ≡ left {A = ℤ × ℤ} 0 (heuristic (features_of (table_in c.input)), progress (features_of (table_in c.input)))
unfolding scores_left features_asked
scores_are c g =
    c.keeps
    ∙ ap (λ (a : Answer Features). crossed a (c.before.0, c.before.1) (λ f. left {A = ℤ × ℤ} 0 (heuristic f, progress f)))
    (good_asked (λ b. given (features_of (shown b))) g)

signature_is : (c : Call signature) → GoodBoard c.input → left c.number c.after ≡ left 0 (signature_of (table_in c.input))
unfolding signature_left signature_asked
signature_is c g = c.keeps ∙ ap (λ (a : Answer ℕ). value_left a c.before) (good_asked (λ b. given (signature_of (shown b))) g)

pub score_of_lem : (c : Call scores) → GoodBoard c.input → (c.number ≡ 0) × (c.after ≡ (heuristic (features_of (table_in c.input)), progress (features_of (table_in c.input))))
score_of_lem c g = (ap (λ (l : Left (ℤ × ℤ)). l.number) (scores_are c g), ap (λ (l : Left (ℤ × ℤ)). l.places) (scores_are c g))

-- ---- the search

pub answers_as : (c : Call judge) → GoodSearch c → Answers c (answer_to c)
unfolding searching
answers_as c g =
    let a = good_answered c g in
    let s = searching c c.input.board refl a in
    let gave = gives s (answered-accepted s (answered c c.input.board refl a)) in
    record { number = sym (same_number c c.input.board refl a) ∙ gave.number; pops = gave.pops; moves = gave.moves; list = gave.list }

-- ---- hashes of columns

card_octet : (x : ℕ) → is_card x ≡ true → is_octet x ≡ true
card_octet x e = let c = card_is x e in let h = c.high in lt-ltb x 256 (omega arith)

octets : (l : List ℕ) → all is_card l ≡ true → all is_octet l ≡ true
octets l e = all_by is_octet l (λ i h. card_octet (get_or l i 0) (all_at is_card l e i h))

columns_are : (t : Table) → Fair t → column_hashes t.columns ≡ listed 8 (λ i. fnv1a (get_or t.columns i []))
unfolding column_hashes
columns_are t f =
    listed_same (λ i. fnv (get_or t.columns i [])) (λ i. fnv1a (get_or t.columns i [])) 8
    (λ i h. hash_is (get_or t.columns i []) (octets (get_or t.columns i []) (fair_cards t (column i) f (lt-ltb i 8 h))))

pub demand2 : Demand2
demand2 =
    record {
      moves = moves_are;
      order = order_is;
      scores = score_of_lem;
      signature = λ c g. (ap (λ (l : Left ℕ). l.number) (signature_is c g), ap (λ (l : Left ℕ). l.places) (signature_is c g));
      list = answers_as;
      replays = λ c r p. (replay_number c r p, replay_many c r p);
      cards = end_good;
      wins = end_won;
      hash = hash_is;
      columns = columns_are;
    }
