-- Demand 1 holds.
use Rattle.std.specs.Prelude.{Option}
use Rattle.card.specs.declared.Card.{Card}
use mathlib.Core.Path.{◌≡◌, refl, sym, ap, ap₂, ◌∙◌, subst}
use mathlib.Core.Bool.{Bool, true, ◌||◌, or-true}
use mathlib.Core.List.{List, [], ◌∷◌, ◌++◌}
use Prim.Native.Nat.{ℕ}
use lib.Dec.{eqb, ltb}
use lib.ListN.{length, get_or, drop}
use Rattle.base.specs.Answer.{given, refused, unless}
use Rattle.base.specs.Words.{all}
use Rattle.board.specs.Verdict.{Verdict, after}
use Rattle.board.specs.Record.{examined, shown, board_of}
use Rattle.board.specs.declared.Board.{Board}
use Rattle.shuffle.specs.Shuffle.{deck_of}
use Rattle.intake.specs.Deal.{dealt}
use Rattle.intake.specs.Number.{is_number, number_asked}
use Rattle.questions.specs.Questions.{top_of, cell_of, won_on, top_asked, cell_asked, foundation_asked, won_asked}
use Rattle.rules.specs.Limit.{most_moved}
use Rattle.rules.specs.Asked.{most_asked}
use Rattle.moves.specs.Record.{move_of, move_asked}
use Rattle.moves.specs.Play.{after_move}
use Rattle.moves.specs.Causes.{causes}
use Rattle.replay.specs.Step.{stepped, move_made}
use Rattle.replay.specs.Line.{line_from, records_in, is_line}
use Rattle.generate.specs.Found.{found}
use Rattle.generate.specs.Asked.{record_room}
use Rattle.signature.specs.Signed.{signature_of, signature_asked}
use Rattle.features.specs.Features.{features_of}
use Rattle.score.specs.Token.{token_of}
use Rattle.score.specs.Asked.{features_asked, token_room}
use Rattle.priority.specs.Priority.{priority_on}
use Rattle.priority.specs.Asked.{priority_by, priority_asked}
use Rattle.safe.specs.Safe.{first_safe}
use Rattle.candidates.specs.Candidates.{candidates as tried}
use Rattle.search.specs.Claims.{brings_list}
use Rattle.solver.proofs.Calls.{answer_clears, T1_none}
use Rattle.crossing.specs.Wire.{board_room, board_in}
use Rattle.crossing.specs.Crossing.{left, told, asked}
use Rattle.crossing.specs.Boards.{board_left, read_left, deal_left, number_left, move_left, line_left, replay_left, chained, chain_left}
use Rattle.crossing.specs.Lists.{list_left, candidates_left, way_asked, found_by, moves_left, text_left, token_left}
use Rattle.crossing.specs.Values.{feature_room, signature_left, priority_left, scores_left, numbers_left, features_left}
use Rattle.crossing.specs.Questions.{top_left, cell_left, home_left, most_left, won_left, safe_left}
use Rattle.crossing.specs.Numbers.{is_answer}
use Rattle.corbelnib.specs.Calls.{Entry, examine, read, deal, number, move, replay, chain, moves, candidates, token, priority, scores, signature, features, capacity, judge, read_line, write_line, season, add, top, cell, home, most, won, safe, version, In, Places, Call, promise}
use Rattle.demands.specs.Orders.{boards, table_of, order}
use Rattle.demands.specs.Demand1.{boundary, is_in, of_moves, hands, place_of, Cleared, Demand1}
use Rattle.demands.proofs.Refusing.{Refuses}
use Rattle.demands.proofs.Ordering.{boards_good, good_boards, board_first_lem, By, untested, tested, roomed, asked_by, Held, crosses, Ruled, Bare, call_numbered, call_examines, call_keeps}
use Rattle.demands.proofs.Rows.{image_by, deck_by, step_by, priority_by_lem, way_at, way_by}
use Rattle.demands.proofs.Papers.{line_refuses, read_line-ruled, write_line-ruled}
use Rattle.demands.proofs.Searching.{judge-ruled, searching, same_number, answered}
use Rattle.demands.proofs.Seasons.{season_ruled, season_clears, add-ruled}

-- ---- which numbers a line of moves ends with: 0, or that of a bad move

pub bad_move_lem : (n : ℕ) → is_in n of_moves ≡ true → hands replay n ≡ true
bad_move_lem n h = ap (λ (b : Bool). eqb n 0 || b) h ∙ or-true (eqb n 0)

line-hands : (v : Verdict) → Refuses of_moves v → hands replay (told v) ≡ true
line-hands (given u) r = refl
line-hands (refused n) r = bad_move_lem n r

-- ---- each function keeps to its row of the table

examine_ruled : (board : In examine) (u : Places examine) → Ruled examine board u
examine_ruled board u =
    subst (λ (v : Verdict). Held (hands examine) u v (left (told (asked board examined)) u)) (board_first_lem board) (by_verdict (asked board examined))
  where
    by_verdict : (v : Verdict) → Held (hands examine) u v (left (told v) u)
    by_verdict (given t) = refl
    by_verdict (refused n) = refl

read_ruled : (image : In read) (room : Places read) → Ruled read image room
unfolding read_left board_left
read_ruled image room =
    let b = board_of (table_of (drop 3 image)) in
    crosses (hands read) room (order read image room) b _ (roomed board_room room (image_by image)) refl

deal_ruled : (deck : In deal) (room : Places deal) → Ruled deal deck room
unfolding deal_left board_left
deal_ruled deck room =
    let b = board_of (dealt deck) in
    crosses (hands deal) room (order deal deck room) b _ (roomed board_room room (deck_by deck)) refl

number_ruled : (n : In number) (room : Places number) → Ruled number n room
unfolding number_left board_left number_asked
number_ruled n room =
    let b = board_of (dealt (deck_of n)) in
    crosses (hands number) room (order number n room) b _ (roomed board_room room (tested (is_number n) 41 (untested b))) refl

move_ruled : (i : In move) (room : Places move) → Ruled move i room
unfolding move_left board_left move_made causes
move_ruled i room =
    let t = shown (board_in i.0) in
    let b = board_of (after_move t (move_of i.1)) in
    crosses (hands move) room (order move i room) b _
    (roomed board_room room (asked_by i.0 (λ x. stepped x i.1) (step_by (board_in i.0) i.1))) refl

replay_ruled : (i : In replay) (l : Places replay) → Ruled replay i l
unfolding replay_left line_left
replay_ruled i l =
    let rs = records_in i.1 in
    let ending = line_from (board_in i.0) rs in
    crosses (hands replay) l (order replay i l) ending _
    (roomed board_room l.0 (asked_by i.0 (λ b. unless (is_line i.1) 31 (given (line_from b rs))) (tested (is_line i.1) 31 (untested ending))))
    (line-hands ending.verdict (line_refuses rs (board_in i.0)))

chain-ruled : (board : In chain) (l : Places chain) → Ruled chain board l
unfolding chain_left line_left chained
chain-ruled board l =
    let ending = chained (board_in board) in
    crosses (hands chain) l (order chain board l) ending _
    (roomed board_room l.0 (asked_by board (λ b. given (chained b)) (untested ending))) refl

moves_ruled : (i : In moves) (l : Places moves) → Ruled moves i l
unfolding moves_left list_left
moves_ruled i l =
    let t = shown (board_in i.0) in
    let ms = found t (way_at i.1) in
    crosses (hands moves) l (order moves i l) ms _
    (roomed record_room l.0 (asked_by i.0 (λ b. found_by (shown b) (way_asked i.1)) (way_by t i.1))) refl

candidates-ruled : (board : In candidates) (l : Places candidates) → Ruled candidates board l
unfolding candidates_left list_left
candidates-ruled board l =
    let ms = tried (shown (board_in board)) in
    crosses (hands candidates) l (order candidates board l) ms _
    (roomed record_room l.0 (asked_by board (λ b. given (tried (shown b))) (untested ms))) refl

token_ruled : (board : In token) (l : Places token) → Ruled token board l
unfolding token_left text_left
token_ruled board l =
    let text = token_of (features_of (shown (board_in board))) in
    crosses (hands token) l (order token board l) text _
    (roomed token_room l.0 (asked_by board (λ b. given (token_of (features_of (shown b)))) (untested text))) refl

priority-ruled : (i : In priority) (p : Places priority) → Ruled priority i p
unfolding priority_left priority_asked causes
priority-ruled i p =
    let t = shown (board_in i.0) in
    let z = priority_on t (move_of i.1) in
    crosses (hands priority) p (order priority i p) z _
    (asked_by i.0 (λ b. priority_by (shown b) (move_asked i.1)) (priority_by_lem t i.1)) refl

scores_ruled : (board : In scores) (l : Places scores) → Ruled scores board l
unfolding scores_left features_asked
scores_ruled board l =
    let f = features_of (shown (board_in board)) in
    crosses (hands scores) l (order scores board l) f _ (asked_by board (λ b. given (features_of (shown b))) (untested f)) refl

signature_ruled : (board : In signature) (s : Places signature) → Ruled signature board s
unfolding signature_left signature_asked
signature_ruled board s =
    let x = signature_of (shown (board_in board)) in
    crosses (hands signature) s (order signature board s) x _ (asked_by board (λ b. given (signature_of (shown b))) (untested x)) refl

features_ruled : (board : In features) (room : Places features) → Ruled features board room
unfolding features_left numbers_left features_asked
features_ruled board room =
    let f = features_of (shown (board_in board)) in
    crosses (hands features) room (order features board room) f _
    (roomed feature_room room (asked_by board (λ b. given (features_of (shown b))) (untested f))) refl

-- ---- plain questions

-- about a place of a board: 30 for one that is none
place_by : {A : Type 0} (board : List ℕ) (ok : Bool) (what : Board → A)
    → By (asked board (λ b. after (examined b) (unless ok 30 (given (what b))))) (boards board ++ ((ok, 30) ∷ [])) (what (board_in board))
place_by board ok what = asked_by board (λ b. unless ok 30 (given (what b))) (tested ok 30 (untested (what (board_in board))))

top_ruled : (i : In top) (n : Places top) → Ruled top i n
unfolding top_left top_asked
top_ruled i n =
    let what : Board → (Option Card) = λ b. top_of (get_or (shown b).columns i.1 []) in
    crosses (hands top) n (order top i n) (what (board_in i.0)) _ (place_by i.0 (ltb i.1 8) what) refl

cell_ruled : (i : In cell) (n : Places cell) → Ruled cell i n
unfolding cell_left cell_asked
cell_ruled i n =
    let what : Board → (Option Card) = λ b. cell_of (get_or (shown b).cells i.1 0) in
    crosses (hands cell) n (order cell i n) (what (board_in i.0)) _ (place_by i.0 (ltb i.1 4) what) refl

home-ruled : (i : In home) (n : Places home) → Ruled home i n
unfolding home_left foundation_asked
home-ruled i n =
    let what : Board → ℕ = λ b. get_or (shown b).foundation i.1 0 in
    crosses (hands home) n (order home i n) (what (board_in i.0)) _ (place_by i.0 (ltb i.1 4) what) refl

most_ruled : (i : In most) (n : Places most) → Ruled most i n
unfolding most_left most_asked
most_ruled i n =
    let what : Board → ℕ = λ b. most_moved (shown b).cells (shown b).columns i.1 in
    crosses (hands most) n (order most i n) (what (board_in i.0)) _ (place_by i.0 (ltb i.1 8) what) refl

won-ruled : (board : In won) (n : Places won) → Ruled won board n
unfolding won_left won_asked
won-ruled board n =
    let x = won_on (shown (board_in board)).foundation in
    crosses (hands won) n (order won board n) x _ (asked_by board (λ b. given (won_on (shown b).foundation)) (untested x)) refl

safe-ruled : (board : In safe) (l : Places safe) → Ruled safe board l
unfolding safe_left
safe-ruled board l =
    let m = first_safe (shown (board_in board)) in
    crosses (hands safe) l (order safe board l) m _
    (roomed 5 l.0 (asked_by board (λ b. given (first_safe (shown b))) (untested m))) refl

ruled : (e : Entry) (i : In e) (l : Places e) → Ruled e i l
ruled examine = examine_ruled
ruled read = read_ruled
ruled deal = deal_ruled
ruled number = number_ruled
ruled move = move_ruled
ruled replay = replay_ruled
ruled chain = chain-ruled
ruled moves = moves_ruled
ruled candidates = candidates-ruled
ruled token = token_ruled
ruled priority = priority-ruled
ruled scores = scores_ruled
ruled signature = signature_ruled
ruled features = features_ruled
ruled capacity = λ i u. refl
ruled judge = judge-ruled
ruled read_line = read_line-ruled
ruled write_line = write_line-ruled
ruled season = season_ruled
ruled add = add-ruled
ruled top = top_ruled
ruled cell = cell_ruled
ruled home = home-ruled
ruled most = most_ruled
ruled won = won-ruled
ruled safe = safe-ruled
ruled version = λ i u. refl

-- ---- with no number of a row something is handed back

bare : (e : Entry) (i : In e) (l : Places e) → Bare e i l
unfolding all causes
bare examine i l = refl
bare read i l = refl
bare deal i l = refl
bare number i l = refl
bare move i l = refl
bare replay i l = refl
bare chain i l = refl
bare moves i l = refl
bare candidates i l = refl
bare token i l = refl
bare priority i l = refl
bare scores i l = refl
bare signature i l = refl
bare features i l = refl
bare capacity i l = refl
bare judge i l = refl
bare read_line i l = refl
bare write_line i l = refl
bare season i l = refl
bare add i l = refl
bare top i l = refl
bare cell i l = refl
bare home i l = refl
bare most i l = refl
bare won i l = refl
bare safe i l = refl
bare version i l = refl

-- ---- the list of them

listed_at : (e : Entry) → get_or boundary (place_of e) judge ≡ e
unfolding boundary
listed_at examine = refl
listed_at read = refl
listed_at deal = refl
listed_at number = refl
listed_at move = refl
listed_at replay = refl
listed_at chain = refl
listed_at moves = refl
listed_at candidates = refl
listed_at token = refl
listed_at priority = refl
listed_at scores = refl
listed_at signature = refl
listed_at features = refl
listed_at capacity = refl
listed_at judge = refl
listed_at read_line = refl
listed_at write_line = refl
listed_at season = refl
listed_at add = refl
listed_at top = refl
listed_at cell = refl
listed_at home = refl
listed_at most = refl
listed_at won = refl
listed_at safe = refl
listed_at version = refl

listed-all : length boundary ≡ 27
unfolding boundary
listed-all = refl

-- ---- the search's scratch

module _ (c : Call judge) (a : is_answer c.number ≡ true) where
  scratch_clears : Cleared c
  unfolding searching
  scratch_clears =
      let k = answer_clears (searching c c.input.board refl a) (answered c c.input.board refl a) in
      record { nodes = k.nodes; heap = k.heap; keys = k.keys; costs = k.costs }

  list_stays : c.number ≡ 23 → c.after.list ≡ c.before.list
  unfolding searching
  list_stays e =
      let n = same_number c c.input.board refl a in
      (T1_none (searching c c.input.board refl a) (ap brings_list (n ∙ e))).same

-- a call that keeps its promise, for whatever goes in and lies there
abbrev called : {e : Entry} (i : In e) (b : Places e) → Call e
called {e} i b = record { input = i; before = b; number = (promise e i b).number; after = (promise e i b).places; keeps = refl }

same_end : {e : Entry} (x y : Call e) → x.input ≡ y.input → x.before ≡ y.before → left x.number x.after ≡ left y.number y.after
same_end {e} x y p q = x.keeps ∙ ap₂ (promise e) p q ∙ sym y.keeps

pub demand1 : Demand1
demand1 =
    record {
      some_end = λ i b. (called i b, (refl, refl));
      one_end = λ x y p q. let s = same_end x y p q in record { number = ap (λ l. l.number) s; after = ap (λ l. l.places) s };
      many = listed-all;
      all = listed_at;
      examines = λ {e} c. call_examines c (ruled e c.input c.before) (bare e c.input c.before);
      well_formed = λ bytes e. (boards_good bytes [] e).0;
      accepts = λ {bytes} g. good_boards bytes [] g;
      numbered = λ {e} c. call_numbered c (ruled e c.input c.before);
      keeps = λ {e} c. call_keeps c (ruled e c.input c.before);
      clears = scratch_clears;
      clears_all = season_clears;
      no_room = λ c e. list_stays c (ap is_answer e) e;
    }
