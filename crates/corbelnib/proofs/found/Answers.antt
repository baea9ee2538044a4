-- What `found` leaves to be shown: a refusal, no such kind, or the moves.
use mathlib.Core.Path.{refl, sym, ap, ◌∙◌}
use mathlib.Core.List.{List}
use Rattle.std.specs.Prelude.{Option}
use Rattle.std.specs.Result.{result_ok}
use Rattle.std.specs.Option.{ok_or}
use Rattle.board.specs.declared.Refusal.TheVariants.{OutOfRange}
use Rattle.std.proofs.lemmas.Result.{err_from_is_err_and}
use Rattle.base.specs.Answer.{Answer, given_or}
use Rattle.board.specs.Verdict.{after}
use Rattle.board.specs.Record.{examined, shown}
use Rattle.moves.specs.declared.Move.{Move}
use Rattle.generate.specs.declared.Way.{Way}
use Rattle.questions.proofs.Asking.{after_no, after_yes}
use Rattle.crossing.specs.Lists.{list_left, way_asked, found_by}
use Rattle.crossing.proofs.Listing.{list_left_lem, no_kind}
use Rattle.corbelnib.proofs.found.Goals as goal

pub returns-in_err-inspect : goal.returns-in_err-inspect
unfolding list_left
returns-in_err-inspect c n = let p = err_from_is_err_and c.from_residual.result c.from_residual.ensures.1 in rw (p.1, p.2) (ap (λ (a : Answer (List Move)). list_left a c.args.records.now n) (after_no (found_by (shown c.args.b.now) (way_asked c.args.kind)) c.inspect.ensures c.in_err-inspect.was))

pub returns-in_err-way : goal.returns-in_err-way
unfolding list_left
returns-in_err-way c n =
    let none = c.ok_or.ensures.ok_part ∙ ap result_ok c.in_err-way.was in
    let same = sym c.in_err-way.was ∙ c.ok_or.ensures.value ∙ ap (λ (o : Option Way). ok_or o OutOfRange) none in
    let p = err_from_is_err_and c.from_residual-in_err-way.result c.from_residual-in_err-way.ensures.1 in
    rw (p.1, p.2) (ap (λ (a : Answer (List Move)). list_left a c.args.records.now n) (no_kind (shown c.args.b.now) c.args.kind none same c.way_of.ensures ∙ sym (after_yes (found_by (shown c.args.b.now) (way_asked c.args.kind)) c.inspect.ensures c.in_ok-inspect.was)))

pub returns : goal.returns
returns c n = list_left_lem n refl c.find.ensures ∙ ap (λ (w : Answer Way). list_left (after (examined c.args.b.now) (found_by (shown c.args.b.now) w)) c.args.records.now n) (ap (given_or 30) (sym (c.ok_or.ensures.ok_part ∙ ap result_ok c.in_ok-way.was)) ∙ c.way_of.ensures)
