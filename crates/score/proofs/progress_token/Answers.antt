-- What `progress_token` leaves to be shown: refusals change nothing; else the token is put at the start.
use native.Mathlib.Omega.{arith}
use Rattle.score.proofs.Digits.{token_32}
use Rattle.score.proofs.Answering.{told_small, token_refused, token_short, writes_no, writes_yes}
use borrow.Author.Rules.{rules}
use Rattle.score.proofs.progress_token.Goals as goal

pub returns-then-out-lt32 : goal.returns-then-out-lt32
returns-then-out-lt32 c = writes_no c.args.b c.args.out.now (token_short c.args.b c.args.out.now c.features_of.ensures c.in-Ok.is (omega (arith, c.if-out-lt32.true)))

pub token_at-written-requires : goal.token_at-written-requires
token_at-written-requires c = record { bounded = told_small c.args.b c.features_of.ensures c.in-Ok.is (record { four = search rules; piles = search rules; eight = search rules; full = search rules }); f_in_bounds = (let l = token_32 c.in-Ok.f (told_small c.args.b c.features_of.ensures c.in-Ok.is (record { four = search rules; piles = search rules; eight = search rules; full = search rules })) in omega (arith, c.if-out-lt32.false)) }

pub returns-else-out-lt32 : goal.returns-else-out-lt32
returns-else-out-lt32 c = writes_yes c.args.b c.args.out.now c.features_of.ensures c.in-Ok.is (omega (arith, c.if-out-lt32.false)) c.token_at-written.ensures

pub returns-in-Err : goal.returns-in-Err
returns-in-Err c = writes_no c.args.b c.args.out.now (token_refused c.args.b c.args.out.now c.features_of.ensures c.in-Err.is)
