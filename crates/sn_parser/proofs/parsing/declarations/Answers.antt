use Rattle.std.proofs.Common.{refl}
use Rattle.std.proofs.lemmas.Result.{err_from_is_err_and}
use Rattle.sn_parser.proofs.Reaching.{ends_all, ends_soon, more_at, placed_at, stops_there}
use Rattle.sn_parser.proofs.parsing.declarations.Goals as goal

pub next-requires : goal.next-requires
next-requires c = placed_at _ _ _ _ c.loop-token-test.true c.requires.placed

pub returns-in_err-parser : goal.returns-in_err-parser
returns-in_err-parser c =
    let p = err_from_is_err_and c.from_residual.result c.from_residual.ensures.1 in
    stops_there _ _ _ _ _ _ _ _ c.loop-token-test.true refl c.loop-token.invariant c.in_err-parser.ensures (rw p.2 at p.1)

pub loop-token-preserved : goal.loop-token-preserved
loop-token-preserved c = more_at _ _ _ _ _ _ _ c.loop-token-test.true refl c.loop-token.invariant c.in_ok-parser.ensures

pub returns-in-Some : goal.returns-in-Some
returns-in-Some c = ends_all _ _ _ _ _ c.loop-token-test.false c.loop-token.invariant c.in-Some.ensures

pub returns-in-None : goal.returns-in-None
returns-in-None c = ends_soon _ _ _ _ c.loop-token-test.false c.loop-token.invariant c.in-None.ensures
