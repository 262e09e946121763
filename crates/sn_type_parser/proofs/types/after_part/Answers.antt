use Rattle.sn_type_parser.proofs.TypeSteps.{bar_step, no_symbol}
use Rattle.sn_type_parser.proofs.types.after_part.Goals as goal

pub returns-in-Bar : goal.returns-in-Bar
returns-in-Bar c = bar_step c.args.parts c.args.token c.in-Symbol.symbol c.in-Symbol.at c.in-Symbol.is c.in-Bar.is

pub returns-in_default : goal.returns-in_default
returns-in_default c = no_symbol c.args.parts c.args.token c.in_default.not-Symbol

pub end-requires : goal.end-requires
end-requires c = c.in_default-symbol.not-Bar

pub returns-in_default-symbol : goal.returns-in_default-symbol
returns-in_default-symbol c = rw c.in-Symbol.is c.end.ensures
