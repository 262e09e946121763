use Rattle.sn_filter_parser.proofs.ItemSteps.{done_step, comma_step, no_more}
use Rattle.sn_filter_parser.proofs.items.after.Goals as goal

pub returns-in-Some : goal.returns-in-Some
returns-in-Some c = done_step c.args.items c.args.token c.in-Some.field-0 c.in-Some.ensures

pub returns-in-Some-symbol_at : goal.returns-in-Some-symbol_at
returns-in-Some-symbol_at c = comma_step c.args.items c.args.token c.in-Some-symbol_at.field-0 c.in-Some-symbol_at.ensures

pub returns-in-None : goal.returns-in-None
returns-in-None c = no_more c.args.items c.args.token c.in_default.ensures c.in-None.ensures
