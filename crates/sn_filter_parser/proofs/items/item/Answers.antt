use Rattle.sn_filter_parser.proofs.ItemSteps.{name_step, tag_step, no_opening}
use Rattle.sn_filter_parser.proofs.items.item.Goals as goal

pub returns-in-Name : goal.returns-in-Name
returns-in-Name c = name_step c.args.items c.args.token c.in-Name.name c.in-Name.is

pub returns-in-Tag : goal.returns-in-Tag
returns-in-Tag c = tag_step c.args.items c.args.token c.in-Tag.tag c.in-Tag.is

pub returns-in_default : goal.returns-in_default
returns-in_default c = no_opening c.args.items c.args.token c.in_default.not-Name c.in_default.not-Tag
