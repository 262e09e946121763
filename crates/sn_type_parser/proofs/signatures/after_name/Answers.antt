use Rattle.std.proofs.Common.{sym, ◌∙◌}
use Rattle.sn_type_parser.proofs.SigSteps.{named_ended, no_lone_name}
use Rattle.sn_type_parser.proofs.signatures.after_name.Goals as goal

pub returns-in-Some : goal.returns-in-Some
returns-in-Some c =
    let a = c.args in
    named_ended a.parts c.in-Some.name a.symbol a.at c.requires (sym c.can_follow.ensures ∙ c.if-not-can_follow.false) (sym c.in-Some.ensures)

pub returns-in-None : goal.returns-in-None
returns-in-None c = no_lone_name c.args.parts c.args.symbol c.args.at c.requires (sym c.in-None.ensures)
