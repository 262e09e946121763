use Rattle.std.proofs.Common.{None}
use Rattle.sn_box_parser.specs.BoxDeclResidual.{AfterPart, InExpr, NextBody}
use Rattle.sn_box_parser.proofs.Embedded.{first_start, steps_through}
use Rattle.sn_box_parser.proofs.Steps.{fun_from, fun_to}
use Rattle.sn_box_parser.proofs.body.begin.Goals as goal

pub returns-in-Some : goal.returns-in-Some
returns-in-Some c = λ w t. rw c.in-Some.ensures (fun_from, fun_to)

pub returns : goal.returns
returns c =
    steps_through (NextBody c.args.opened) (InExpr (AfterPart c.args.opened c.place.result None) c.start.result) c.args.token _
    (rw c.place.ensures (first_start c.args.opened c.start.result c.args.token (c.start.ensures.from, c.start.ensures.to) c.in_default.ensures))
    c.in_part.ensures
