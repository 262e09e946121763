use Rattle.std.proofs.Common.{map, ap, refl, ◌∙◌}
use Rattle.sn_net.specs.Item.{holds_stuck, modelled}
use Rattle.sn_pass.specs.Flowing.{flows}
use Rattle.sn_pass.specs.Output.{given}
use Rattle.sn_pass.specs.States.{held}
use Rattle.sn_once.proofs.Feeding.{rest_more, routed_later, routed_one}
use Rattle.sn_once.proofs.once.Once.feed.Goals as goal

pub settled-requires : goal.settled-requires
settled-requires c =
    ap holds_stuck (ap (map flows) (c.into_vec-came.ensures ∙ c.end.ensures.since))
    ∙ routed_one c.args.self c.args.run.now c.net.result.now c.requires.made_by c.net.ensures.net (held c.pass.new.kept) c.args.item (modelled c.args.item) (flows c.of.result) (given c.begin-before.new.self) (given c.pass.new.out)
    (ap (map flows) c.begin-before.ensures.anew) c.of.ensures c.in_ok-pass.ensures refl c.requires.typed

pub invariant_of-next-clause-routed : goal.invariant_of-next-clause-routed
invariant_of-next-clause-routed c =
    routed_later c.args.self c.args.run.now c.net.result.now c.requires.made_by c.net.ensures.net (held c.pass.new.kept) c.args.item (modelled c.args.item) (flows c.of.result) (given c.begin-before.new.self) (given c.pass.new.out)
    (ap (map flows) c.begin-before.ensures.anew) c.of.ensures c.in_ok-pass.ensures refl c.requires.typed c.in_ok-given.given
    (c.in_ok-given.ensures ∙ ap (map flows) (c.into_vec-came.ensures ∙ c.end.ensures.since)) c.pass.new.kept refl

pub returns-clause-given : goal.returns-clause-given
returns-clause-given c =
    rest_more c.args.self c.args.run.now c.net.result.now c.requires.made_by c.net.ensures.net (held c.pass.new.kept) c.args.item (modelled c.args.item) (flows c.of.result) (given c.begin-before.new.self) (given c.pass.new.out)
    (ap (map flows) c.begin-before.ensures.anew) c.of.ensures c.in_ok-pass.ensures c.in_ok-given.given
    (c.in_ok-given.ensures ∙ ap (map flows) (c.into_vec-came.ensures ∙ c.end.ensures.since))
