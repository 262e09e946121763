use Rattle.std.proofs.Common.{sym, subst}
use Rattle.sn_net.specs.declared.net.Net.TheViews.{out-Net}
use Rattle.sn_net.specs.Item.{modelled}
use Rattle.sn_node.specs.Routes.{KeyIs}
use Rattle.sn_node.proofs.Routers.{choice_is, split_is, star_last, star_left}
use Rattle.sn_node.proofs.keys.key_of.Goals as goal

pub returns-then-left-eq0 : goal.returns-then-left-eq0
returns-then-left-eq0 c =
    let net = c.args.net.now in
    let x = modelled c.args.item.now in
    subst (λ left. KeyIs (out-Net net) left x c.no_way_inside.result) (sym c.if-left-eq0.true)
    (subst (KeyIs (out-Net net) 0 x) (sym c.no_way_inside.ensures)
    (star_last net c.in-Star.place c.in-Star.merge c.in-Star.body c.in-Star.exit c.in-Star.guard x c.in-Star.is c.route-key.result c.route-key.ensures))

pub returns-else-left-eq0 : goal.returns-else-left-eq0
returns-else-left-eq0 c =
    star_left c.args.net.now c.in-Star.place c.in-Star.merge c.in-Star.body c.in-Star.exit c.in-Star.guard (modelled c.args.item.now) c.in-Star.is c.args.left c.route-key.result c.if-left-eq0.false c.route-key.ensures

pub returns-in-Choice : goal.returns-in-Choice
returns-in-Choice c =
    choice_is c.args.net.now c.in-Choice.place c.in-Choice.merge c.in-Choice.branches c.in-Choice.faces c.args.left (modelled c.args.item.now) c.route-key.result c.in-Choice.is c.route-key.ensures

pub returns-in-Split : goal.returns-in-Split
returns-in-Split c =
    split_is c.args.net.now c.in-Split.place c.in-Split.merge c.in-Split.body c.in-Split.tag c.args.left (modelled c.args.item.now) c.route-key.result c.in-Split.is c.route-key.ensures
