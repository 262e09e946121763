use Rattle.std.proofs.Common.{sym, subst}
use Rattle.std.specs.Prelude.{Some}
use Rattle.sn_net.specs.declared.net.Net.TheViews.{out-Net}
use Rattle.sn_net.specs.Item.{modelled}
use Rattle.sn_view.specs.Next.{both, router_of}
use Rattle.sn_node.specs.Routes.{GoesBy}
use Rattle.sn_node.specs.Entry.{entry_of}
use Rattle.sn_node.proofs.Routers.{item_goes}
use Rattle.sn_node.proofs.keys.entry_key.Goals as goal

pub returns-in-Item : goal.returns-in-Item
returns-in-Item c =
    subst (λ e. GoesBy (both (router_of (Some (out-Net c.args.net.now)) c.args.left) (Some (entry_of e))) c.key_of.result) (sym c.in-Item.is)
    (item_goes (out-Net c.args.net.now) c.args.left (modelled c.in-Item.item) c.key_of.result c.key_of.ensures)
