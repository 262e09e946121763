use Rattle.std.proofs.Common.{◌≡◌, sym, ap, subst, ◌∙◌}
use Rattle.std.specs.Prelude.{Option, unwrap_or}
use Rattle.sn_net.specs.Dispatchers.{stream_key}
use Rattle.sn_net.specs.Item.{ModelItem, modelled}
use Rattle.sn_view.specs.Next.{passed}
use Rattle.sn_view.specs.View.{Entry, It}
use Rattle.sn_node.specs.declared.route_free.Sent.TheVariants as out
use Rattle.sn_node.specs.Entry.{entry_of}
use Rattle.sn_node.specs.Routes.{EntryGoes}
use Rattle.sn_node.specs.RoutesFreely.{FreelyRoutes}
use Rattle.sn_node.specs.Seen.{node_of}
use Rattle.sn_node.proofs.node.Node.route_free.Goals as goal

pub returns-in-Err-clause-ok : goal.returns-in-Err-clause-ok
returns-in-Err-clause-ok c = λ r e is goes.
    let old = node_of c.args.self.now in
    let x = modelled c.in-Some-Item.item in
    let f : Option (Entry ModelItem) → Entry ModelItem = λ o. unwrap_or o e in
    let e_is : e ≡ It x = ap f (sym is ∙ c.in-Some-Item.ensures.taken.0) ∙ ap entry_of c.in-Some-Item.field-0-is in
    let to = c.in-Err.ensures r (subst (λ d. EntryGoes r d c.args.key) e_is goes) in
    subst (λ d. FreelyRoutes r d (stream_key c.args.key) (out.Item c.in-Err.item) old (node_of c.pop_plain.new.self)) (sym e_is)
    (record {
      other = to.other;
      same = to.same;
      now = c.in-Some-Item.ensures.taken.1 ∙ ap (λ children. passed (record old { children = children })) c.in_ok-reserve_kept.ensures.same;
    })
