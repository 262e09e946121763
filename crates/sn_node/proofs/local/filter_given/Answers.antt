use Rattle.std.proofs.Common.{IsTrue, subst}
use Rattle.std.specs.List.{list_all}
use Rattle.sn_net.specs.Item.{modelled}
use Rattle.sn_model.specs.Components.{filter_item}
use Rattle.sn_view.specs.View.{It}
use Rattle.sn_view.specs.Next.{answering_entry}
use Rattle.sn_view.specs.Routed.{is_going}
use Rattle.sn_node.specs.Entry.{entry_of}
use Rattle.sn_node.proofs.Forms.{routed_matches}
use Rattle.sn_node.proofs.local.filter_given.Goals as goal

pub apply-requires-clause-matches : goal.apply-requires-clause-matches
apply-requires-clause-matches c =
    routed_matches c.args.filter.now c.in-Rec.taken
    (subst (λ x. IsTrue (list_all is_going (answering_entry (filter_item c.args.filter.now) (It (modelled x))))) c.in-Rec.is
    (subst (λ e. IsTrue (list_all is_going (answering_entry (filter_item c.args.filter.now) (entry_of e)))) c.in-Item.is c.requires.routed))
