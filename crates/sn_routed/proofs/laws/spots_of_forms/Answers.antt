use Rattle.std.proofs.Common.{ap, sym, ◌∙◌}
use Rattle.std.specs.Option.{option_map}
use Rattle.sn_streams.specs.Keys.{Branch, Inside, Value}
use Rattle.sn_histories.specs.Sites.{Into, Left, Right}
use Rattle.sn_net.specs.declared.net.Net.TheOpen.{Net-F}
use Rattle.sn_net.specs.declared.net.Net.TheVariants.{rolls-Choice, rolls-Serial, rolls-Split, rolls-Star}
use Rattle.sn_net.specs.declared.net.Net.TheViews.{out-Net, out-roll-Net}
use Rattle.sn_net_histories.specs.Histories.{Whole}
use Rattle.sn_routed.specs.Spots.{from_form}
use Rattle.sn_routed.proofs.laws.spots_of_forms.Goals as goal

pub returns-clause-left : goal.returns-clause-left
returns-clause-left c = λ depth a b. ap (λ y. from_form depth y Left) (ap out-Net (sym (rolls-Serial a b)) ∙ out-roll-Net (Net-F.Serial a b))

pub returns-clause-right : goal.returns-clause-right
returns-clause-right c = λ depth a b. ap (λ y. from_form depth y Right) (ap out-Net (sym (rolls-Serial a b)) ∙ out-roll-Net (Net-F.Serial a b))

pub returns-clause-branch : goal.returns-clause-branch
returns-clause-branch c = λ depth place m branches faces i net is.
    ap (λ y. from_form depth y (Into (Branch i))) (ap out-Net (sym (rolls-Choice place m branches faces)) ∙ out-roll-Net (Net-F.Choice place m branches faces)) ∙ ap (option_map Whole) is

pub returns-clause-inside : goal.returns-clause-inside
returns-clause-inside c = λ depth place m body exit guard.
    ap (λ y. from_form depth y (Into Inside)) (ap out-Net (sym (rolls-Star place m body exit guard)) ∙ out-roll-Net (Net-F.Star place m body exit guard))

pub returns-clause-replica : goal.returns-clause-replica
returns-clause-replica c = λ depth place m body id n.
    ap (λ y. from_form depth y (Into (Value n))) (ap out-Net (sym (rolls-Split place m body id)) ∙ out-roll-Net (Net-F.Split place m body id))
