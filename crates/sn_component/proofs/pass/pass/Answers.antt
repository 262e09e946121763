use Rattle.std.proofs.Common.{rules, ◌≡◌, false, sym, subst, ◌∙◌}
use Rattle.sn_record.specs.declared.item.Item.TheVariants as item
use Rattle.sn_net.specs.declared.net.Net.TheViews.{out-Net}
use Rattle.sn_net.specs.Item.{Rec}
use Rattle.sn_model.specs.Run.{setting_of}
use Rattle.sn_stream.specs.declared.item.StreamItem.{StreamItem}
use Rattle.sn_stream.specs.declared.item.StreamItem.TheVariants as stream_item
use Rattle.sn_stream.specs.Ends.{entry_of}
use Rattle.sn_facts.specs.Working.{gives_on}
use Rattle.sn_routed.specs.Routed.{has_stuck}
use Rattle.sn_component.specs.Component.{machine_of, state_of}
use Rattle.sn_component.proofs.Passing.{stuck_items}
use Rattle.sn_component.proofs.pass.pass.Goals as goal

pub pass_record-requires-clause-routed : goal.pass_record-requires-clause-routed
pass_record-requires-clause-routed g c κs within =
    let is : c.args.x ≡ stream_item.Item (item.Rec c.in-Item-Rec.r) = search rules in
    sym (stuck_items ((machine_of (setting_of c.args.run.now) (out-Net c.args.part.now)).emits (state_of c.args.keeps.now) (Rec c.in-Item-Rec.r)))
    ∙ subst (λ (x : StreamItem). has_stuck (gives_on (machine_of (setting_of c.args.run.now) (out-Net c.args.part.now)) (state_of c.args.keeps.now) (entry_of x)) ≡ false) is c.requires.routed
