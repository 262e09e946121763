use Rattle.std.proofs.Common.{rules, ◌≡◌, Some, ap, sym, subst}
use Rattle.sn_net.specs.declared.routing.Key.TheVariants as key
use Rattle.sn_stream.specs.declared.item.StreamItem.TheVariants as stream_item
use Rattle.std.specs.Prelude.{Option}
use Rattle.sn_stream.specs.declared.item.StreamItem.{StreamItem}
use Rattle.sn_component.specs.Kept.{entries_of}
use Rattle.sn_fork.specs.Facts.{Forks, Wants}
use Rattle.sn_fork.specs.Fork.{forking_of}
use Rattle.sn_fork.specs.Seen.{Forking}
use Rattle.sn_fork.proofs.Steps.{after_bypass}
use Rattle.sn_fork.proofs.fork.Fork.take_bypass.Goals as goal

pub invariant_of-self : goal.invariant_of-self
invariant_of-self c =
    let waits : c.self.inside.waiting ≡ Some (stream_item.Item c.in-Some-Item.item) = search rules in
    record {
      forks = subst (λ (o : Option StreamItem). Forks (record (forking_of c.self.inside) { waiting = entries_of o; decisions = c.note.new.self })) (sym c.take.ensures.after)
          (after_bypass (forking_of c.self.inside) c.self.invariant.forks c.in-Some-Item.item c.note.new.self
          (subst (λ (f : Forking). Wants f key.Bypass) (sym c.self.view_is) c.requires) (ap entries_of waits) c.in-Ok.ensures.ok);
      keyed = c.self.invariant.keyed;
    }
