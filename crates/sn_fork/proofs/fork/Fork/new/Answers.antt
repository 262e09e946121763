use Rattle.std.proofs.Common.{rules, List, [], map, refl, sym, subst}
use Rattle.sn_dispatch.specs.declared.det_fork.Decision.{Decision}
use Rattle.sn_stream.specs.Ends.{End}
use Rattle.sn_stream.specs.declared.item.StreamItem.{StreamItem}
use Rattle.sn_fork.specs.Facts.{Forks}
use Rattle.sn_fork.specs.Fork.{child_seen}
use Rattle.sn_fork.specs.Seen.{Forking}
use Rattle.sn_fork.proofs.Taking.{fresh_forks}
use Rattle.sn_fork.proofs.Table.{keyed_first}
use Rattle.sn_fork.proofs.fork.Fork.new.Goals as goal

pub invariant_of-result : goal.invariant_of-result
invariant_of-result c =
    let fresh : Forking = record {
      run = c.args.run.value;
      path = c.args.path;
      left = c.args.left;
      steps = c.args.steps;
      input = c.args.input;
      waiting = [];
      decisions = [];
      children = map child_seen c.args.children.items;
      output = c.args.output;
      held = [];
    } in
    record {
      forks = subst (λ (u : List Decision × (End × List StreamItem)). Forks (record fresh { decisions = u.0; output = u.1.0; held = u.1.1 }))
          (λ i. (sym c.new.ensures i, (sym c.new-3.ensures.put i, sym c.new-3.ensures.held i)))
          (fresh_forks fresh c.requires.stands c.requires.got refl refl c.requires.put refl c.requires.children);
      keyed = keyed_first (map child_seen c.args.children.items) c.new-2.result (λ v. search rules) c.requires.replicas;
    }
