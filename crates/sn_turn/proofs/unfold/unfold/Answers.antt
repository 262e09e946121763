use Rattle.std.proofs.Common.{rules, ◌≡◌, [], ◌∷◌, ◌++◌, ap, sym, subst}
use Rattle.std.specs.Prelude.{Option, Some, unwrap_or}
use Rattle.std.specs.Option.{option_map}
use Rattle.sn_net.specs.declared.net.Net.{Net}
use Rattle.sn_turn.specs.Nodes.{Grown}
use Rattle.sn_net.specs.declared.net.Net.TheViews.{out-Net}
use Rattle.sn_view.specs.Parts.{part_at}
use Rattle.sn_fork.specs.Fork.{child_seen}
use Rattle.sn_fork.specs.Seen.{Forking}
use Rattle.sn_turn.specs.Turns.{replica_parts}
use Rattle.sn_turn.proofs.Nodes.{grown_behind}
use Rattle.sn_turn.proofs.unfold.unfold.Goals as goal

pub returns-clause-ok : goal.returns-clause-ok
returns-clause-ok c =
    let f : Forking = c.args.fork.now in
    let added : c.add_child.new.self ≡ record f { children = f.children ++ child_seen c.in_ok-made.made.child ∷ [] } = search rules in
    let there : part_at f.run.net f.path ≡ Some c.in-Some.part.now = search rules in
    let behind : c.append.new.self.items ≡ c.args.spawned.now.items ++ c.in_ok-made.made.nodes.items = search rules in
    record {
      child = child_seen c.in_ok-made.made.child;
      fork = added;
      fresh = c.in_ok-made.ensures.new;
      grown = subst (Grown c.args.spawned.now.items c.append.new.self.items)
          (ap (λ (o : Option Net). unwrap_or (option_map (λ net. replica_parts (out-Net net) f.path) o) []) (sym there))
          (grown_behind c.args.spawned.now.items c.in_ok-made.made.nodes.items c.append.new.self.items (replica_parts (out-Net c.in-Some.part.now) f.path) behind c.in_ok-made.ensures.grown);
    }
