-- How the node of a fork keeps what contracts see of it.
use Rattle.std.specs.Prelude.{map}
use Rattle.sn_net.specs.Dispatchers.{stream_key}
use Rattle.sn_component.specs.Kept.{entries_of}
use Rattle.sn_fork.specs.declared.fork.Child.{Child}
use Rattle.sn_fork.specs.declared.fork.Fork.TheInside.{Inside}
use Rattle.sn_fork.specs.Facts.{Forks}
use Rattle.sn_fork.specs.Seen.{ChildSeen, Forking}
use Rattle.sn_fork.specs.Table.{AreKeyed}

abbrev pub child_seen : Child → ChildSeen
child_seen c = record { key = stream_key c.key; to = c.to.put; held = c.to.held.items; from = c.from }

abbrev pub forking_of : Inside → Forking
forking_of f = record {
  run = f.run.value;
  path = f.path;
  left = f.left;
  steps = f.steps;
  input = f.input;
  waiting = entries_of f.waiting;
  decisions = f.decisions;
  children = map child_seen f.children.items;
  output = f.output.put;
  held = f.output.held.items;
}

-- what it keeps: the facts of a fork, and a table that finds the child for each value
pub record Keeps (f : Inside) : Type 0 where
  pub forks : Forks (forking_of f)
  pub keyed : AreKeyed (map child_seen f.children.items) f.replicas
