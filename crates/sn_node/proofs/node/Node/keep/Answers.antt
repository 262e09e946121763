use Rattle.sn_node.specs.Child.{child_of}
use Rattle.sn_node.proofs.Kept.{as_many}
use Rattle.sn_node.proofs.node.Node.keep.Goals as goal

pub returns-clause-children : goal.returns-clause-children
returns-clause-children c = as_many child_of _ c.args.c c.args.self.now.children.list.items c.keep.new.self.list.items c.keep.ensures.kept
