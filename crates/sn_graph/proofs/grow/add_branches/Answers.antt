use Rattle.std.proofs.Common.{◌≡◌, ◌+◌, ◌++◌, List, ◌∷◌, [], arith, rules, refl, sym, ap, subst, ◌∙◌, map}
use Rattle.std.proofs.lemmas.List.{append-nil, drop_all, length-map}
use Rattle.sn_streams.specs.Keys as key
use Rattle.sn_view.specs.Parts.{branch_children, own_child, plan}
use Rattle.sn_view.specs.View.{Child}
use Rattle.sn_node.specs.Seen.{node_of}
use Rattle.sn_graph.specs.Grown.{IsForkWith}
use Rattle.sn_graph.proofs.Changes.{drop_seen}
use Rattle.sn_graph.proofs.Branches.{FirstBranches, children_more, fork_more, next_first, own_first}
use Rattle.sn_graph.proofs.grow.add_branches.Goals as goal

pub loop-i-init : goal.loop-i-init
loop-i-init c =
    let ps = map (plan c.args.depth) c.args.branches.now in
    record {
      fork = λ merge is. subst (λ (cs : List Child). IsForkWith merge cs (node_of c.args.node.now) (node_of c.args.node.now)) (sym c.requires.own) is;
      children = ap (λ cs. cs ++ branch_children 0 c.args.first ps) c.requires.own;
      new = subst (FirstBranches 0) (sym c.requires.own) (own_first (own_child c.args.number) refl);
      made = refl;
    }

pub add_child-requires : goal.add_child-requires
add_child-requires c = c.loop-i.invariant.new c.loop-i.i (search (arith, rules))

pub loop-i-preserved : goal.loop-i-preserved
loop-i-preserved c =
    let ps = map (plan c.args.depth) c.args.branches.now in
    let before = (node_of c.loop-i.node).children in
    let one : Child = record { key = key.Branch c.loop-i.i; entry = c.loop-i.entry; kept = [] } in
    let more : (node_of c.add_child.new.self).children ≡ before ++ one ∷ [] = ap (λ n. n.children) c.in_ok-add_child.ensures.ok in
    record {
      fork = λ merge is. subst (λ (cs : List Child). IsForkWith merge cs (node_of c.args.node.now) (node_of c.add_child.new.self)) (sym more)
          (fork_more merge before (key.Branch c.loop-i.i) c.loop-i.entry (node_of c.args.node.now) (node_of c.loop-i.node) (node_of c.add_child.new.self) (c.loop-i.invariant.fork merge is) c.in_ok-add_child.ensures.ok);
      children =
          children_more before (node_of c.add_child.new.self).children c.loop-i.i c.loop-i.entry c.in_ok-entry.entry c.in_ok-more.more ps (plan c.args.depth c.index-branches-i.result)
          (own_child c.args.number ∷ branch_children 0 c.args.first ps) more
          (drop_seen (plan c.args.depth) c.args.branches.now c.loop-i.i c.index-branches-i.result (search (rules, arith)) c.index-branches-i.is)
          c.in_ok-entry.ensures c.in_ok-more.ensures c.loop-i.invariant.children;
      new = subst (FirstBranches (c.loop-i.i + 1)) (sym more) (next_first c.loop-i.i before one refl c.loop-i.invariant.new);
      made = c.in_ok-add_child.ensures.made ∙ c.loop-i.invariant.made;
    }

pub returns-clause-ok : goal.returns-clause-ok
returns-clause-ok c = λ merge is.
    let ps = map (plan c.args.depth) c.args.branches.now in
    let long = length-map c.args.branches.now (plan c.args.depth) in
    let all : (node_of c.loop-i.node).children ≡ own_child c.args.number ∷ branch_children 0 c.args.first ps =
    sym (ap (λ qs. (node_of c.loop-i.node).children ++ branch_children c.loop-i.i c.loop-i.entry qs) (drop_all c.loop-i.i ps (omega (arith, long, c.loop-i-test.false))) ∙ append-nil (node_of c.loop-i.node).children) ∙ c.loop-i.invariant.children in
    subst (λ (cs : List Child). IsForkWith merge cs (node_of c.args.node.now) (node_of c.loop-i.node)) all (c.loop-i.invariant.fork merge is)

pub returns-clause-made : goal.returns-clause-made
returns-clause-made c = c.loop-i.invariant.made

pub returns-in_err-add_child-clause-made : goal.returns-in_err-add_child-clause-made
returns-in_err-add_child-clause-made c = c.add_child.ensures.made ∙ c.loop-i.invariant.made

pub returns-in_err-more-clause-made : goal.returns-in_err-more-clause-made
returns-in_err-more-clause-made c = c.add_child.ensures.made ∙ c.loop-i.invariant.made

pub returns-in_err-entry-clause-made : goal.returns-in_err-entry-clause-made
returns-in_err-entry-clause-made c = c.add_child.ensures.made ∙ c.loop-i.invariant.made
