use Rattle.std.proofs.Common.{◌≡◌, arith, drop, map, ap, sym, ◌∙◌}
use Rattle.std.specs.Prelude.{slice_get}
use Rattle.std.specs.List.{list_any}
use Rattle.sn_view.specs.Next.{may_merge_by}
use Rattle.sn_view.specs.View as view
use Rattle.sn_node.specs.Child.{child_of}
use Rattle.sn_node.proofs.Awake.{nothing_ready}
use Rattle.sn_node.proofs.freely.Freely.next.Goals as goal

pub returns-clause-none : goal.returns-clause-none
returns-clause-none c =
    let self = c.args.self.now in
    let children = map child_of c.args.children.now.list.items in
    let start : c.loop-i.i ≡ 0 = omega (arith, c.loop-i-test.false) in
    nothing_ready self.fork self.waking.stack.items children c.requires.1
    (ap (list_any (λ c. may_merge_by (view.Freely self.fork) c (slice_get children c))) (sym (ap (λ i. drop i c.as_slice-listed.result.now) start ∙ c.as_slice-listed.ensures)) ∙ c.loop-i.invariant.1)
