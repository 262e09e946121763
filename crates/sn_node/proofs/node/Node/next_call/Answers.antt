use Rattle.std.proofs.Common.{◌∙◌, ap}
use Rattle.std.specs.Prelude.{Some}
use Rattle.sn_node.specs.Seen.{waiting_of}
use Rattle.sn_node.proofs.Changes.{seen_get}
use Rattle.sn_node.proofs.Free.{any_free, any_free_before, free_contradicts}
use Rattle.sn_node.proofs.node.Node.next_call.Goals as goal

pub returns-in-Some-2 : goal.returns-in-Some-2
returns-in-Some-2 c =
    let ws = c.args.self.now.waiting.entries.items in
    record {
      before = any_free_before ws c.in-Some.p ∙ c.in-Some.ensures.before;
      here = seen_get waiting_of ws c.in-Some.p c.index.result.now c.in-Some.ensures.within c.index.ensures ∙ ap (λ v. Some v) (rw c.in-Some-2.is at c.in_ok-given-in-Some.ensures);
    }

pub returns-in-None-2 : goal.returns-in-None-2
returns-in-None-2 c =
    free_contradicts c.args.self.now.waiting.entries.items c.in-Some.p c.index.result.now c.in-Some.ensures.within c.index.ensures c.in-Some.ensures.free
    (rw c.in-None-2.is at c.in_ok-given-in-Some.ensures)

pub returns-in-None : goal.returns-in-None
returns-in-None c = any_free c.args.self.now.waiting.entries.items ∙ c.in-None.ensures.none
