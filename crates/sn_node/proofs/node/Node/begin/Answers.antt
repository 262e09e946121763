use Rattle.std.proofs.Common.{sym, ap, ◌∙◌}
use Rattle.sn_net.specs.Item.{Rec}
use Rattle.sn_view.specs.View.{InFlight, It, Plain}
use Rattle.sn_view.specs.Next.{in_call}
use Rattle.sn_node.specs.declared.entry.Entry.TheVariants as entry
use Rattle.sn_node.specs.declared.entry.Waiting.TheVariants as waiting
use Rattle.sn_node.specs.Seen.{node_of}
use Rattle.sn_node.proofs.Answering.{put_answered}
use Rattle.sn_node.proofs.Calling.{begun_at, flying_answered, put_twice, seen_there, seen_within, set_within}
use Rattle.sn_node.proofs.Free.{any_free_before}
use Rattle.sn_node.proofs.node.Node.begin.Goals as goal

pub begin-free-requires-clause-before : goal.begin-free-requires-clause-before
begin-free-requires-clause-before c = sym (any_free_before c.args.self.now.waiting.entries.items c.args.p) ∙ c.requires.1.before

pub put-mark-requires-clause-within : goal.put-mark-requires-clause-within
put-mark-requires-clause-within c =
    let ws = c.args.self.now.waiting.entries.items in
    set_within ws c.begin-free.new.self.entries.items c.args.p (waiting.Plain entry.Mark) c.begin-free.ensures.items
    (seen_within ws c.args.p (Plain (It (Rec c.requires.0))) c.requires.1.here)

pub invariant_of-self : goal.invariant_of-self
invariant_of-self c =
    let made = c.args.self.now.made in
    let ws = c.args.self.now.waiting.entries.items in
    let flies = c.in_call.ensures.seen ∙ ap (in_call c.args.call) (seen_there ws c.args.p c.begin-free.result (Plain (It (Rec c.requires.0))) c.begin-free.ensures.was c.requires.1.here) in
    record {
      answered =
          put_answered made.run.value made.path ws c.begin-free.new.self.entries.items c.put-mark.new.self.entries.items c.args.p entry.Mark c.in_call.result c.begin-free.ensures.items c.put-mark.ensures.items
          (flying_answered made.run.value made.path c.in_call.result c.args.call c.requires.0 flies) c.args.self.now.answered;
      woken = c.args.self.now.woken;
    }

pub returns-clause-begun : goal.returns-clause-begun
returns-clause-begun c = λ given next.
    let ws = c.args.self.now.waiting.entries.items in
    let flies = c.in_call.ensures.seen ∙ ap (in_call c.args.call) (seen_there ws c.args.p c.begin-free.result (Plain (It (Rec given))) c.begin-free.ensures.was next.here) in
    begun_at c.args.p c.args.call given (node_of c.args.self.now) _ next
    (ap (λ xs. record (node_of c.args.self.now) { waiting = xs })
    (put_twice ws c.begin-free.new.self.entries.items c.put-mark.new.self.entries.items c.args.p (waiting.Plain entry.Mark) c.in_call.result (InFlight c.args.call given) c.begin-free.ensures.items c.put-mark.ensures.items flies))
