use Rattle.std.proofs.Common.{ap}
use Rattle.sn_view.specs.View.{InFlight, Finished}
use Rattle.sn_node.specs.declared.entry.Entry.TheVariants as entry
use Rattle.sn_node.specs.declared.entry.Waiting.TheVariants as waiting
use Rattle.sn_node.specs.Seen.{node_of, waiting_of}
use Rattle.sn_node.specs.Waiting.{is_free}
use Rattle.sn_node.proofs.Answering.{put_answered}
use Rattle.sn_node.proofs.Calling.{finished_answered, put_twice, seen_there, seen_within, set_within}
use Rattle.sn_node.proofs.node.Node.finish.Goals as goal

pub finished-requires : goal.finished-requires
finished-requires c =
    (c.requires.call, (c.requires.given, seen_there c.args.self.now.waiting.entries.items c.args.p c.put-flying.result (InFlight c.requires.call c.requires.given) c.put-flying.ensures.was c.requires.flies))

pub put-mark-requires-clause-within : goal.put-mark-requires-clause-within
put-mark-requires-clause-within c =
    let ws = c.args.self.now.waiting.entries.items in
    set_within ws c.put-flying.new.self.entries.items c.args.p (waiting.Plain entry.Mark) c.put-flying.ensures.items
    (seen_within ws c.args.p (InFlight c.requires.call c.requires.given) c.requires.flies)

pub put-mark-requires-clause-called : goal.put-mark-requires-clause-called
put-mark-requires-clause-called c =
    let flies = seen_there c.args.self.now.waiting.entries.items c.args.p c.put-flying.result (InFlight c.requires.call c.requires.given) c.put-flying.ensures.was c.requires.flies in
    ap is_free (c.finished.ensures c.requires.call c.requires.given flies)

pub invariant_of-self : goal.invariant_of-self
invariant_of-self c =
    let made = c.args.self.now.made in
    let ws = c.args.self.now.waiting.entries.items in
    let flies = seen_there ws c.args.p c.put-flying.result (InFlight c.requires.call c.requires.given) c.put-flying.ensures.was c.requires.flies in
    record {
      answered =
          put_answered made.run.value made.path ws c.put-flying.new.self.entries.items c.put-mark.new.self.entries.items c.args.p entry.Mark c.finished.result c.put-flying.ensures.items c.put-mark.ensures.items
          (finished_answered made.run.value made.path c.finished.result c.requires.given c.args.items (c.finished.ensures c.requires.call c.requires.given flies) c.requires.answer) c.args.self.now.answered;
      woken = c.args.self.now.woken;
    }

pub returns-clause-finished : goal.returns-clause-finished
returns-clause-finished c = λ call given here.
    let ws = c.args.self.now.waiting.entries.items in
    let done = ap waiting_of (c.finished.ensures call given (seen_there ws c.args.p c.put-flying.result (InFlight call given) c.put-flying.ensures.was here)) in
    ap (λ xs. record (node_of c.args.self.now) { waiting = xs })
    (put_twice ws c.put-flying.new.self.entries.items c.put-mark.new.self.entries.items c.args.p (waiting.Plain entry.Mark) c.finished.result (Finished given) c.put-flying.ensures.items c.put-mark.ensures.items done)
