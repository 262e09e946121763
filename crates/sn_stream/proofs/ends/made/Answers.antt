use Rattle.std.proofs.Common.{◌∙◌, ap, ap₂, sym}
use Rattle.sn_stream.specs.Ends.{stated_at}
use Rattle.sn_stream.proofs.Flowing.{begins, splits}
use Rattle.sn_stream.proofs.Kept.{fresh}
use Rattle.sn_stream.proofs.ends.made.Goals as goal

pub ruled-requires-clause-rule : goal.ruled-requires-clause-rule
ruled-requires-clause-rule g c = begins

pub another-getting-requires-clause-rule : goal.another-getting-requires-clause-rule
another-getting-requires-clause-rule g c = splits _ _ _ c.in_ok-line.ensures.3

pub invariant_of-put : goal.invariant_of-put
invariant_of-put g c =
    let stream = c.in_ok-try_clone.ensures ∙ c.in_ok-stream.ensures.ok in
    let run = ap (λ s. s.run.value) stream ∙ c.of.ensures ∙ c.deref.ensures in
    let place = ap (λ s. s.place.value) stream ∙ c.of-2.ensures in
    let follows = fresh _ _ _ _ _ c.another-getting.ensures.rule.0 (c.requires.stated ∙ ap₂ stated_at (sym run) (sym place)) in
    let line = sym (ap (λ s. s.line.table.shared.table_id) stream) in
    ((c.another-getting.ensures.queue.0.0 ∙ c.in_ok-line.ensures.1.0 ∙ line, c.another-getting.ensures.queue.0.2 ∙ c.in_ok-line.ensures.1.1), follows.0, follows.1)

pub invariant_of-get : goal.invariant_of-get
invariant_of-get g c =
    let stream = c.in_ok-stream.ensures.ok in
    let run = ap (λ s. s.run.value) stream ∙ c.of.ensures ∙ c.deref.ensures in
    let place = ap (λ s. s.place.value) stream ∙ c.of-2.ensures in
    let follows = fresh _ _ _ _ _ c.another-getting.ensures.rule.1 (c.requires.stated ∙ ap₂ stated_at (sym run) (sym place)) in
    let line = sym (ap (λ s. s.line.table.shared.table_id) stream) in
    ((c.another-getting.ensures.queue.1.0 ∙ line, c.another-getting.ensures.queue.1.1), follows.0, follows.1)
