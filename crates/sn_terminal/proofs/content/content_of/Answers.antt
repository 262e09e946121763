use Rattle.std.proofs.Common.{◌∙◌, subst, ℕ, ◌-◌, List, ap, take, drop, length}
use Rattle.std.proofs.lemmas.List.{drop_more, drop_all}
use Rattle.sn_lexer.specs.Spelling.{quoted}
use Rattle.sn_terminal.proofs.Contents.{IsReadUpTo, between, nothing_read, step_backslash, step_escaped, step_other, read_whole}
use Rattle.sn_terminal.proofs.content.content_of.Goals as goal
use Rattle.sn_terminal.proofs.content.content_of.Goals.{then-byte-eq92+then-not-is_escaped, else-byte-eq92+in_ok-append, else-byte-eq92-via-then-byte-eq92+else-not-is_escaped, else-byte-eq92-via-else-byte-eq92}

pub loop-byte-init : goal.loop-byte-init
loop-byte-init c = λ content is. rw c.new-content.ensures (nothing_read content _ (between c.args.word.now _ 34 34 is))

pub loop-byte-preserved : goal.loop-byte-preserved
loop-byte-preserved c = λ content is.
    let inside : List ℕ = take (length c.args.word.now - 1 - 1) (drop 1 c.args.word.now) in
    let here = subst (IsReadUpTo content c.loop-byte.content c.loop-byte.is_escaped) (drop_more inside c.loop-byte.byte-index 0 c.loop-byte-test.true) (c.loop-byte.invariant content is) in
    elim c.if-byte-eq92.branch [
      | then-byte-eq92+then-not-is_escaped w ↦ step_backslash _ _ _ _ _ _ _ w.if-not-is_escaped.true w.if-byte-eq92.true w.content-is w.is_escaped-is here
      | else-byte-eq92+in_ok-append w ↦ elim w.else-byte-eq92.branch [
        | else-byte-eq92-via-then-byte-eq92+else-not-is_escaped v ↦ step_escaped _ _ _ _ _ _ _ v.if-not-is_escaped.false (w.content-is ∙ w.in_ok-append.ensures.ok) w.is_escaped-is here
        | else-byte-eq92-via-else-byte-eq92 v ↦ step_other _ _ _ _ _ _ _ v.if-byte-eq92.false (w.content-is ∙ w.in_ok-append.ensures.ok) w.is_escaped-is here
      ]
    ]

pub returns : goal.returns
returns c =
    let is = c.requires in
    let inside : List ℕ = take (length c.args.word.now - 1 - 1) (drop 1 c.args.word.now) in
    let read = subst (IsReadUpTo is.0 c.loop-byte.content c.loop-byte.is_escaped) (drop_all c.loop-byte.byte-index inside c.loop-byte-test.false) (c.loop-byte.invariant is.0 is.1) in
    is.1 ∙ ap (λ content. quoted content) (read_whole is.0 c.loop-byte.content c.loop-byte.is_escaped read)
