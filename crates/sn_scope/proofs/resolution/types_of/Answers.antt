use Rattle.std.proofs.Common.{◌≤◌, [], length, sym, ap, ◌∙◌, arith}
use Rattle.std.proofs.lemmas.List.{get_or_past}
use Rattle.std.proofs.lemmas.Option.{get_or_from_slice_get}
use Rattle.sn_scope.specs.declared.declarations.Signature.{Signature}
use Rattle.sn_scope.proofs.resolution.types_of.Goals as goal

abbrev none : Signature
none = record { input = []; output = [] }

pub returns-then-number-len-clause-input : goal.returns-then-number-len-clause-input
returns-then-number-len-clause-input c =
    let past : length c.args.declarations.now.signatures ≤ c.args.number = omega (arith, c.len.ensures, c.if-number-len.true) in
    c.new.ensures ∙ sym (ap (λ s. s.input) (get_or_past c.args.declarations.now.signatures c.args.number none past))

pub returns-then-number-len-clause-output : goal.returns-then-number-len-clause-output
returns-then-number-len-clause-output c =
    let past : length c.args.declarations.now.signatures ≤ c.args.number = omega (arith, c.len.ensures, c.if-number-len.true) in
    c.new-then-number-len.ensures ∙ sym (ap (λ s. s.output) (get_or_past c.args.declarations.now.signatures c.args.number none past))

pub returns-clause-input : goal.returns-clause-input
returns-clause-input c =
    c.in_ok-input.ensures ∙ c.as_slice.ensures ∙ sym (ap (λ s. s.input) (get_or_from_slice_get c.args.declarations.now.signatures c.args.number c.at-signature.result.now none c.at-signature.ensures))

pub returns-clause-output : goal.returns-clause-output
returns-clause-output c =
    c.in_ok-output.ensures ∙ c.as_slice-2.ensures ∙ sym (ap (λ s. s.output) (get_or_from_slice_get c.args.declarations.now.signatures c.args.number c.at-signature.result.now none c.at-signature.ensures))
