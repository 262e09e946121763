use Rattle.std.proofs.Common.{◌≡◌, List, Some, None, not, ap₂, sym, ◌∙◌}
use Rattle.std.specs.List.{position}
use Rattle.sn_record.specs.LabelSet.{Labels}
use Rattle.sn_record.specs.Record.{Entries}
use Rattle.sn_load.specs.Load.{IsTypedFile}
use Rattle.sn_pieces.specs.Lines.{is_of_type}
use Rattle.sn_load.proofs.Loading.{line_there, typed, untyped}
use Rattle.sn_load.proofs.Typing.{records_typed}
use Rattle.sn_load.proofs.load.read_input.Goals as goal

pub at-requires : goal.at-requires
at-requires c =
    let first : position (λ (r : Entries). not (is_of_type c.args.claim.now.input r)) c.in_ok-input.input.records ≡ Some c.in-Some.i =
    ap₂ (λ (vs : List Labels) (rs : List Entries). position (λ r. not (is_of_type vs r)) rs) (sym c.as_slice.ensures) (sym c.as_slice-2.ensures) ∙ sym c.first_untyped.ensures ∙ c.in-Some.is in
    line_there c.args.names c.args.claim.now c.args.bytes.now c.in_ok-input.input c.in_ok-input.ensures.answer c.in-Some.i first

pub returns-in-Some-clause-ended : goal.returns-in-Some-clause-ended
returns-in-Some-clause-ended c =
    let first : position (λ (r : Entries). not (is_of_type c.args.claim.now.input r)) c.in_ok-input.input.records ≡ Some c.in-Some.i =
    ap₂ (λ (vs : List Labels) (rs : List Entries). position (λ r. not (is_of_type vs r)) rs) (sym c.as_slice.ensures) (sym c.as_slice-2.ensures) ∙ sym c.first_untyped.ensures ∙ c.in-Some.is in
    untyped c.args.names c.args.claim.now c.args.bytes.now c.in_ok-input.input c.in_ok-input.ensures.answer c.in-Some.i c.at.result.now first c.at.ensures

read_typed : (c : goal.In-None) → IsTypedFile c.args.names c.args.claim.now c.args.bytes.now c.in_ok-input.input
read_typed c =
    let none : position (λ (r : Entries). not (is_of_type c.args.claim.now.input r)) c.in_ok-input.input.records ≡ None =
    ap₂ (λ (vs : List Labels) (rs : List Entries). position (λ r. not (is_of_type vs r)) rs) (sym c.as_slice.ensures) (sym c.as_slice-2.ensures) ∙ sym c.first_untyped.ensures ∙ c.in-None.is in
    typed c.args.names c.args.claim.now c.args.bytes.now c.in_ok-input.input c.in_ok-input.ensures.answer none

pub returns-in-None-clause-read : goal.returns-in-None-clause-read
returns-in-None-clause-read c = read_typed c

pub returns-in-None-clause-typed : goal.returns-in-None-clause-typed
returns-in-None-clause-typed c = λ boxes accepted. records_typed boxes c.args.claim.now accepted c.in_ok-input.input.records (read_typed c).typed
