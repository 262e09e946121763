use Rattle.std.proofs.Common.{sym, subst, inl, inr, refl}
use Rattle.std.proofs.lemmas.Result.{MatchResult-weaker}
use Rattle.sn_input.specs.Steps.{EndsWith}
use Rattle.sn_input.proofs.Going.{on_ok_both}
use Rattle.sn_input.proofs.OneLine.{none_goes, record_ends, record_goes, refused_line, some_gives}
use Rattle.sn_input.proofs.reading.take_line.Goals as goal

pub returns-in-Err-clause-ends : goal.returns-in-Err-clause-ends
returns-in-Err-clause-ends c = refused_line c.args.input.now c.args.number c.args.line.now c.in-Err.fault c.read_line.new.names c.len-is_full.result _ c.refusal_at.result c.in-Err.ensures.refused c.len-is_full.ensures c.requires refl c.refusal_at.ensures

pub returns-in-None-clause-goes_on : goal.returns-in-None-clause-goes_on
returns-in-None-clause-goes_on c = none_goes c.args.input.now c.args.number c.args.line.now c.in-Ok.found c.read_line.new.names c.in-Ok.ensures.given c.in-None.is

pub returns-in-Some-clause-goes_on : goal.returns-in-Some-clause-goes_on
returns-in-Some-clause-goes_on c =
    let gives = some_gives c.args.input.now c.args.line.now c.in-Ok.found c.in-Some.made c.read_line.new.names c.in-Ok.ensures.given c.in-Some.is in
    on_ok_both c.add_record.result c.add_record.ensures.added c.add_record.ensures.added
    (λ adds _. record_goes c.args.input.now c.args.number c.args.line.now c.in-Some.made c.read_line.new.names c.add_record.new.input gives adds)

pub returns-in-Some-clause-ends : goal.returns-in-Some-clause-ends
returns-in-Some-clause-ends c =
    let gives = some_gives c.args.input.now c.args.line.now c.in-Ok.found c.in-Some.made c.read_line.new.names c.in-Ok.ensures.given c.in-Some.is in
    MatchResult-weaker c.add_record.result c.add_record.ensures.refused (λ x _. tt)
    (λ fault refused. elim refused [
      | inl memory ↦ inl memory
      | inr full ↦ inr (subst (EndsWith c.args.input.now c.args.number c.args.line.now) (sym full.1) (record_ends c.args.input.now c.args.number c.args.line.now c.in-Some.made c.read_line.new.names gives full.0))
    ])
