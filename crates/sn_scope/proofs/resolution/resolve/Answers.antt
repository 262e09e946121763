use Rattle.std.proofs.Common.{◌<◌, length, rules, ◌≡◌, ◌⊎◌, None, Ok, Err, sym, ap, ◌∙◌, subst}
use Rattle.std.proofs.lemmas.Result.{err_from_is_err_and}
use mathlib.Core.Logic.{inr}
use Rattle.sn_scope.specs.Declarations.{declarations_of}
use Rattle.sn_scope.specs.Numbering.{names_of}
use Rattle.sn_scope.specs.Resolution.{resolution, with_main}
use Rattle.sn_label_scope.specs.declared.fault.ScopeFault.TheVariants as cause
use Rattle.sn_scope.proofs.Resolving.{all_formed, has_main, not_refused, refused_at}
use Rattle.sn_scope.proofs.resolution.resolve.Goals as goal

pub returns-in-Some-clause-refused : goal.returns-in-Some-clause-refused
returns-in-Some-clause-refused c =
    let names : c.enter_decls.new.names ≡ names_of c.args.program.now = search rules in
    let st : c.declarations.new.self ≡ declarations_of c.enter_decls.new.names c.args.program.now = search rules in
    inr (refused_at c.args.program.now c.enter_decls.new.names c.declarations.new.self c.in-Some.refusal names st (sym c.least.ensures ∙ c.in-Some.is) ∙ ap Err (sym c.fault_of.ensures))

pub returns-in_err-parts-in-None-clause-refused : goal.returns-in_err-parts-in-None-clause-refused
returns-in_err-parts-in-None-clause-refused c =
    let p = err_from_is_err_and c.from_residual-in_err-parts-in-None.result c.from_residual-in_err-parts-in-None.ensures.1 in
    let names : c.enter_decls.new.names ≡ names_of c.args.program.now = search rules in
    let st : c.declarations.new.self ≡ declarations_of c.enter_decls.new.names c.args.program.now = search rules in
    let same : resolution c.args.program.now ≡ with_main c.enter_decls.new.names c.declarations.new.self c.declarations.new.self.main =
    not_refused c.args.program.now c.enter_decls.new.names c.declarations.new.self names st (sym c.least.ensures ∙ c.in-None.is) in
    rw (p.1, p.2) (subst (λ r. (c.in_err-parts-in-None.field-0.0 ≡ cause.Memory) ⊎ (r ≡ Err c.in_err-parts-in-None.field-0.0)) (sym same) c.in_err-parts-in-None.ensures.refused)

pub invariant_of-result : goal.invariant_of-result
invariant_of-result c =
    let st : c.declarations.new.self ≡ declarations_of c.enter_decls.new.names c.args.program.now = search rules in
    let none : c.declarations.new.self.refusals ≡ None = sym c.least.ensures ∙ c.in-None.is in
    let parts = c.in_ok-parts-in-None.parts in
    let formed = all_formed c.args.program.now c.enter_decls.new.names c.declarations.new.self parts st none c.in_ok-parts-in-None.ensures.ok in
    record {
      formed = λ k d below. ∣ formed k d below ∣₁;
      has_main = has_main c.enter_decls.new.names c.declarations.new.self parts c.in_ok-parts-in-None.ensures.ok;
    }

pub returns-in_ok-parts-in-None-clause-ok : goal.returns-in_ok-parts-in-None-clause-ok
returns-in_ok-parts-in-None-clause-ok c =
    let names : c.enter_decls.new.names ≡ names_of c.args.program.now = search rules in
    let st : c.declarations.new.self ≡ declarations_of c.enter_decls.new.names c.args.program.now = search rules in
    not_refused c.args.program.now c.enter_decls.new.names c.declarations.new.self names st (sym c.least.ensures ∙ c.in-None.is) ∙ c.in_ok-parts-in-None.ensures.ok
