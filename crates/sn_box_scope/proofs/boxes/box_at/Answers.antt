use Rattle.std.proofs.Common.{rules, map as each, ap, ◌∙◌}
use Rattle.sn_box_scope.specs.Expressions.{expr_required}
use Rattle.sn_box_scope.specs.Variables.{label_variable}
use Rattle.sn_box_scope.proofs.Programs.{made_closed, program_made, program_noted}
use Rattle.sn_box_scope.proofs.boxes.box_at.Goals as goal

pub returns-clause-program : goal.returns-clause-program
returns-clause-program c = program_made c.args.names.now c.args.declaration.now c.in_ok-scope.scope c.in_ok-input.input c.in_ok-outputs.outputs c.in_ok-funs.funs c.in_ok-body.body
    c.in_ok-scope.ensures.scope (search rules) (search rules) (search rules) (search rules)

pub returns-clause-refused : goal.returns-clause-refused
returns-clause-refused c = program_noted c.args.names.now c.args.declaration.now c.in_ok-scope.scope c.args.refusals.now c.tuple_at.new.refusals c.tuples_at.new.refusals c.new.new.refusals c.funs_at.new.refusals c.expr_at.new.refusals
    c.in_ok-scope.ensures.scope (search rules) (search rules) (search rules) (search rules)
    (c.in_ok-body.ensures.1 ∙ ap (λ variables. expr_required c.in_ok-scope.scope c.args.declaration.now.body variables c.funs_at.new.refusals) (c.in_ok-variables.ensures ∙ ap (each label_variable) c.as_slice-3.ensures))

pub returns-clause-closed : goal.returns-clause-closed
returns-clause-closed c = made_closed c.args.names.now c.args.declaration.now c.args.refusals.now _ _ (returns-clause-program c) (returns-clause-refused c)
