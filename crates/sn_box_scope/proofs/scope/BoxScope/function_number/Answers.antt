use Rattle.std.proofs.Common.{◌≡◌, subst}
use Rattle.sn_box_scope.specs.Functions.{function_number}
use Rattle.sn_box_scope.proofs.FirstPlaces.{number_past}
use Rattle.sn_box_scope.proofs.scope.BoxScope.function_number.Goals as goal

pub returns-in-None : goal.returns-in-None
returns-in-None c =
    subst (λ declaration. c.len.result ≡ function_number declaration.funs c.args.name.now) c.self.view_is
    (number_past _ c.self.inside.names c.self.inside.places c.args.name.now c.find.result c.len.result c.self.invariant c.find.ensures.number c.in-None.is c.len.ensures)
