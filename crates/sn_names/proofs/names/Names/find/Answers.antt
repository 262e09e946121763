use Rattle.std.proofs.Common.{sym, subst}
use Rattle.sn_names.specs.Names.{is_held, number_in, IsHeld}
use Rattle.sn_names.proofs.Labels.{found_place, place_is_held}
use Rattle.sn_names.proofs.names.Names.find.Goals as goal

pub returns-in-Some-clause-held : goal.returns-in-Some-clause-held
returns-in-Some-clause-held c =
    let table = c.self.inside.table in
    let name = c.args.name.now in
    subst (λ names. IsHeld names c.numbered.result) c.self.view_is
    (subst (IsHeld table) (sym c.numbered.ensures)
    (place_is_held table name c.in-Some.place (found_place (is_held table name) c.in-Some.place (number_in table name) c.in-Some.ensures.number) c.in-Some.ensures.within))
