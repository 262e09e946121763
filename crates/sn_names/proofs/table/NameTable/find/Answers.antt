use Rattle.std.proofs.Common.{vec_items, if◌then◌else◌, Some, None, ap, ◌∙◌}
use Rattle.sn_names.specs.Names.{is_held, number_in}
use Rattle.sn_names.proofs.Places.{place_is}
use Rattle.sn_names.proofs.table.NameTable.find.Goals as goal

pub returns-in-Some-clause-number : goal.returns-in-Some-clause-number
returns-in-Some-clause-number c =
    let n = c.args.name.now in
    c.in-Some.ensures.index ∙ place_is vec_items c.self.inside.names.keys n ∙ ap (λ names. if is_held names n then Some (number_in names n) else None) c.self.view_is

pub returns-in-None-clause-number : goal.returns-in-None-clause-number
returns-in-None-clause-number c =
    let n = c.args.name.now in
    c.in-None.ensures.index ∙ place_is vec_items c.self.inside.names.keys n ∙ ap (λ names. if is_held names n then Some (number_in names n) else None) c.self.view_is
