use Rattle.std.proofs.Common.{rules, ◌≡◌, false, sym, ◌∙◌}
use Rattle.sn_names.specs.Names.{is_held}
use Rattle.sn_names.proofs.NamesLaws.{number_in-new}
use Rattle.sn_names.proofs.table.NameTable.number.Goals as goal

pub returns-in-None-clause-number : goal.returns-in-None-clause-number
returns-in-None-clause-number c =
    let fresh : is_held c.args.self.now c.args.name.now ≡ false = search rules in
    c.count.ensures.number ∙ sym (number_in-new c.args.self.now c.args.name.now fresh)
