use Rattle.std.proofs.Common.{◌≡◌, map, get_or, vec_items, length, sym, ap, ◌∙◌, arith}
use Rattle.std.proofs.lemmas.List.{length-map}
use Rattle.sn_names.specs.Names.{number_in, name_at}
use Rattle.sn_names.proofs.NamesLaws.{number_in-name_at}
use Rattle.sn_names.proofs.Places.{name_at-key}
use Rattle.sn_names.proofs.table.NameTable.name_of.Goals as goal

pub returns-clause-number : goal.returns-clause-number
returns-clause-number c =
    let keys = c.self.inside.names.keys in
    let names = map vec_items keys in
    let many : length names ≡ length c.args.self.now = ap length c.self.view_is in
    let at = c.index-as_slice-id.is ∙ ap (λ ks. get_or ks c.args.id c.index-as_slice-id.result) c.as_slice.ensures.keys in
    let name : name_at names c.args.id ≡ c.index-as_slice-id.result.items = name_at-key vec_items keys c.args.id c.index-as_slice-id.result (omega (arith, length-map keys vec_items)) at in
    ap (λ ns. number_in ns c.as_slice-2.result.now) (sym c.self.view_is)
    ∙ ap (number_in names) (c.as_slice-2.ensures.value ∙ sym name)
    ∙ number_in-name_at names c.args.id c.self.invariant.distinct (omega arith)
