use Rattle.std.proofs.Common.{◌∷◌, [], ◌∙◌, map, sym, ap, subst, arith}
use Rattle.std.specs.FinMap as labels
use Rattle.std.specs.List.{list_any}
use Rattle.std.proofs.lemmas.List.{length-map, map-append}
use Rattle.sn_record.proofs.Merged.{from_on_ok}
use Rattle.sn_types.specs.RecordType.{is_same}
use Rattle.sn_flow.specs.Places.{Tells}
use Rattle.sn_flow.proofs.Indexing.{no_place, tells_push}
use Rattle.sn_flow.proofs.indexed.Indexed.push.Goals as goal

pub invariant_of-self-else-is_err : goal.invariant_of-self-else-is_err
invariant_of-self-else-is_err g c =
    let updated = from_on_ok c.insert.result (sym c.is_err.ensures.value ∙ c.if-is_err.false) c.insert.ensures.updates in
    subst (Tells c.insert.new.self) (sym (ap (map g.T.OfVariant.variant_of) c.in_ok-push.ensures.items ∙ map-append g.T.OfVariant.variant_of c.self.inside.list.items (c.args.x ∷ [])))
    (tells_push c.self.inside.places c.insert.new.self (map g.T.OfVariant.variant_of c.self.inside.list.items) (g.T.OfVariant.variant_of c.args.x) c.in_ok-key.key c.len-place.result c.self.invariant
    (c.in_ok-key.ensures ∙ ap labels.keys c.variant.ensures)
    (no_place g.T.OfVariant.variant_of (g.T.OfVariant.variant_of c.args.x) c.self.inside.list.items
    (ap (list_any (λ y. is_same (g.T.OfVariant.variant_of y) (g.T.OfVariant.variant_of c.args.x))) c.self.view_is ∙ c.requires))
    (omega (arith, c.len-place.ensures, c.self.inside.list.ok, length-map c.self.inside.list.items g.T.OfVariant.variant_of))
    updated.0)
