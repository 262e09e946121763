use Rattle.std.proofs.Common.{◌≡◌, ◌∙◌, Some, None, map, sym, ap, arith}
use Rattle.std.specs.FinMap as labels
use Rattle.sn_flow.specs.Places.{first_of, place_in}
use Rattle.sn_flow.proofs.Indexing.{missing, placed}
use Rattle.sn_flow.proofs.indexed.Indexed.find.Goals as goal

pub index-requires : goal.index-requires
index-requires g c =
    let here : place_in (map g.T.OfVariant.variant_of c.self.inside.list.items) (labels.keys c.args.variant.now) ≡ Some c.in-Some.place.now =
    sym (ap (place_in (map g.T.OfVariant.variant_of c.self.inside.list.items)) c.in_ok-key.ensures) ∙ sym (c.self.invariant c.in_ok-key.key) ∙ sym c.in-Some.ensures.value in
    let at = placed g.T.OfVariant.variant_of c.args.variant.now c.self.inside.list.items c.in-Some.place.now here in
    omega (arith, at.within, c.self.inside.list.ok)

pub returns-in-Some : goal.returns-in-Some
returns-in-Some g c =
    let here : place_in (map g.T.OfVariant.variant_of c.self.inside.list.items) (labels.keys c.args.variant.now) ≡ Some c.in-Some.place.now =
    sym (ap (place_in (map g.T.OfVariant.variant_of c.self.inside.list.items)) c.in_ok-key.ensures) ∙ sym (c.self.invariant c.in_ok-key.key) ∙ sym c.in-Some.ensures.value in
    let at = placed g.T.OfVariant.variant_of c.args.variant.now c.self.inside.list.items c.in-Some.place.now here in
    sym (ap (λ xs. first_of g.T.OfVariant.variant_of xs c.args.variant.now) (sym c.self.view_is) ∙ at.found c.index.result.now ∙ ap (λ x. Some x) (sym c.index.ensures))

pub returns : goal.returns
returns g c =
    let none : place_in (map g.T.OfVariant.variant_of c.self.inside.list.items) (labels.keys c.args.variant.now) ≡ None =
    sym (ap (place_in (map g.T.OfVariant.variant_of c.self.inside.list.items)) c.in_ok-key.ensures) ∙ sym (c.self.invariant c.in_ok-key.key) ∙ sym c.in-None.ensures.value in
    sym (ap (λ xs. first_of g.T.OfVariant.variant_of xs c.args.variant.now) (sym c.self.view_is) ∙ missing g.T.OfVariant.variant_of c.args.variant.now c.self.inside.list.items none)
