use Rattle.std.proofs.Common.{◌≡◌, IfOk, map, fold, length, refl, sym, ap, ◌∙◌, subst}
use Rattle.std.proofs.lemmas.List.{length-map}
use Rattle.std.proofs.lemmas.Result.{IfOk-weaker}
use Rattle.sn_ast.specs.declared.network.NetForm.TheOpen.{NetForm-F}
use Rattle.sn_ast.specs.declared.network.NetForm.TheVariants as form
use Rattle.sn_names.specs.Names.{label_number}
use Rattle.sn_label_scope.specs.Labels.{variant_at, variant_required}
use Rattle.sn_label_scope.specs.Refusals.{required}
use Rattle.sn_label_scope.specs.declared.refusal.Reason.TheVariants as reason
use Rattle.sn_scope.specs.Filters.{filter_at, filter_required, is_between}
use Rattle.sn_scope.specs.Networks.{guard_at, guard_required, merge_of, network_at, network_required}
use Rattle.sn_scope.specs.declared.network.Component.TheVariants as component
use Rattle.sn_scope.specs.declared.network.Network.TheVariants.{Made}
use Rattle.sn_scope.proofs.Forms.{both, network_here}
use Rattle.sn_scope.proofs.Loops.{checked_all, checked_more, mapped_all, mapped_more}
use Rattle.sn_scope.proofs.network.+network_at.Goals as goal

pub network_at-returns-in-Name : goal.network_at-returns-in-Name
network_at-returns-in-Name t c =
    network_here c.args.names.now c.args.scopes.now c.args.network.now (NetForm-F.Name c.in-Name.name) _ c.in-Name.is (form.rolls-Name c.in-Name.name) c.named_at.result c.args.refusals.now c.named_at.new.refusals
    (both c.named_at.result _ _ c.named_at.ensures.network c.named_at.ensures.refused)

pub network_at-returns-in-Identity : goal.network_at-returns-in-Identity
network_at-returns-in-Identity t c =
    network_here c.args.names.now c.args.scopes.now c.args.network.now NetForm-F.Identity _ c.in-Identity.is form.rolls-Identity c.identity.result c.args.refusals.now c.args.refusals.now
    (IfOk-weaker c.identity.result _ _ (λ made is. (is, refl)) c.identity.ensures)

pub network_at-returns-in-Filter : goal.network_at-returns-in-Filter
network_at-returns-in-Filter t c =
    let names = c.args.names.now in
    let pattern = c.in-Filter.pattern in
    let place = c.args.network.now.at in
    let least = c.args.refusals.now in
    let r = c.filter.result in
    let new = c.filter.new.refusals in
    network_here names c.args.scopes.now c.args.network.now (NetForm-F.Filter pattern c.in-Filter.arms c.in-Filter.templates) _ c.in-Filter.is (form.rolls-Filter pattern c.in-Filter.arms c.in-Filter.templates) r least new
    (subst (λ ts. IfOk r (λ made. (made ≡ Made (component.Filter (filter_at names place pattern c.in-Filter.arms ts))) × (new ≡ filter_required names place pattern c.in-Filter.arms ts least))) c.as_slice-in-Filter.ensures
    (subst (λ arms. IfOk r (λ made. (made ≡ Made (component.Filter (filter_at names place pattern arms c.as_slice-in-Filter.result.now))) × (new ≡ filter_required names place pattern arms c.as_slice-in-Filter.result.now least))) c.as_slice.ensures
    (both r _ _ c.filter.ensures.network c.filter.ensures.refused)))

pub network_at-returns-in-Sync : goal.network_at-returns-in-Sync
network_at-returns-in-Sync t c =
    let names = c.args.names.now in
    let place = c.args.network.now.at in
    let least = c.args.refusals.now in
    let r = c.sync.result in
    let new = c.sync.new.refusals in
    network_here names c.args.scopes.now c.args.network.now (NetForm-F.Sync c.in-Sync.patterns) _ c.in-Sync.is (form.rolls-Sync c.in-Sync.patterns) r least new
    (subst (λ ps. IfOk r (λ made. (made ≡ Made (component.Sync place (map (variant_at names) ps)))
    × (new ≡ fold (variant_required names) (required (is_between 2 8 (length ps)) reason.Arity place least) ps))) c.as_slice-in-Sync.ensures
    (both r _ _ c.sync.ensures.network c.sync.ensures.refused))

pub network_at-returns-in_ok-parts-in-Serial : goal.network_at-returns-in_ok-parts-in-Serial
network_at-returns-in_ok-parts-in-Serial t c =
    let names = c.args.names.now in
    let scopes = c.args.scopes.now in
    let least = c.args.refusals.now in
    let parts = c.in_ok-parts-in-Serial.ensures in
    let slice = c.as_slice-in-Serial.ensures in
    network_here names scopes c.args.network.now (NetForm-F.Serial c.in-Serial.parts) _ c.in-Serial.is (form.rolls-Serial c.in-Serial.parts) c.made.result least c.networks_at.new.refusals
    (IfOk-weaker c.made.result _ _ (λ made is. (
      is ∙ ap (λ ps. Made (component.Serial ps)) (parts.0 ∙ ap (map (network_at names scopes)) slice),
      parts.1 ∙ ap (λ ns. fold (λ so_far check. check so_far) least (map (network_required names scopes) ns)) slice,
    )) c.made.ensures)

pub network_at-returns-in_ok-branches-in-Choice : goal.network_at-returns-in_ok-branches-in-Choice
network_at-returns-in_ok-branches-in-Choice t c =
    let names = c.args.names.now in
    let scopes = c.args.scopes.now in
    let place = c.args.network.now.at in
    let det = c.in-Choice.det in
    let all = c.in-Choice.branches in
    let least = c.args.refusals.now in
    let branches = c.in_ok-branches-in-Choice.ensures in
    let slice = c.as_slice-in-Choice.ensures in
    let arity = required (is_between 2 64 (length all)) reason.Arity place least in
    let counted : c.require.new.self ≡ arity = c.require.ensures ∙ ap (λ b. required b reason.Arity place least) (c.is_between.ensures ∙ ap (is_between 2 64) c.len.ensures) in
    network_here names scopes c.args.network.now (NetForm-F.Choice det all) _ c.in-Choice.is (form.rolls-Choice det all) c.made-in-Choice.result least c.networks_at-in-Choice.new.refusals
    (IfOk-weaker c.made-in-Choice.result _ _ (λ made is. (
      is ∙ ap (λ m. Made (component.Choice place m c.in_ok-branches-in-Choice.branches)) c.merge_of.ensures
          ∙ ap (λ bs. Made (component.Choice place (merge_of det) bs)) (branches.0 ∙ ap (map (network_at names scopes)) slice),
      branches.1 ∙ ap (λ ns. fold (λ so_far check. check so_far) c.require.new.self (map (network_required names scopes) ns)) slice
          ∙ ap (λ start. fold (λ so_far check. check so_far) start (map (network_required names scopes) all))
          (counted ∙ ap (λ count. required (is_between 2 64 count) reason.Arity place least) (sym (length-map all (network_required names scopes)))),
    )) c.made-in-Choice.ensures)

pub network_at-returns-in_ok-body-in-Star : goal.network_at-returns-in_ok-body-in-Star
network_at-returns-in_ok-body-in-Star t c =
    let names = c.args.names.now in
    let scopes = c.args.scopes.now in
    let place = c.args.network.now.at in
    let det = c.in-Star.det in
    let exit = variant_at names c.in-Star.exit in
    let guard = guard_at names c.in-Star.guard in
    let least = c.args.refusals.now in
    let made_body = c.in_ok-body-in-Star.ensures in
    let body : c.in_ok-body-in-Star.body ≡ network_at names scopes c.in-Star.body = made_body.0 ∙ ap (network_at names scopes) c.get.ensures in
    let checked : c.network_at.new.refusals ≡ network_required names scopes c.in-Star.body least = made_body.1 ∙ ap (λ n. network_required names scopes n least) c.get.ensures in
    let r = c.star.result in
    network_here names scopes c.args.network.now (NetForm-F.Star det c.in-Star.body c.in-Star.exit c.in-Star.guard) _ c.in-Star.is (form.rolls-Star det c.in-Star.body c.in-Star.exit c.in-Star.guard) r least c.star.new.refusals
    (both r _ _
    (IfOk-weaker r _ _ (λ made is. is ∙ ap (λ m. Made (component.Star place m c.in_ok-body-in-Star.body exit guard)) c.merge_of-merge.ensures ∙ ap (λ b. Made (component.Star place (merge_of det) b exit guard)) body) c.star.ensures.network)
    (IfOk-weaker r _ _ (λ made is. is ∙ ap (λ so_far. guard_required names exit c.in-Star.guard (variant_required names so_far c.in-Star.exit)) checked) c.star.ensures.refused))

pub network_at-returns-in_ok-body-in-Split : goal.network_at-returns-in_ok-body-in-Split
network_at-returns-in_ok-body-in-Split t c =
    let names = c.args.names.now in
    let scopes = c.args.scopes.now in
    let place = c.args.network.now.at in
    let det = c.in-Split.det in
    let tag = label_number names c.in-Split.tag.text in
    let least = c.args.refusals.now in
    let made_body = c.in_ok-body-in-Split.ensures in
    let body : c.in_ok-body-in-Split.body ≡ network_at names scopes c.in-Split.body = made_body.0 ∙ ap (network_at names scopes) c.get-in-Split.ensures in
    let checked : c.network_at-in-Split.new.refusals ≡ network_required names scopes c.in-Split.body least = made_body.1 ∙ ap (λ n. network_required names scopes n least) c.get-in-Split.ensures in
    let numbered : c.label_number-tag.result ≡ tag = c.label_number-tag.ensures ∙ ap (label_number names) c.as_slice-in-Split.ensures in
    network_here names scopes c.args.network.now (NetForm-F.Split det c.in-Split.spread c.in-Split.body c.in-Split.tag) _ c.in-Split.is (form.rolls-Split det c.in-Split.spread c.in-Split.body c.in-Split.tag) c.made-in-Split.result least c.network_at-in-Split.new.refusals
    (IfOk-weaker c.made-in-Split.result _ _ (λ made is. (
      is ∙ ap (λ m. Made (component.Split place m c.in_ok-body-in-Split.body c.label_number-tag.result)) c.merge_of-in-Split.ensures
          ∙ ap (λ b. Made (component.Split place (merge_of det) b c.label_number-tag.result)) body ∙ ap (λ n. Made (component.Split place (merge_of det) (network_at names scopes c.in-Split.body) n)) numbered,
      checked,
    )) c.made-in-Split.ensures)

pub network_at-returns-in-Placed : goal.network_at-returns-in-Placed
network_at-returns-in-Placed t c =
    let names = c.args.names.now in
    let scopes = c.args.scopes.now in
    let least = c.args.refusals.now in
    let r = c.network_at-in-Placed.result in
    network_here names scopes c.args.network.now (NetForm-F.Placed c.in-Placed.body c.in-Placed.node) _ c.in-Placed.is (form.rolls-Placed c.in-Placed.body c.in-Placed.node) r least c.network_at-in-Placed.new.refusals
    (IfOk-weaker r _ _ (λ made is. (is.0 ∙ ap (network_at names scopes) c.get-in-Placed.ensures, is.1 ∙ ap (λ n. network_required names scopes n least) c.get-in-Placed.ensures)) c.network_at-in-Placed.ensures)

pub networks_at-loop-network-init : goal.networks_at-loop-network-init
networks_at-loop-network-init t c = (c.new-made.ensures, refl)

pub networks_at-loop-network-preserved : goal.networks_at-loop-network-preserved
networks_at-loop-network-preserved t c =
    let names = c.args.names.now in
    let scopes = c.args.scopes.now in
    let networks = c.args.networks.now in
    let i = c.loop-network.network-index in
    let item = c.network-item.result in (
      mapped_more (network_at names scopes) networks i item c.loop-network.made c.append.new.list c.into_inner.result c.loop-network-test.true c.network-item.is c.loop-network.invariant.0 (c.into_inner.ensures ∙ c.in_ok-network.ensures.0) c.in_ok-append.ensures.ok,
      checked_more (network_required names scopes) networks i item c.loop-network.refusals c.network_at.new.refusals _ c.loop-network-test.true c.network-item.is c.loop-network.invariant.1 c.in_ok-network.ensures.1,
    )

pub networks_at-returns : goal.networks_at-returns
networks_at-returns t c =
    let names = c.args.names.now in
    let scopes = c.args.scopes.now in
    let networks = c.args.networks.now in
    let i = c.loop-network.network-index in (
      mapped_all (network_at names scopes) networks i c.loop-network.made c.loop-network-test.false c.loop-network.invariant.0,
      checked_all (network_required names scopes) networks i c.loop-network.refusals _ c.loop-network-test.false c.loop-network.invariant.1,
    )
