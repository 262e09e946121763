use Rattle.std.proofs.Common.{rules, ◌≡◌, ◌+◌, drop, get_or, None, sym, ap, ◌∙◌, subst}
use Rattle.std.proofs.lemmas.List.{drop_more}
use Rattle.sn_scope.specs.Claims.{IsClaim, IsFitted}
use Rattle.sn_scope.specs.Trees.{claims_within, fitting, led_by, most_nodes, tree_of}
use Rattle.sn_scope.specs.declared.declarations.Pending.{Pending}
use Rattle.sn_scope.proofs.Fitting.{claims_next, claims_refused}
use Rattle.sn_scope.proofs.resolution.claims.Goals as goal

pub returns-in_default : goal.returns-in_default
returns-in_default c =
    let st = c.args.declarations.now in
    let items = c.as_slice-pending-items.result.now in
    let i = c.loop-pending.pending-index in
    let d : Pending = record { place = 0; net = 0; signature = 0 } in
    let unfit : fitting c.loop-pending.room (tree_of st.boxes st.nets (get_or items i d).net) ≡ None = search rules in
    ap (claims_within st most_nodes) (sym c.as_slice-pending-items.ensures)
    ∙ sym c.loop-pending.invariant
    ∙ ap (λ ps. led_by c.loop-pending.made (claims_within st c.loop-pending.room ps)) (drop_more items i d c.loop-pending-test.true)
    ∙ claims_refused st c.loop-pending.room (get_or items i d) (drop (i + 1) items) c.loop-pending.made unfit

pub loop-pending-preserved : goal.loop-pending-preserved
loop-pending-preserved c =
    let st = c.args.declarations.now in
    let items = c.as_slice-pending-items.result.now in
    let i = c.loop-pending.pending-index in
    let d : Pending = record { place = 0; net = 0; signature = 0 } in
    let fitted : IsFitted st (get_or items i d) c.loop-pending.room c.claim.new.room c.in-Some.claim =
    subst (λ b. IsClaim st (get_or items i d) c.loop-pending.room c.claim.new.room b) c.in-Some.is c.in_ok-claim.ensures in
    ap (λ claims. led_by claims (claims_within st c.claim.new.room (drop (i + 1) items))) c.in_ok-append.ensures.ok
    ∙ sym (claims_next st c.loop-pending.room c.claim.new.room (get_or items i d) (drop (i + 1) items) c.loop-pending.made c.in-Some.claim fitted)
    ∙ sym (ap (λ ps. led_by c.loop-pending.made (claims_within st c.loop-pending.room ps)) (drop_more items i d c.loop-pending-test.true))
    ∙ c.loop-pending.invariant
