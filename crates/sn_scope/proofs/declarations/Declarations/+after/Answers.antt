use Rattle.std.proofs.Common.{◌≡◌, rules, map, ap, ◌∙◌}
use Rattle.std.proofs.lemmas.Result.{on_ok_weaker}
use Rattle.sn_scope.specs.Declarations.{after, all_after, with_claim, within}
use Rattle.sn_scope.proofs.Nets.{net_after}
use Rattle.sn_scope.proofs.declarations.Declarations.+after.Goals as goal

pub net_declaration-returns : goal.net_declaration-returns
net_declaration-returns t c =
    let before : c.into_inner.result ≡ c.net_signature.new.self.claims = c.into_inner.ensures ∙ c.replace-value.ensures.value in
    let inner : c.declarations.new.self ≡ all_after (map (after c.args.names.now) c.args.net.now.decls) (within c.net_signature.new.self) = search rules in
    on_ok_weaker c.declare.result
    (λ declared. net_after c.args.names.now c.args.net.now c.args.self.now c.net_signature.new.self c.declarations.new.self c.end.new.self c.claim.new.self c.declare.new.self c.in_ok-signature.signature c.in_ok-number.number
    c.in_ok-signature.ensures.declared c.in_ok-signature.ensures.number inner c.in_ok-number.ensures.declared c.in_ok-number.ensures.number (c.in_ok-claim.ensures ∙ ap (λ claims. with_claim c.args.net.now.name c.in_ok-signature.signature c.in_ok-number.number claims c.end.new.self) before) declared)
    c.declare.ensures
