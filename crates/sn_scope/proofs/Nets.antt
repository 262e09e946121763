-- What a net's declaration adds, step by step.
use Rattle.std.proofs.Common.{◌≡◌, ℕ, List, map, Option, sym, ap, ◌∙◌}
use Rattle.sn_ast.specs.declared.declaration.NetDecl.{NetDecl, fold-roll-NetDecl}
use Rattle.sn_scope.specs.Declarations.{Change, after, after_net, all_after, decl_step, ended, net_number, net_signature, net_step, with_claim, with_meaning, with_net_signature, within}
use Rattle.sn_scope.specs.declared.declarations.Declarations.{Declarations}
use Rattle.sn_scope.specs.declared.scopes.Meaning.TheVariants as meaning

-- one level of a net's declaration
net_is : (names : List (List ℕ)) (net : NetDecl) (st : Declarations) →
    after_net names net st ≡ net_step names (record { name = net.name; sig = net.sig; decls = map (after names) net.decls; connect = net.connect }) st
net_is names net st =
    ap (λ change. change st) (fold-roll-NetDecl Change Change (decl_step names) (net_step names) (record { name = net.name; sig = net.sig; decls = net.decls; connect = net.connect }))

pub net_after : (names : List (List ℕ)) (net : NetDecl) (st opened inner closed claimed new : Declarations) (signature : Option ℕ) (number : ℕ) →
    opened ≡ with_net_signature names net.sig st → signature ≡ net_signature net.sig st →
    inner ≡ all_after (map (after names) net.decls) (within opened) →
    closed ≡ ended names net.connect inner → number ≡ net_number names net.connect inner →
    claimed ≡ with_claim net.name signature number opened.claims closed →
    new ≡ with_meaning net.name (meaning.Net number) claimed → new ≡ after_net names net st
net_after names net st opened inner closed claimed new signature number is_opened is_signature is_inner is_closed is_number is_claimed is_new =
    is_new
    ∙ ap (with_meaning net.name (meaning.Net number)) (is_claimed ∙ ap (with_claim net.name signature number opened.claims) is_closed)
    ∙ ap (λ n. with_meaning net.name (meaning.Net n) (with_claim net.name signature n opened.claims (ended names net.connect inner))) is_number
    ∙ ap (λ i. with_meaning net.name (meaning.Net (net_number names net.connect i)) (with_claim net.name signature (net_number names net.connect i) opened.claims (ended names net.connect i))) is_inner
    ∙ ap (λ s. with_meaning net.name (meaning.Net (net_number names net.connect (all_after (map (after names) net.decls) (within opened)))) (with_claim net.name s (net_number names net.connect (all_after (map (after names) net.decls) (within opened))) opened.claims (ended names net.connect (all_after (map (after names) net.decls) (within opened))))) is_signature
    ∙ ap (λ o. with_meaning net.name (meaning.Net (net_number names net.connect (all_after (map (after names) net.decls) (within o)))) (with_claim net.name (net_signature net.sig st) (net_number names net.connect (all_after (map (after names) net.decls) (within o))) o.claims (ended names net.connect (all_after (map (after names) net.decls) (within o))))) is_opened
    ∙ sym (net_is names net st)
