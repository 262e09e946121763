use Rattle.std.proofs.Common.{◌≡◌, drop, fold, None}
use Rattle.sn_scope.specs.Scopes.{first_of, meaning_in}
use Rattle.sn_scope.proofs.scopes.Scopes.find.Given as goal

abbrev pub invariant-loop-scope : goal.invariant-loop-scope
invariant-loop-scope l =
    fold (λ found scope. first_of (meaning_in scope l.name) found) l.found (drop l.scope-index l.scope-items)
    ≡ fold (λ found scope. first_of (meaning_in scope l.name) found) None l.scope-items
