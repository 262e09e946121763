use Rattle.std.proofs.Common.{◌≡◌, drop, map}
use Rattle.sn_scope.specs.Declarations.{after, all_after}
use Rattle.sn_scope.proofs.declarations.Declarations.+after.Given as goal

abbrev pub invariant-declarations-loop-decl : goal.invariant-declarations-loop-decl
invariant-declarations-loop-decl l =
    all_after (map (after l.names) (drop l.decl-index l.decls)) l.self ≡ all_after (map (after l.names) l.decls) l.initial.self
