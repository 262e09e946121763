use Rattle.std.proofs.Common.{◌≡◌, drop, map}
use Rattle.sn_scope.specs.Numbering.{after_decl, all_after}
use Rattle.sn_scope.proofs.numbering.+enter_decl.Given as goal

abbrev pub invariant-enter_decls-loop-decl : goal.invariant-enter_decls-loop-decl
invariant-enter_decls-loop-decl l =
    all_after (map after_decl (drop l.decl-index l.decls)) l.names ≡ all_after (map after_decl l.decls) l.initial.names
