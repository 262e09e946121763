use Rattle.sn_ast.proofs.Keeping.{keeping}
use Rattle.sn_ast.proofs.TransferDeclarations.{to_declarations, from_declarations}
use Rattle.sn_ast.specs.Kept.{kept}
use Rattle.sn_ast.specs.Measures.{measured}
use Rattle.sn_ast.proofs.laws.same_declarations.Goals as goal
use Rattle.std.proofs.Common.{refl}

pub returns-clause-kept : goal.returns-clause-kept
returns-clause-kept c = (λ so_far all tokens d. to_declarations measured kept keeping d)

pub returns-clause-whole : goal.returns-clause-whole
returns-clause-whole c = (λ so_far all tokens d. from_declarations measured kept keeping d so_far refl)
