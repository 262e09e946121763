-- What a parser that embeds the parser of signatures needs to know of its states.
use Rattle.std.proofs.Common.{List, [], ◌∷◌, Option, Some, None, refl}
use Rattle.sn_ast.specs.Labels.{named, last_part, types}
use Rattle.sn_ast.specs.declared.label.Sig.{Sig}
use Rattle.sn_ast.specs.declared.label.Sig.TheVariants.{Arrow as ArrowSig}
use Rattle.sn_ast.specs.declared.label.TypePart.{TypePart}
use Rattle.sn_ast.specs.declared.label.TypePart.TheVariants.{Named}
use Rattle.sn_ast.specs.declared.terminal.Symbol.TheVariants.{Arrow}
use Rattle.sn_ast.specs.declared.terminal.Terminal.{Terminal}
use Rattle.sn_ast.specs.declared.terminal.Terminal.TheVariants.{Name, Symbol}
use Rattle.sn_type_parser.specs.Reads.{Read, read}
use Rattle.sn_type_parser.specs.SigResidual.{EndsSig, InType, to_output, whole, in_type, Completes}
use Rattle.sn_type_parser.specs.declared.signatures.SigParser.{SigParser}
use Rattle.sn_type_parser.specs.declared.types.TypeParser.{TypeParser}
use Rattle.sn_type_parser.proofs.SigSteps.{type_ends}
use Rattle.sn_type_parser.proofs.TypeLaws.{no_end as no_end_types, completable as completable_types}
use Rattle.sn_type_parser.proofs.Witnesses.{a_name}

-- No state is complete without a further token.
pub no_end : (s : SigParser) (t : Read Sig) → Completes s [] t → ⊥
no_end s t (in_type parts us c a) = no_end_types s.types (read parts us) c

-- Each state can be completed, whatever follows a signature.
completable_in : (input : Option (List TypePart)) (s : TypeParser) (us : List Terminal) → EndsSig us →
    (w : List Terminal) × (sig : Sig) × InType input s w (read sig us)
completable_in None s us e =
    let vs : List Terminal = Symbol Arrow 0 ∷ Name a_name ∷ us in
    let r = completable_types s vs refl in
    (r.0, ArrowSig r.1 (Named a_name ∷ []), in_type r.1 vs r.2 (to_output (types named last_part) e))
completable_in (Some input) s us e =
    let r = completable_types s us (type_ends us e) in
    (r.0, ArrowSig input r.1, in_type r.1 us r.2 (whole e))

pub completable : (s : SigParser) (us : List Terminal) → EndsSig us → (w : List Terminal) × (sig : Sig) × Completes s w (read sig us)
completable s us e = completable_in s.input s.types us e
