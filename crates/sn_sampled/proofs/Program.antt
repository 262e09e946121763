-- The program of the built-in source, which is accepted, and its stated records.
use Rattle.std.proofs.Common.{ℕ, not, [], ◌∷◌, refl, ap, arith}
use Rattle.std.specs.List.{All}
use Rattle.std.proofs.lemmas.List.Elements.{All-nil, All-cons}
use Rattle.sn_load.specs.Scope.{IsMain, IsResolved}
use Rattle.sn_load.specs.Source.{IsSource}
use Rattle.sn_load.specs.declared.load.Program.{Program}
use Rattle.sn_plain.specs.Answer.{IsAccepted, OfBuiltIn}
use Rattle.sn_plain.specs.Sample.{AreTypedSamples, is_item_of_type}
use Rattle.sn_sample.specs.Source.{source_text}
use Rattle.sn_typing.specs.Accepted.{IsAccepted as IsAcceptedClaim}
use Rattle.sn_sampled.proofs.Accepted.{claim_accepted}
use Rattle.sn_sampled.proofs.Entered.{the_names}
use Rattle.sn_sampled.proofs.Samples.{either_test, none_found}
use Rattle.sn_sampled.proofs.Source.{source_lexed, source_said}
use Rattle.sn_sampled.proofs.Spelled.{source_program}
use Rattle.sn_sampled.proofs.Tree.{source_tree}
use Rattle.sn_sampled.proofs.Trees.{the_boxes, the_claim, the_parts, source_resolved}

abbrev pub the_program : Program
the_program = record { names = the_names; boxes = the_boxes; claim = the_claim }

source_read : IsSource source_text source_tree
source_read = record { tokens = source_lexed.0; lexed = source_lexed.1; spelled = record { said = source_said; says = source_lexed.2; spelled = source_program } }

resolved_so : IsResolved source_text the_parts
resolved_so = record { tree = source_tree; read = source_read; is = source_resolved }

claims_accepted : All (IsAcceptedClaim the_boxes) (the_claim ∷ [])
claims_accepted = All-cons (IsAcceptedClaim the_boxes) the_claim [] claim_accepted (All-nil (IsAcceptedClaim the_boxes))

main_is : IsMain the_parts the_program
main_is = record { names_are = refl; boxes_are = refl; main = refl; accepted = claims_accepted }

pub source_accepted : IsAccepted source_text the_program
source_accepted = record { within = omega arith; main = record { parts = the_parts; resolved = resolved_so; so = main_is } }

pub samples_typed : (number count : ℕ) → AreTypedSamples the_names the_claim number count
samples_typed number count = record {
  room = omega arith;
  typed = none_found (λ x. not (is_item_of_type the_claim.input x)) (λ x. ap not (either_test x [])) number count;
}

pub built_in : OfBuiltIn (λ program. (number count : ℕ) → AreTypedSamples program.names program.claim number count)
built_in = (the_program, source_accepted, samples_typed)
