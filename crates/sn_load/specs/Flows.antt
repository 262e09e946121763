-- What is printed of a program's types: what can come out for each variant of its input.
use Rattle.std.specs.Prelude.{◌≡◌, ℕ, List, [], ◌∷◌, ◌++◌, codes}
use Rattle.sn_record.specs.LabelSet.{Labels}
use Rattle.sn_types.specs.RecordType.{minimal}
use Rattle.sn_typing.specs.Outline.{outline}
use Rattle.sn_flow.specs.Verdicts.{IsFlowOf}
use Rattle.sn_output.specs.Types.{IsTypeText, variant_text}
use Rattle.sn_load.specs.declared.load.Program.{Program}

-- the line of a variant: the variant, and of those that come out the fewest that say as much
pub record IsFlowLine (program : Program) (v : Labels) (line : List ℕ) : Type 0 where
  pub flow : List Labels
  pub comes : IsFlowOf (outline program.boxes program.claim.net) v flow
  pub text : List ℕ
  pub is_type : IsTypeText program.names (minimal flow) text
  pub line_is : line ≡ variant_text program.names v ++ (codes " -> " ++ (text ++ codes "\n"))

-- the lines of the variants, one behind the other
abbrev pub HasFlows : Program → List Labels → List ℕ → Type 0
HasFlows program [] text = text ≡ []
HasFlows program (v ∷ variants) text = (line : List ℕ) × (more : List ℕ) × IsFlowLine program v line × HasFlows program variants more × (text ≡ line ++ more)
