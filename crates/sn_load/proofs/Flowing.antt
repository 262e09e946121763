-- What can come out for one variant of the input, and the lines that say it.
use Rattle.std.proofs.Common.{◌≡◌, ℕ, zero, suc, List, [], ◌∷◌, ◌++◌, refl, sym, ap, ◌∙◌, subst, append-nil, append_assoc, arith}
use Rattle.std.specs.Prelude.{Err, codes}
use Rattle.std.specs.List.{Contains}
use Rattle.sn_record.specs.LabelSet.{Labels}
use Rattle.sn_types.specs.RecordType.{minimal}
use Rattle.sn_typing.specs.Outline.{Outline, outline}
use Rattle.sn_typing.specs.Flow.{Safe}
use Rattle.sn_typing.specs.Reached.{Turn}
use Rattle.sn_typing.specs.Accepted.{IsAccepted, IsBounded, IsReached}
use Rattle.sn_typing.proofs.Routes.{reached_routed}
use Rattle.sn_flow.specs.Verdicts.{FlowFound, IsFlowOf, IsUnrouted}
use Rattle.sn_flow.specs.declared.fault.FlowFault.{FlowFault}
use Rattle.sn_flow.specs.declared.fault.FlowFault.TheVariants.{NoRoute, BadOutput, TooManyVariants, Memory}
use Rattle.sn_output.specs.Types.{IsTypeText, variant_text}
use Rattle.sn_load.specs.Flows.{HasFlows, IsFlowLine}
use Rattle.sn_load.specs.declared.load.Program.{Program}

only_one : (v u : Labels) → Contains (v ∷ []) u → v ≡ u
only_one v u (zero, below, is) = is
only_one v u (suc k, below, is) = absurd (omega arith)

module _ (net : Outline) (input : List Labels) (v : Labels) (listed : Contains input v) where
  of_input : (w : Labels) → Contains (v ∷ []) w → Contains input w
  of_input w one = subst (Contains input) (only_one v w one) listed

  reached_of_one : (way : List Turn) (part : Outline) (u : Labels) → IsReached net (v ∷ []) way part u → IsReached net input way part u
  reached_of_one way part u is = record { variant = is.variant; listed = of_input is.variant is.listed; reached = is.reached }

  -- fewer variants flow for one of the input than for all
  bounded_for_one : IsBounded net input → IsBounded net (v ∷ [])
  bounded_for_one bounded = record {
    parts = λ way part. let few = bounded.parts way part in record { all = few.all; few = few.few; listed = λ u is. few.listed u (reached_of_one way part u is) };
    flows = λ way part u is. bounded.flows way part u (reached_of_one way part u is);
    stars = λ way part u is. bounded.stars way part u (reached_of_one way part u is);
  }

  never_unrouted : ((w : Labels) → Contains input w → Safe net w) → (place : ℕ) (u : Labels) → IsUnrouted net (v ∷ []) place u → ⊥
  never_unrouted safe place u is =
      is.unrouted (reached_routed net is.reached.variant is.way is.part u (safe is.reached.variant (of_input is.reached.variant is.reached.listed)) is.reached.reached)

-- an accepted claim has a flow for each variant of its input, but for want of memory
pub never_refused : (program : Program) (v : Labels) → IsAccepted program.boxes program.claim → Contains program.claim.input v → (fault : FlowFault)
    → FlowFound (outline program.boxes program.claim.net) v (Err fault) → fault ≡ Memory
never_refused program v accepted listed (NoRoute at u) found =
    absurd (never_unrouted (outline program.boxes program.claim.net) program.claim.input v listed accepted.safe at u found.1.is)
never_refused program v accepted listed (BadOutput at u) found = absurd found
never_refused program v accepted listed (TooManyVariants at) found =
    absurd (found.1 (bounded_for_one (outline program.boxes program.claim.net) program.claim.input v listed accepted.bounded))
never_refused program v accepted listed Memory found = refl

-- a line more
pub flows_more : (program : Program) (variants : List Labels) (v : Labels) (text line : List ℕ) → HasFlows program variants text → IsFlowLine program v line → HasFlows program (variants ++ v ∷ []) (text ++ line)
flows_more program [] v text line none is = (line, [], is, refl, ap (λ t. t ++ line) none ∙ sym (append-nil line))
flows_more program (w ∷ variants) v text line (first, more, here, rest, both) is =
    (first, more ++ line, here, flows_more program variants v more line rest is, ap (λ t. t ++ line) both ∙ append_assoc first more line)

-- the five parts of a line, behind what stood there
pub line_pushed : (program : Program) (v : Labels) (flow : List Labels) (before named opened typed all more : List ℕ) → IsFlowOf (outline program.boxes program.claim.net) v flow
    → named ≡ before ++ variant_text program.names v → opened ≡ named ++ codes " -> " → IsTypeText program.names (minimal flow) more → typed ≡ opened ++ more → all ≡ typed ++ codes "\n"
    → (line : List ℕ) × IsFlowLine program v line × (all ≡ before ++ line)
line_pushed program v flow before named opened typed all more comes name arrow text type end =
    let variant = variant_text program.names v in
    let line = variant ++ (codes " -> " ++ (more ++ codes "\n")) in (
      line,
      record { flow = flow; comes = comes; text = more; is_type = text; line_is = refl },
      end ∙ ap (λ t. t ++ codes "\n") (type ∙ ap (λ t. t ++ more) (arrow ∙ ap (λ t. t ++ codes " -> ") name))
          ∙ append_assoc ((before ++ variant) ++ codes " -> ") more (codes "\n")
          ∙ append_assoc (before ++ variant) (codes " -> ") (more ++ codes "\n")
          ∙ append_assoc before variant (codes " -> " ++ (more ++ codes "\n")),
    )
