-- Where all of a network is deterministic, form by form.
use Rattle.std.proofs.Common.{◌≡◌, ℕ, ◌+◌, ◌<◌, ◌≤◌, Bool, true, false, ◌&&◌, List, length, get_or, drop, map, refl, sym, ap, ◌∙◌}
use Rattle.std.specs.List.{list_all}
use Rattle.std.proofs.lemmas.List.{at_drop_more, at_drop_all}
use Rattle.sn_record.specs.LabelSet.{Labels}
use Rattle.sn_net.specs.declared.net.Merge.{Merge}
use Rattle.sn_net.specs.declared.net.Net.{Net}
use Rattle.sn_net.specs.declared.net.Net.TheOpen.{Net-F}
use Rattle.sn_net.specs.declared.net.Net.TheFolds.{fold-roll-Net}
use Rattle.sn_net.specs.declared.net.Net.TheVariants.{Choice, rolls-Choice}
use Rattle.sn_net.specs.Net.{all_deterministic, deterministic_step, is_in_order}

-- all of these networks are
abbrev pub each : List Net → Bool
each nets = list_all (λ branch. branch) (map all_deterministic nets)

pub deterministic-Choice : (place : ℕ) (merge : Merge) (branches : List Net) (faces : List (List Labels))
    → all_deterministic (Choice place merge branches faces) ≡ is_in_order merge && each branches
deterministic-Choice place merge branches faces =
    ap all_deterministic (sym (rolls-Choice place merge branches faces)) ∙ fold-roll-Net Bool deterministic_step (Net-F.Choice place merge branches faces)

and_false : (b : Bool) → b && false ≡ false
and_false true = refl
and_false false = refl

and_true : (b : Bool) → b && true ≡ b
and_true true = refl
and_true false = refl

-- a branch that is not keeps the choice from being so
pub free_branch : (net : Net) (place : ℕ) (merge : Merge) (branches items : List Net) (faces : List (List Labels)) (i : ℕ) (branch : Net)
    → net ≡ Choice place merge branches faces → items ≡ branches → i < length items → branch ≡ get_or items i branch
    → each (drop i items) ≡ each items → all_deterministic branch ≡ false → false ≡ all_deterministic net
free_branch net place merge branches items faces i branch is same within at_i going free =
    let here : each (drop i items) ≡ false = at_drop_more each items i branch within ∙ ap (λ b. b && each (drop (i + 1) items)) (ap all_deterministic (sym at_i) ∙ free) in
    let whole : all_deterministic net ≡ is_in_order merge && each items = ap all_deterministic is ∙ deterministic-Choice place merge branches faces ∙ ap (λ nets. is_in_order merge && each nets) (sym same) in
    sym (whole ∙ ap (λ b. is_in_order merge && b) (sym going ∙ here) ∙ and_false (is_in_order merge))

-- once all branches are, the choice is where its merge is in order
pub all_branches_are : (net : Net) (place : ℕ) (merge : Merge) (branches items : List Net) (faces : List (List Labels)) (i : ℕ)
    → net ≡ Choice place merge branches faces → items ≡ branches → length items ≤ i
    → each (drop i items) ≡ each items → is_in_order merge ≡ all_deterministic net
all_branches_are net place merge branches items faces i is same past going =
    let whole : all_deterministic net ≡ is_in_order merge && each items = ap all_deterministic is ∙ deterministic-Choice place merge branches faces ∙ ap (λ nets. is_in_order merge && each nets) (sym same) in
    sym (whole ∙ ap (λ b. is_in_order merge && b) (sym going ∙ at_drop_all each items i past) ∙ and_true (is_in_order merge))
