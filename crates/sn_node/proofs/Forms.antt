-- The forms of networks, and lists past their end.
use Rattle.std.proofs.Common.{◌≡◌, ℕ, zero, suc, ◌≤◌, Bool, true, false, IsTrue, List, [], ◌∷◌, length, refl, sym, ap, subst, ◌∙◌, cond, arith}
use Rattle.std.specs.Prelude.{slice_get, None}
use Rattle.std.specs.List.{list_all}
use Rattle.std.proofs.lemmas.Bool.{false≢true}
use Rattle.sn_record.specs.LabelSet.{Labels}
use Rattle.sn_record.specs.Record.{Entries, Matches, is_match}
use Rattle.sn_record.proofs.Scores.{is_match-Matches}
use Rattle.sn_net.specs.declared.filter.Filter.{Filter}
use Rattle.sn_net.specs.declared.net.Merge.{Merge}
use Rattle.sn_net.specs.declared.net.Net.{Net}
use Rattle.sn_net.specs.declared.net.Net.TheOpen.{Net-F}
use Rattle.sn_net.specs.declared.net.Net.TheViews.{out-Net, out-roll-Net}
use Rattle.sn_net.specs.declared.net.Net.TheVariants as form
use Rattle.sn_net.specs.Answer.{filter_answer}
use Rattle.sn_net.specs.Item.{ModelItem, Rec, Stuck}
use Rattle.sn_model.specs.Components.{filter_item}
use Rattle.sn_view.specs.View.{It}
use Rattle.sn_view.specs.Next.{answering_entry, items}
use Rattle.sn_view.specs.Routed.{is_going}

pub choice_form : (net : Net) (place : ℕ) (merge : Merge) (branches : List Net) (faces : List (List Labels))
    → net ≡ form.Choice place merge branches faces → out-Net net ≡ Net-F.Choice place merge branches faces
choice_form net place merge branches faces is = ap out-Net (is ∙ sym (form.rolls-Choice place merge branches faces)) ∙ out-roll-Net (Net-F.Choice place merge branches faces)

pub get_past : {X : Type 0} (xs : List X) (i : ℕ) → length xs ≤ i → slice_get xs i ≡ None
get_past [] i past = refl
get_past (x ∷ xs) zero past = absurd (omega (arith, past))
get_past (x ∷ xs) (suc i) past = get_past xs i (omega (arith, past))

-- a record that a filter answers by no Stuck matches its pattern
pub routed_matches : (filter : Filter) (r : Entries) → IsTrue (list_all is_going (answering_entry (filter_item filter) (It (Rec r)))) → Matches r filter.pattern
routed_matches filter r routed = (is_match-Matches r filter.pattern).0 (at (is_match r filter.pattern) refl)
  where
    answer_when : Bool → List ModelItem
    answer_when b = cond b (filter_answer filter r) (Stuck filter.place ∷ [])

    at : (b : Bool) → is_match r filter.pattern ≡ b → is_match r filter.pattern ≡ true
    at true e = e
    at false e =
        let stuck : IsTrue (list_all is_going (items (answer_when false))) = subst (λ (b : Bool). IsTrue (list_all is_going (items (answer_when b)))) e routed in
        absurd (false≢true stuck)
