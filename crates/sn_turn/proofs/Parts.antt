-- Where parts of a network stand.
use Rattle.std.proofs.Common.{◌≡◌, ℕ, zero, suc, ◌<◌, length, get_or, arith, true, List, [], ◌∷◌, ◌++◌, map, sym, ap, subst, ◌∙◌}
use Rattle.std.specs.Prelude.{IfOk, OnOk, Result, Ok, Err, Some, is_some, slice_get}
use Rattle.std.specs.Option.{option_and_then, option_map}
use Rattle.std.specs.Result.{is_ok}
use Rattle.std.proofs.lemmas.Bool.{false≢true}
use Rattle.std.proofs.lemmas.List.{map-append}
use Rattle.sn_record.specs.LabelSet.{Labels}
use Rattle.sn_histories.specs.Histories.{In, Out}
use Rattle.sn_streams.specs.Segments.{Segments}
use Rattle.sn_streams.specs.Trees.{Series}
use Rattle.sn_histories.proofs.Histories.{series-begins, series-ends}
use Rattle.sn_histories.proofs.Sites.{left_to_right}
use Rattle.sn_net.specs.Dispatchers.{Network}
use Rattle.sn_net.specs.Item.{ModelItem}
use Rattle.sn_net.specs.declared.net.Merge.{Merge}
use Rattle.sn_net.specs.declared.net.Net.{Net}
use Rattle.sn_net.specs.declared.net.Net.TheOpen.{Net-F}
use Rattle.sn_net.specs.declared.net.Net.TheVariants as form
use Rattle.sn_net.specs.declared.net.Net.TheViews.{out-Net, out-roll-Net}
use Rattle.sn_model.proofs.Forms.{tree-Serial}
use Rattle.sn_model.specs.declared.run.Run.{Run}
use Rattle.sn_model.specs.declared.step.Step.{Step}
use Rattle.sn_model.specs.declared.step.Step.TheVariants as step
use Rattle.sn_model.specs.Meaning.{tree}
use Rattle.sn_model.specs.Run.{input_of, setting_of}
use Rattle.sn_net_histories.specs.Histories.{IsAtRun, Whole, Spot, history, leads_somewhere}
use Rattle.sn_net_histories.specs.Places.{tree_step}
use Rattle.sn_view.proofs.Standing.{part-further}
use Rattle.sn_view.specs.Parts.{part_at, part_below}
use Rattle.sn_routed.proofs.Spots.{leads_spot, spot_further, spot_reached}
use Rattle.sn_routed.specs.Spots.{from_form, spot_at, spot_behind}
use Rattle.sn_component.specs.Facts.{history_for}
use Rattle.sn_stream.specs.Ends.{End}
use Rattle.sn_turn.specs.Places.{AreNewAt, LeadTo}

-- the forms of networks
pub shape-Serial : (l r : Net) → out-Net (form.Serial l r) ≡ Net-F.Serial l r
shape-Serial l r = ap out-Net (sym (form.rolls-Serial l r)) ∙ out-roll-Net (Net-F.Serial l r)

pub shape-Choice : (place : ℕ) (m : Merge) (branches : List Net) (faces : List (List Labels)) → out-Net (form.Choice place m branches faces) ≡ Net-F.Choice place m branches faces
shape-Choice place m branches faces = ap out-Net (sym (form.rolls-Choice place m branches faces)) ∙ out-roll-Net (Net-F.Choice place m branches faces)

-- the run's network itself
pub lead_root : (run : Run) (net : Net) (path : List ℕ) (steps : List Step) → net ≡ run.net → path ≡ [] → steps ≡ [] → LeadTo run net path steps
lead_root run net path steps is p s = record {
  there = ap (part_at run.net) p ∙ ap (λ n. Some n) (sym is);
  reached = ap (λ ss. spot_at run.depth (Whole run.net) (map tree_step ss)) s ∙ ap (λ n. Some (Whole n)) (sym is);
}

-- what stands where steps lead
pub stands : (run : Run) (net : Net) (path : List ℕ) (steps : List Step) → LeadTo run net path steps
    → (seg : Segments ModelItem) × IsAtRun run (map tree_step steps) (record { part = tree (setting_of run) net; seg = seg })
stands run net path steps lead = spot_reached (setting_of run) (map tree_step steps) (Whole run.net) (Whole net) (input_of run ∷ []) lead.reached

pub leads : (run : Run) (net : Net) (path : List ℕ) (steps : List Step) → LeadTo run net path steps → leads_somewhere run.depth run.net (map tree_step steps) ≡ true
leads run net path steps lead = leads_spot run.depth run.net (map tree_step steps) ∙ ap is_some lead.reached

-- one step further
pub lead_on : (run : Run) (net part : Net) (path : List ℕ) (steps : List Step) (i : ℕ) (step : Step) → LeadTo run net path steps → part_below (out-Net net) i ≡ Some part
    → spot_behind run.depth (Whole net) (tree_step step) ≡ Some (Whole part) → LeadTo run part (path ++ i ∷ []) (steps ++ step ∷ [])
lead_on run net part path steps i step lead below behind = record {
  there = part-further run.net path i net lead.there ∙ below;
  reached =
      ap (spot_at run.depth (Whole run.net)) (map-append tree_step steps (step ∷ []))
      ∙ spot_further run.depth (map tree_step steps) (tree_step step ∷ []) (Whole run.net)
      ∙ ap (option_and_then (λ (next : Spot). spot_at run.depth next (tree_step step ∷ []))) lead.reached
      ∙ ap (option_and_then (λ (next : Spot). Some next)) behind;
}

pub lead_left : (run : Run) (l r : Net) (path : List ℕ) (steps : List Step) → LeadTo run (form.Serial l r) path steps → LeadTo run l (path ++ 0 ∷ []) (steps ++ step.Left ∷ [])
lead_left run l r path steps lead =
    lead_on run (form.Serial l r) l path steps 0 step.Left lead (ap (λ f. part_below f 0) (shape-Serial l r)) (ap (λ f. from_form run.depth f (tree_step step.Left)) (shape-Serial l r))

pub lead_right : (run : Run) (l r : Net) (path : List ℕ) (steps : List Step) → LeadTo run (form.Serial l r) path steps → LeadTo run r (path ++ 1 ∷ []) (steps ++ step.Right ∷ [])
lead_right run l r path steps lead =
    lead_on run (form.Serial l r) r path steps 1 step.Right lead (ap (λ f. part_below f 1) (shape-Serial l r)) (ap (λ f. from_form run.depth f (tree_step step.Right)) (shape-Serial l r))

pub lead_branch : (run : Run) (place : ℕ) (m : Merge) (branches : List Net) (faces : List (List Labels)) (i : ℕ) (branch : Net) (path : List ℕ) (steps : List Step)
    → slice_get branches i ≡ Some branch → LeadTo run (form.Choice place m branches faces) path steps → LeadTo run branch (path ++ i ∷ []) (steps ++ step.Branch i ∷ [])
lead_branch run place m branches faces i branch path steps there lead =
    lead_on run (form.Choice place m branches faces) branch path steps i (step.Branch i) lead (ap (λ f. part_below f i) (shape-Choice place m branches faces) ∙ there)
    (ap (λ f. from_form run.depth f (tree_step (step.Branch i))) (shape-Choice place m branches faces) ∙ ap (option_map Whole) there)

-- the ends of the parts of a series: what leaves the left one comes into the right one
module _ (run : Run) (steps : List Step) (a b : Network) (seg : Segments ModelItem) (at : IsAtRun run (map tree_step steps) (record { part = Series a b; seg = seg })) where
  pub series_left : (first : List Step) (input put : End) → history_for input.made ≡ history run (map tree_step steps) In → input.moved ≡ [] → first ≡ steps ++ step.Left ∷ []
      → history_for put.made ≡ history run (map tree_step first) Out → put.moved ≡ [] → AreNewAt run first input put
  series_left first input put comes got is leaves moved = record {
    comes = comes
        ∙ sym (series-begins (tree (setting_of run) run.net) (input_of run) (map tree_step steps) a b seg at)
        ∙ ap (λ ss. history run ss In) (sym (ap (map tree_step) is ∙ map-append tree_step steps (step.Left ∷ [])));
    leaves = leaves;
    got = got;
    put = moved;
  }

  pub series_right : (first second : List Step) (get output : End) → history_for output.made ≡ history run (map tree_step steps) Out → output.moved ≡ []
      → first ≡ steps ++ step.Left ∷ [] → second ≡ steps ++ step.Right ∷ [] → history_for get.made ≡ history run (map tree_step first) Out → get.moved ≡ [] → AreNewAt run second get output
  series_right first second get output leaves put is then_is comes moved =
      let right = sym (ap (map tree_step) then_is ∙ map-append tree_step steps (step.Right ∷ [])) in
      record {
        comes = comes
            ∙ ap (λ ss. history run ss Out) (ap (map tree_step) is ∙ map-append tree_step steps (step.Left ∷ []))
            ∙ left_to_right (tree (setting_of run) run.net) (input_of run) (map tree_step steps)
            ∙ ap (λ ss. history run ss In) right;
        leaves = leaves
            ∙ sym (series-ends (tree (setting_of run) run.net) (input_of run) (map tree_step steps) a b seg at)
            ∙ ap (λ ss. history run ss Out) right;
        got = moved;
        put = put;
      }

series_at : (run : Run) (l r : Net) (path : List ℕ) (steps : List Step) (lead : LeadTo run (form.Serial l r) path steps)
    → IsAtRun run (map tree_step steps) (record { part = Series (tree (setting_of run) l) (tree (setting_of run) r); seg = (stands run (form.Serial l r) path steps lead).0 })
series_at run l r path steps lead =
    let here = stands run (form.Serial l r) path steps lead in
    subst (λ t. IsAtRun run (map tree_step steps) (record { part = t; seg = here.0 })) (tree-Serial (setting_of run) l r) here.1

pub ends_left : (run : Run) (l r : Net) (path : List ℕ) (steps first : List Step) (input output put : End) → LeadTo run (form.Serial l r) path steps → AreNewAt run steps input output
    → first ≡ steps ++ step.Left ∷ [] → history_for put.made ≡ history run (map tree_step first) Out → put.moved ≡ [] → AreNewAt run first input put
ends_left run l r path steps first input output put lead ends is leaves moved =
    series_left run steps (tree (setting_of run) l) (tree (setting_of run) r) (stands run (form.Serial l r) path steps lead).0 (series_at run l r path steps lead)
    first input put ends.comes ends.got is leaves moved

pub ends_right : (run : Run) (l r : Net) (path : List ℕ) (steps first second : List Step) (input output get : End) → LeadTo run (form.Serial l r) path steps → AreNewAt run steps input output
    → first ≡ steps ++ step.Left ∷ [] → second ≡ steps ++ step.Right ∷ [] → history_for get.made ≡ history run (map tree_step first) Out → get.moved ≡ [] → AreNewAt run second get output
ends_right run l r path steps first second input output get lead ends is then_is comes moved =
    series_right run steps (tree (setting_of run) l) (tree (setting_of run) r) (stands run (form.Serial l r) path steps lead).0 (series_at run l r path steps lead)
    first second get output ends.leaves ends.put is then_is comes moved

-- what two clauses of an answer give together
pub both_ok : {A E : Type 0} {P Q R : A → Type 0} (result : Result A E) → ((a : A) → P a → Q a → R a) → IfOk result P → IfOk result Q → IfOk result R
both_ok (Ok a) give p q = give a p q
both_ok (Err e) give p q = tt

pub three_ok : {A E : Type 0} {P Q R S : A → Type 0} (result : Result A E) → ((a : A) → P a → Q a → R a → S a) → IfOk result P → IfOk result Q → IfOk result R → IfOk result S
three_ok (Ok a) give p q r = give a p q r
three_ok (Err e) give p q r = tt

pub ok_give : {A E P Q : Type 0} (result : Result A E) → (P → Q) → OnOk result P → OnOk result Q
ok_give (Ok a) give p = give p
ok_give (Err e) give p = tt

pub ok_there : {A E P : Type 0} (result : Result A E) → is_ok result ≡ true → OnOk result P → P
ok_there (Ok a) is p = p
ok_there (Err e) is p = absurd (false≢true is)

-- the same path and steps
pub led : (run : Run) (net : Net) (path there : List ℕ) (steps here : List Step) → there ≡ path → here ≡ steps → LeadTo run net path steps → LeadTo run net there here
led run net path there steps here p s lead = record {
  there = ap (part_at run.net) p ∙ lead.there;
  reached = ap (λ ss. spot_at run.depth (Whole run.net) (map tree_step ss)) s ∙ lead.reached;
}

pub got_at : {A : Type 0} (xs : List A) (i : ℕ) (x : A) → i < length xs → x ≡ get_or xs i x → slice_get xs i ≡ Some x
got_at [] i x less is = absurd (omega (arith, less))
got_at (y ∷ xs) zero x less is = ap (λ z. Some z) (sym is)
got_at (y ∷ xs) (suc i) x less is = got_at xs i x (omega (arith, less)) is
