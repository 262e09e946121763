-- Whether a box may pass its first entry on.
use Rattle.std.proofs.Common.{◌≡◌, ℕ, Bool, List, [], refl, sym, ap, ◌∙◌}
use Rattle.std.specs.Prelude.{Option, None, Some, is_some, option_and_then}
use Rattle.std.specs.Option.{option_map}
use Rattle.sn_net.specs.declared.net.Net.{Net}
use Rattle.sn_net.specs.declared.net.Net.TheOpen.{Net-F}
use Rattle.sn_net.specs.declared.net.Net.TheViews.{out-Net, out-roll-Net}
use Rattle.sn_net.specs.declared.net.Net.TheVariants as form
use Rattle.sn_net.specs.Item.{ModelItem}
use Rattle.sn_model.specs.declared.run.Run.{Run}
use Rattle.sn_model.specs.Components.{box_item}
use Rattle.sn_model.specs.Run.{boxes_of, fuel_of}
use Rattle.sn_view.specs.View.{Alone, Entry, Node, Waiting, first_of}
use Rattle.sn_view.specs.Next.{Given as Step, box_gives, local_step}
use Rattle.sn_view.specs.Parts.{part_at}
use Rattle.sn_node.specs.Answered.{form_at}
use Rattle.sn_node.specs.Local.{local_at}

some_mapped : {X Y : Type 0} (f : X → Y) (o : Option X) → is_some (option_map f o) ≡ is_some o
some_mapped f None = refl
some_mapped f (Some x) = refl

pub box_at : (net : Net) (path : List ℕ) (part : Net) (place number : ℕ) → part_at net path ≡ Some part → part ≡ form.Box place number → form_at net path ≡ Some (Net-F.Box place number)
box_at net path part place number at is =
    ap (option_map out-Net) at ∙ ap (λ p. Some (out-Net p)) (is ∙ sym (form.rolls-Box place number)) ∙ ap (λ f. Some f) (out-roll-Net (Net-F.Box place number))

pub box_may : (run : Run) (f : Option (Net-F Net)) (place number : ℕ) (n : Node) (done : Bool) → f ≡ Some (Net-F.Box place number) → n.state ≡ Alone
    → ((answer : ModelItem → List ModelItem) → done ≡ is_some (option_and_then (box_gives answer) (first_of n.waiting)))
    → done ≡ is_some (local_at run f n)
box_may run f place number n done is alone tells = at (first_of n.waiting) tells ∙ sym same
  where
    same : is_some (local_at run f n) ≡ is_some (local_step run (Some (Net-F.Box place number)) Alone (first_of n.waiting))
    same = ap (λ f. is_some (local_step run f n.state (first_of n.waiting))) is ∙ ap (λ s. is_some (local_step run (Some (Net-F.Box place number)) s (first_of n.waiting))) alone

    at : (o : Option Waiting) → ((answer : ModelItem → List ModelItem) → done ≡ is_some (option_and_then (box_gives answer) o)) → done ≡ is_some (local_step run (Some (Net-F.Box place number)) Alone o)
    at None tells = tells (λ x. [])
    at (Some w) tells = tells (box_item (boxes_of run) (fuel_of run) place number) ∙ sym (some_mapped (λ (o : List (Entry ModelItem)). let step : Step = record { state = Alone; entries = o } in step) (box_gives (box_item (boxes_of run) (fuel_of run) place number) w))
