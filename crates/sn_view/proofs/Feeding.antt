-- What a box answers to the records that wait at it, while a network of typed items runs.
use Rattle.std.proofs.Common.{◌≡◌, ℕ, zero, suc, List, [], ◌∷◌, map, Some, sym, ap, ◌∙◌, subst}
use Rattle.std.specs.Prelude.{slice_get}
use Rattle.std.specs.List.{All, AllByRecursion as Each}
use Rattle.std.proofs.lemmas.Option.{none-some, same_Some}
use Rattle.sn_record.specs.Record.{Entries}
use Rattle.sn_streams.specs.Machines.{Machine}
use Rattle.sn_streams.specs.Trees.{Component}
use Rattle.sn_net.specs.declared.net.Net.TheOpen.{Net-F}
use Rattle.sn_net.specs.Cell.{CellState}
use Rattle.sn_net.specs.Dispatchers.{Network}
use Rattle.sn_net.specs.Item.{ModelItem, Rec}
use Rattle.sn_net.specs.WellFormed.{IsWellFormed}
use Rattle.sn_model.specs.declared.run.Run.{Run}
use Rattle.sn_model.specs.Components.{alone, box_item}
use Rattle.sn_model.specs.Meaning.{tree}
use Rattle.sn_model.specs.Run.{boxes_of, fuel_of, input_of, net_of, setting_of}
use Rattle.sn_typing.specs.Typed.{IsTyped}
use Rattle.sn_sound.proofs.Carried.{each_more}
use Rattle.sn_sound.proofs.Follows.{Goes}
use Rattle.sn_live.specs.Flat.{at_steps}
use Rattle.sn_live.specs.Known.{EachEntry, KnownThere}
use Rattle.sn_live.specs.Live.{Live, subs}
use Rattle.sn_live.proofs.Known.{each_entry_more, known-at}
use Rattle.sn_view.specs.Chains.{Comes}
use Rattle.sn_view.specs.Placed.{Stands, fit, shape_of}
use Rattle.sn_view.specs.Routed.{BoxesAreFed}
use Rattle.sn_view.specs.Seen.{entry_of, erased, live_of, step_of, tree_of}
use Rattle.sn_view.specs.View.{It, Mark, End, Waiting, Plain, InFlight, Finished, View}
use Rattle.sn_view.proofs.Chains.{chained}
use Rattle.sn_view.proofs.Giving.{LiveN}
use Rattle.sn_view.proofs.Lists.{there-map}
use Rattle.sn_view.proofs.Local.{here}
use Rattle.sn_view.proofs.Routed.{conveyed, known_after, none_stuck}

-- a component answers each item that waits at it with items of the sort
component-each : {A S : Type 0} (sort : A → Type 0) (f : Live A S) (m : Machine A S) (s : S) → KnownThere sort (Component m s) f
    → EachEntry (λ x. Each sort (m.emits (f []).state x)) ((f []).waiting)
component-each sort f m s there =
    let (keeps, start, in_sort, out_sort, goes) = there.conveys in
    each_entry_more there.P (λ x. Each sort (m.emits (f []).state x)) (λ x is. each_more there.Q sort out_sort (m.emits (f []).state x) (goes (f []).state x there.known.1 is).1) ((f []).waiting) there.known.0

module _ (P : ModelItem → Type 0) where
  of-waiting : (ws : List Waiting) (p : ℕ) (given : Entries) → EachEntry P (erased (map entry_of ws)) → slice_get ws p ≡ Some (Plain (It (Rec given))) → P (Rec given)
  of-waiting [] p given each is = absurd (none-some (Plain (It (Rec given))) is)
  of-waiting (w ∷ ws) zero given each is = (subst (λ v. EachEntry P (erased (map entry_of (v ∷ ws)))) (same_Some w (Plain (It (Rec given))) is) each).0
  of-waiting (Plain (It x) ∷ ws) (suc p) given each is = of-waiting ws p given each.1 is
  of-waiting (Plain Mark ∷ ws) (suc p) given each is = of-waiting ws p given each is
  of-waiting (Plain End ∷ ws) (suc p) given each is = of-waiting ws p given each is
  of-waiting (InFlight call r ∷ ws) (suc p) given each is = of-waiting ws p given each.1 is
  of-waiting (Finished r ∷ ws) (suc p) given each is = of-waiting ws p given each.1 is

-- after any list of events
module _ (run : Run) (formed : IsWellFormed (boxes_of run) (net_of run)) (typed : All (IsTyped (boxes_of run) (net_of run)) (input_of run)) where
  pub boxes-fed : (g : View) → Comes run g → BoxesAreFed g
  boxes-fed g comes i p place number n given there is_box waits =
      let stand = chained run g formed comes in
      let answer : ModelItem → List ModelItem = box_item (boxes_of g.run) (fuel_of g.run) place number in
      let stands : Stands (tree_of g) g.run (map shape_of g.nodes) (shape_of n) = stand.placed.all i (shape_of n) (there-map shape_of g.nodes i n there) in
      let box : stands.form ≡ Net-F.Box place number = same_Some stands.form (Net-F.Box place number) (sym stands.is_form ∙ is_box) in
      let part_here : Network = alone answer in
      let fits : at_steps (tree_of g) (map step_of n.steps) ≡ Some part_here = stands.fits ∙ ap (λ form. Some (fit (setting_of g.run) form n.left)) box in
      let f : Live ModelItem CellState = subs (map step_of n.steps) (live_of g) in
      let known : KnownThere Goes part_here f =
      known-at Goes (tree (setting_of run) (net_of run)) _ _ (conveyed run formed typed) (live_of g) (map step_of n.steps) part_here
      (subst (λ (r : Run). at_steps (tree (setting_of r) (net_of r)) (map step_of n.steps) ≡ Some part_here) stand.same fits) (known_after run formed typed g comes).live in
      let each : EachEntry (λ x. Each Goes (answer x)) (erased (map entry_of n.waiting)) =
      subst (λ (l : LiveN). EachEntry (λ x. Each Goes (answer x)) l.waiting) (here g i n there stand.placed.distinct stands) (component-each Goes f _ _ known) in
      none_stuck (answer (Rec given)) (of-waiting (λ x. Each Goes (answer x)) n.waiting p given each waits)
