-- What the node of a component keeps, through each step of a turn.
use Rattle.std.proofs.Common.{◌≡◌, ℕ, Bool, true, false, ◌||◌, List, [], ◌∷◌, ◌++◌, sym, ap, ap₂, ◌∙◌, subst, append_assoc, append-nil, refl}
use Rattle.std.specs.Prelude.{Some}
use Rattle.std.proofs.lemmas.Bool.{false≢true}
use Rattle.std.proofs.lemmas.List.Folds.{list_any-append}
use Rattle.std.proofs.lemmas.Option.{same_Some}
use mathlib.Core.List.{IsPrefix, map-append}
use Rattle.sn_streams.specs.Machines.{Machine}
use Rattle.sn_histories.specs.Entries.{Entry}
use Rattle.sn_histories.specs.Histories.{In, Out}
use Rattle.sn_histories.proofs.Working.{component-history}
use Rattle.sn_net.specs.Cell.{CellState}
use Rattle.sn_net.specs.Item.{ModelItem}
use Rattle.sn_net.specs.WellFormed.{FitsBoxes}
use Rattle.sn_net.specs.declared.net.Net.{Net}
use Rattle.sn_net.specs.declared.net.Net.TheViews.{out-Net}
use Rattle.sn_node.proofs.Sound.{part_fits}
use Rattle.sn_model.specs.declared.run.Run.{Run}
use Rattle.sn_model.specs.Meaning.{tree}
use Rattle.sn_model.specs.Run.{boxes_of, input_of, net_of, setting_of}
use Rattle.sn_net_histories.specs.Histories.{history}
use Rattle.sn_view.specs.Parts.{part_at}
use Rattle.sn_routed.specs.Routed.{has_stuck, lacks_route}
use Rattle.sn_routed.proofs.Routed.{no_stuck_passes}
use Rattle.sn_facts.specs.Working.{gives_on, next_on}
use Rattle.sn_facts.proofs.Working.{works-beginning, works-on}
use Rattle.sn_stream.specs.declared.item.StreamItem.{StreamItem}
use Rattle.sn_stream.specs.Ends.{End, entry_of, history_of, moves, passed}
use Rattle.sn_component.specs.Component.{machine_of, start_of}
use Rattle.sn_component.specs.Facts.{IsFresh, StandsAt, WorksOff, history_for}
use Rattle.sn_component.specs.Seen.{Working, given_by}

neither : (a b : Bool) → (a || b) ≡ false → (a ≡ false) × (b ≡ false)
neither true b none = absurd (false≢true (sym none))
neither false b none = (refl, none)

-- entries among others that have a route
last_of : (given gives rest : List (Entry ModelItem)) → has_stuck ((given ++ gives) ++ rest) ≡ false → has_stuck gives ≡ false
last_of given gives rest none =
    let before = (neither _ _ (sym (list_any-append lacks_route (given ++ gives) rest) ∙ none)).0 in
    (neither _ _ (sym (list_any-append lacks_route given gives) ∙ before)).1

-- a node that has received nothing
pub fresh_works : (w : Working) → w.waiting ≡ [] → w.held ≡ [] → IsFresh w → WorksOff w
fresh_works w nothing none f = record {
  stands = f.stands;
  received = [];
  got = ap passed f.got ∙ sym (ap passed nothing);
  begins = subst (λ l. IsPrefix (passed l) (history_for w.input.made)) (sym f.got) (history_for w.input.made, refl);
  works = record {
    image = ap passed (ap₂ (λ l m. l ++ m) f.put none);
    reached = f.state;
  };
}

-- what it has received is a beginning of what comes in
received_begins : (w : Working) (f : WorksOff w) → IsPrefix f.received (history w.run f.stands.steps In)
received_begins w f = (
  passed w.waiting ++ f.begins.0,
  sym (append_assoc f.received (passed w.waiting) f.begins.0) ∙ ap (λ l. l ++ f.begins.0) (sym f.got) ∙ f.begins.1 ∙ f.stands.comes,
)

-- and what it has given of what leaves: so the next entry that it holds may be put
pub given_begins : (w : Working) → WorksOff w → IsPrefix (given_by w.output w.held) (history_for w.output.made)
given_begins w f =
    let s = f.stands in
    let m : Machine ModelItem CellState = machine_of (setting_of w.run) (out-Net s.net) in
    let start : CellState = start_of (out-Net s.net) in
    subst (IsPrefix (given_by w.output w.held)) (sym s.leaves)
    (works-beginning m start w.state f.received (given_by w.output w.held) (history w.run s.steps In) (history w.run s.steps Out)
    (component-history (tree (setting_of w.run) w.run.net) (input_of w.run) s.steps m start s.seg s.at) f.works (received_begins w f))

-- entries were put
pub after_sending : (w : Working) (output : End) (held : List StreamItem) → given_by output held ≡ given_by w.output w.held → output.made ≡ w.output.made
    → WorksOff w → WorksOff (record w { output = output; held = held })
after_sending w output held given made f =
    let s = f.stands in record {
      stands = record { net = s.net; there = s.there; steps = s.steps; seg = s.seg; at = s.at; comes = s.comes; leaves = ap history_for made ∙ s.leaves };
      received = f.received;
      got = f.got;
      begins = f.begins;
      works = record { image = given ∙ f.works.image; reached = f.works.reached };
    }

-- an entry was got, and waits
pub after_receiving : (w : Working) (input : End) (x : StreamItem) → w.waiting ≡ [] → input ≡ moves w.input x → IsPrefix (passed input.moved) (history_of input)
    → WorksOff w → WorksOff (record w { input = input; waiting = x ∷ [] })
after_receiving w input x none got begins f =
    let s = f.stands in
    let made : input.made ≡ w.input.made = ap (λ (e : End). e.made) got in
    let before : passed w.input.moved ≡ f.received = f.got ∙ ap (λ l. f.received ++ passed l) none ∙ append-nil f.received in record {
      stands = record { net = s.net; there = s.there; steps = s.steps; seg = s.seg; at = s.at; comes = ap history_for made ∙ s.comes; leaves = s.leaves };
      received = f.received;
      got = ap (λ (e : End). passed e.moved) got ∙ map-append entry_of w.input.moved (x ∷ []) ∙ ap (λ l. l ++ entry_of x ∷ []) before;
      begins = begins;
      works = f.works;
    }

-- the part that a walk reaches is the one that stands there
same_part : (w : Working) (run : Run) (part : Net) → w.run ≡ run → part_at (net_of run) w.path ≡ Some part → (s : StandsAt w.run w.path w.input.made w.output.made)
    → part ≡ s.net
same_part w run part is there s = same_Some part s.net (sym there ∙ ap (λ (r : Run). part_at r.net w.path) (sym is) ∙ s.there)

-- what waited was worked off
pub after_working : (w : Working) (run : Run) (part : Net) (x : StreamItem) (state : CellState) (held : List StreamItem) → w.run ≡ run
    → part_at (net_of run) w.path ≡ Some part → w.waiting ≡ x ∷ []
    → given_by w.output held ≡ given_by w.output w.held ++ gives_on (machine_of (setting_of run) (out-Net part)) w.state (entry_of x)
    → state ≡ next_on (machine_of (setting_of run) (out-Net part)) w.state (entry_of x)
    → WorksOff w → WorksOff (record w { state = state; waiting = []; held = held })
after_working w run part x state held is there waits gives then_state f =
    let s = f.stands in
    let m : Machine ModelItem CellState = machine_of (setting_of w.run) (out-Net s.net) in
    let same : machine_of (setting_of run) (out-Net part) ≡ m = ap₂ (λ (r : Run) (n : Net). machine_of (setting_of r) (out-Net n)) (sym is) (same_part w run part is there s) in
    let on = works-on m (start_of (out-Net s.net)) w.state f.received (given_by w.output w.held) (entry_of x) f.works in record {
      stands = s;
      received = f.received ++ entry_of x ∷ [];
      got = f.got ∙ ap (λ l. f.received ++ passed l) waits ∙ sym (append-nil (f.received ++ entry_of x ∷ []));
      begins = f.begins;
      works = record {
        image = gives ∙ ap (λ (n : Machine ModelItem CellState). given_by w.output w.held ++ gives_on n w.state (entry_of x)) same ∙ on.image;
        reached = then_state ∙ ap (λ (n : Machine ModelItem CellState). next_on n w.state (entry_of x)) same ∙ on.reached;
      };
    }

-- the component has a route for the entry that waits: what it would give is among what leaves it
pub routed_next : (w : Working) (run : Run) (part : Net) (x : StreamItem) → w.run ≡ run → part_at (net_of run) w.path ≡ Some part → w.waiting ≡ x ∷ []
    → WorksOff w → has_stuck (gives_on (machine_of (setting_of run) (out-Net part)) w.state (entry_of x)) ≡ false
routed_next w run part x is there waits f =
    let s = f.stands in
    let m : Machine ModelItem CellState = machine_of (setting_of w.run) (out-Net s.net) in
    let same : machine_of (setting_of run) (out-Net part) ≡ m = ap₂ (λ (r : Run) (n : Net). machine_of (setting_of r) (out-Net n)) (sym is) (same_part w run part is there s) in
    let gives = gives_on m w.state (entry_of x) in
    let on = works-on m (start_of (out-Net s.net)) w.state f.received (given_by w.output w.held) (entry_of x) f.works in
    let comes : IsPrefix (f.received ++ entry_of x ∷ []) (history w.run s.steps In) = (
      f.begins.0,
      ap (λ l. l ++ f.begins.0) (sym (f.got ∙ ap (λ l. f.received ++ passed l) waits)) ∙ f.begins.1 ∙ s.comes,
    ) in
    let leaves = works-beginning m (start_of (out-Net s.net)) (next_on m w.state (entry_of x)) (f.received ++ entry_of x ∷ []) (given_by w.output w.held ++ gives)
    (history w.run s.steps In) (history w.run s.steps Out) (component-history (tree (setting_of w.run) w.run.net) (input_of w.run) s.steps m (start_of (out-Net s.net)) s.seg s.at) on comes in
    let whole = ap has_stuck leaves.1 ∙ no_stuck_passes w.run s.steps Out in
    ap (λ (n : Machine ModelItem CellState). has_stuck (gives_on n w.state (entry_of x))) same
    ∙ last_of (given_by w.output w.held) gives leaves.0 whole

-- a part of a run's network fits the run's boxes
pub part_of_run : (run : Run) (path : List ℕ) (part : Net) → part_at (net_of run) path ≡ Some part → FitsBoxes (boxes_of run) part
part_of_run run path part there = part_fits run.boxes run.net path part run.formed there
