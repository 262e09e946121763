-- No record lacks a route at any place of a run.
use Rattle.std.proofs.Common.{◌≡◌, Bool, false, ◌||◌, List, [], ◌∷◌, map, refl, ap₂}
use Rattle.std.specs.Prelude.{Option, None, Some, unwrap_or}
use Rattle.std.specs.List.{All, AllByRecursion as Each}
use Rattle.std.specs.Option.{option_map}
use mathlib.Core.Logic.{∥∥₁_elim}
use mathlib.Core.Bool.{Bool-set}
use Rattle.sn_streams.specs.Segments.{Segments}
use Rattle.sn_streams.specs.Trees.{Component, Series, Fork, one}
use Rattle.sn_histories.specs.Entries.{Entry, Item, To, Mark, End}
use Rattle.sn_histories.specs.Histories.{Port, In, Out, Decisions, decision, passing_at}
use Rattle.sn_histories.specs.Sites.{Site, Step, reached, has_marks}
use Rattle.sn_net.specs.Cell.{CellState}
use Rattle.sn_net.specs.Dispatchers.{Network}
use Rattle.sn_net.specs.Item.{ModelItem, modelled}
use Rattle.sn_net.specs.WellFormed.{IsWellFormed}
use Rattle.sn_model.specs.declared.run.Run.{Run}
use Rattle.sn_model.specs.Meaning.{tree}
use Rattle.sn_model.specs.Run.{input_of, setting_of}
use Rattle.sn_typing.specs.Typed.{IsOf, IsTyped}
use Rattle.sn_sound.proofs.Carried.{each_more}
use Rattle.sn_sound.proofs.Follows.{Goes}
use Rattle.sn_sound.proofs.Items.{FlowsFrom, each_of_all, net_conveys, safely, typed_is_safe}
use Rattle.sn_net_histories.specs.Histories.{IsAtRun, history}
use Rattle.sn_net_histories.proofs.Passing.{all_pass}
use Rattle.sn_routed.specs.Routed.{has_stuck}
use Rattle.sn_routed.proofs.Known.{KnownAt, OfItem, comes_sorted, decided_sorted, each_entry, each_framed, gives_each, known_reached, leaves_sorted}

-- no entry is of an item that is stuck, where each item goes
pub none_lacks : (es : List (Entry ModelItem)) → Each (OfItem Goes) es → has_stuck es ≡ false
none_lacks [] each = refl
none_lacks (Item x ∷ es) each = ap₂ (λ b c. b || c) each.0 (none_lacks es each.1)
none_lacks (To k ∷ es) each = none_lacks es each.1
none_lacks (Mark ∷ es) each = none_lacks es each.1
none_lacks (End ∷ es) each = none_lacks es each.1

segments_more : (P Q : ModelItem → Type 0) → ((x : ModelItem) → P x → Q x) → (xss : Segments ModelItem) → Each (Each P) xss → Each (Each Q) xss
segments_more P Q more xss each = each_more (Each P) (Each Q) (each_more P Q more) xss each

-- what passes the ports of a site of which something is known
pub passing_goes : (port : Port) (marked : Bool) (t : Network) (xss : Segments ModelItem) → KnownAt Goes (record { part = t; seg = xss })
    → Each (OfItem Goes) (passing_at port marked (record { part = t; seg = xss }))
passing_goes In marked t xss known = each_entry Goes marked xss (segments_more known.before Goes (comes_sorted Goes t known.before known.behind known.conveys) xss known.comes)
passing_goes Out marked t xss known =
    each_entry Goes marked (one t xss)
    (segments_more known.behind Goes (leaves_sorted Goes t known.before known.behind known.conveys) (one t xss)
    (gives_each Goes t known.before known.behind known.conveys xss known.comes))
passing_goes Decisions marked (Component m s) xss known = tt
passing_goes Decisions marked (Series a b) xss known = tt
passing_goes Decisions marked (Fork merge r child) xss known =
    each_framed (decision r) known.before Goes (decided_sorted Goes merge r child known.before known.behind known.own known.conveys) marked xss known.comes

module _ (run : Run) (formed : IsWellFormed run.boxes run.net) (typed : All (IsTyped run.boxes run.net) (map modelled run.items)) where
  abbrev safe_items : ModelItem → Type 0
  safe_items = IsOf (safely (setting_of run) run.net formed)

  pub known_root : KnownAt Goes (record { part = tree (setting_of run) run.net; seg = input_of run ∷ [] })
  known_root = record {
    before = safe_items;
    behind = IsOf (FlowsFrom (setting_of run) run.net formed (safely (setting_of run) run.net formed));
    conveys = net_conveys (setting_of run) run.net formed (safely (setting_of run) run.net formed) (λ v is. is);
    comes = (
      each_more (IsTyped run.boxes run.net) safe_items (typed_is_safe (setting_of run) run.net formed) (input_of run) (each_of_all (IsTyped run.boxes run.net) (input_of run) typed),
      tt,
    );
    own = all_pass (setting_of run) run.net;
  }

  pub known_at : (steps : List Step) (site : Site ModelItem CellState) → IsAtRun run steps site → KnownAt Goes site
  known_at steps site at = known_reached Goes steps (record { part = tree (setting_of run) run.net; seg = input_of run ∷ [] }) site known_root at

  all_go : (steps : List Step) (port : Port) → Each (OfItem Goes) (history run steps port)
  all_go steps port = at (reached (record { part = tree (setting_of run) run.net; seg = input_of run ∷ [] }) steps) refl
    where
      at : (o : Option (Site ModelItem CellState)) → reached (record { part = tree (setting_of run) run.net; seg = input_of run ∷ [] }) steps ≡ o
          → Each (OfItem Goes) (unwrap_or (option_map (passing_at port (has_marks steps)) o) [])
      at None is = tt
      at (Some site) is = passing_goes port (has_marks steps) site.part site.seg (known_at steps site is)

pub no_stuck_passes : (run : Run) (steps : List Step) (port : Port) → has_stuck (history run steps port) ≡ false
no_stuck_passes run steps port =
    ∥∥₁_elim run.formed (Bool-set _ _) (λ formed. ∥∥₁_elim run.typed (Bool-set _ _) (λ typed. none_lacks (history run steps port) (all_go run formed typed steps port)))
