-- What finished calls gave.
use Rattle.std.specs.Prelude.{◌≡◌, ℕ, List, map, Option, Some, slice_get}
use Rattle.std.specs.Option.{option_map}
use Rattle.std.specs.Coded.{Π_prop, →_prop}
use Rattle.sn_net.specs.Coding.{items_once}
use Rattle.sn_record.specs.Record.{Entries}
use Rattle.sn_record.specs.declared.item.Item.{Item}
use Rattle.sn_net.specs.declared.net.Net.{Net}
use Rattle.sn_net.specs.declared.net.Net.TheOpen.{Net-F}
use Rattle.sn_net.specs.declared.net.Net.TheViews.{out-Net}
use Rattle.sn_net.specs.Item.{ModelItem, Rec, modelled}
use Rattle.sn_model.specs.Components.{box_item}
use Rattle.sn_model.specs.declared.run.Run.{Run}
use Rattle.sn_model.specs.Run.{boxes_of, fuel_of, net_of}
use Rattle.sn_view.specs.Parts.{part_at}
use Rattle.sn_node.specs.declared.entry.Waiting.{Waiting}
use Rattle.sn_node.specs.declared.entry.Waiting.TheVariants as waiting

-- the form of the part of a network at the end of a path
abbrev pub form_at : Net → List ℕ → Option (Net-F Net)
form_at net path = option_map out-Net (part_at net path)

-- the items are what the run's box at the end of the path answers to the record
abbrev pub IsAnswerAt : Run → List ℕ → Entries → List Item → Type 0
IsAnswerAt run path given items =
    (place number : ℕ) → form_at (net_of run) path ≡ Some (Net-F.Box place number) → map modelled items ≡ box_item (boxes_of run) (fuel_of run) place number (Rec given)

-- a finished call gave what is answered to its record
abbrev pub IsAnsweredBy : (ModelItem → List ModelItem) → Waiting → Type 0
IsAnsweredBy answer (waiting.Plain e) = Unit
IsAnsweredBy answer (waiting.InFlight call given) = Unit
IsAnsweredBy answer (waiting.Finished given items) = map modelled items ≡ answer (Rec given)

-- what the box of the run at the end of the path answers
abbrev pub IsAnswered : Run → List ℕ → Waiting → Type 0
IsAnswered run path w =
    (place number : ℕ) → form_at (net_of run) path ≡ Some (Net-F.Box place number) → IsAnsweredBy (box_item (boxes_of run) (fuel_of run) place number) w

-- so are those of each finished call that waits
abbrev pub AreAnswered : Run → List ℕ → List Waiting → Type 0
AreAnswered run path ws = (p : ℕ) (given : Entries) (items : List Item) → slice_get ws p ≡ Some (waiting.Finished given items) → IsAnswerAt run path given items

-- that they are has one proof alone, so a type may keep it
pub answered_once : (run : Run) (path : List ℕ) (ws : List Waiting) (p q : AreAnswered run path ws) → p ≡ q
answered_once run path ws =
    Π_prop (λ i. Π_prop (λ given. Π_prop (λ xs. →_prop (Π_prop (λ place. Π_prop (λ number. →_prop (items_once (map modelled xs) (box_item (boxes_of run) (fuel_of run) place number (Rec given)))))))))
