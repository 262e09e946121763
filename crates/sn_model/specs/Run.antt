-- Runs: a network with all that it needs.
use Rattle.std.specs.Prelude.{ℕ, List, map}
use Rattle.sn_record.specs.declared.item.Item.{Item}
use Rattle.sn_net.specs.declared.expr.BoxProgram.{BoxProgram}
use Rattle.sn_net.specs.declared.net.Net.{Net}
use Rattle.sn_net.specs.Item.{ModelItem, modelled}
use Rattle.sn_model.specs.declared.run.Run.{Run}
use Rattle.sn_model.specs.Meaning.{Setting, MayAnswerList, one_list}

-- its network, and the boxes that this calls
abbrev pub net_of : Run → Net
net_of run = run.net

abbrev pub boxes_of : Run → List BoxProgram
boxes_of run = run.boxes

-- units of fuel for each call, how many replicas a star may have, and how many entries a queue holds
abbrev pub fuel_of : Run → ℕ
fuel_of run = run.fuel

abbrev pub depth_of : Run → ℕ
depth_of run = run.depth

abbrev pub queue_of : Run → ℕ
queue_of run = run.queue

-- what flows in, in order
abbrev pub items_of : Run → List Item
items_of run = run.items

-- what its network is run with
abbrev pub setting_of : Run → Setting
setting_of run = record { boxes = run.boxes; fuel = run.fuel; depth = run.depth }

-- its items, as they flow in
abbrev pub input_of : Run → List ModelItem
input_of run = map modelled run.items

-- what it may answer, and what it answers on one thread
abbrev pub MayGive : Run → List ModelItem → Type 0
MayGive run ys = MayAnswerList (setting_of run) run.net (input_of run) ys

abbrev pub given : Run → List ModelItem
given run = one_list (setting_of run) run.net (input_of run)
