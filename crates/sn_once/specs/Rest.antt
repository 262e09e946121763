-- What an engine still gives.
use Rattle.std.specs.Prelude.{◌≡◌, List}
use Rattle.sn_net.specs.Item.{ModelItem}
use Rattle.sn_model.specs.declared.run.Run.{Run}
use Rattle.sn_once.specs.Giving.{still_gives}
use Rattle.sn_once.specs.declared.once.Once.{Once}

-- the run that made the engine
abbrev pub run_of : Once → Run
run_of once = once.run.value

-- what it gives on further items, from what it keeps of its network
abbrev pub rest_of : Once → List ModelItem → List ModelItem
rest_of once xs = still_gives (run_of once) once.kept xs

-- the engine is one of the run
abbrev pub IsOf : Once → Run → Type 0
IsOf once run = run_of once ≡ run
