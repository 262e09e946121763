-- What was given so far, as items of the meaning.
use Rattle.std.specs.Prelude.{List, map}
use Rattle.sn_net.specs.Item.{ModelItem}
use Rattle.sn_pass.specs.Flowing.{flows}
use Rattle.sn_pass.specs.declared.output.Output.{Output}

abbrev pub given : Output → List ModelItem
given output = map flows output.given
