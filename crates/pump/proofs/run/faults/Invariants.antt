use Rattle.std.specs.Prelude.{List, map}
use Rattle.std.specs.List.{All}
use Rattle.sn_net.specs.Item.{modelled}
use Rattle.sn_net.specs.declared.expr.BoxProgram.{BoxProgram}
use Rattle.sn_net.specs.declared.net.Net.{Net}
use Rattle.sn_typing.specs.Typed.{IsTyped}
use Rattle.pump.proofs.run.faults.Given as goal

abbrev pub invariant-loop-place : goal.invariant-loop-place
invariant-loop-place l = (boxes : List BoxProgram) (net : Net) → All (IsTyped boxes net) (map modelled l.items)
