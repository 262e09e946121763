use Rattle.std.proofs.Common.{rules, ◌<◌, length, take_all, sym, arith}
use Rattle.std.specs.FinMap as map
use Rattle.std.proofs.hash.Loops.{each_more}
use Rattle.std.proofs.lemmas.Option.{get_or_from_slice_get}
use Rattle.sn_scope.specs.Keys.{label_writes}
use Rattle.sn_scope.proofs.Members.{length-keys}
use Rattle.sn_scope.proofs.variants.KeyHash.hash.Goals as goal

pub loop-i-preserved : goal.loop-i-preserved
loop-i-preserved g c =
    let keys = map.keys c.args.self.now.set in
    let label = c.at-label.result in
    let within : c.loop-i.i < length keys = omega (arith, length-keys c.args.self.now.set) in
    let at = sym (get_or_from_slice_get keys c.loop-i.i label label c.at-label.ensures) in
    search (rules, each_more g.H.Hasher.write label_writes c.args.state.now keys c.loop-i.i label within at, within)

pub returns : goal.returns
returns g c = search (rules, take_all, length-keys c.args.self.now.set)
