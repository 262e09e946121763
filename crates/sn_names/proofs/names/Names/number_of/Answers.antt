use Rattle.std.proofs.Common.{◌≡◌, ◌<◌, length, sym, ap, subst, arith}
use Rattle.sn_names.specs.Names.{AreNames, IsHeld}
use Rattle.sn_names.proofs.Labels.{place_is_held}
use Rattle.sn_names.proofs.NamesLaws.{AreNames_entered}
use Rattle.sn_names.proofs.names.Names.number_of.Goals as goal

pub invariant_of-self-2 : goal.invariant_of-self-2
invariant_of-self-2 c =
    let table = c.self.inside.table in
    let many : length table ≡ length c.args.self.now = ap length c.self.view_is in
    let room : length table < 4096 = omega arith in
    subst AreNames (sym c.in_ok-place.ensures.ok) (AreNames_entered table c.args.name.now room c.self.invariant)

pub returns-clause-held : goal.returns-clause-held
returns-clause-held c =
    let name = c.args.name.now in
    subst (IsHeld c.enter.new.self) (sym c.numbered.ensures)
    (place_is_held c.enter.new.self name c.in_ok-place.place c.in_ok-place.ensures.number c.in_ok-place.ensures.within)
