use Rattle.std.proofs.Common.{rules, ◌≡◌, false, map, vec_items, length, ap, ◌∙◌, arith}
use Rattle.sn_names.specs.Names.{is_held, entered}
use Rattle.sn_names.proofs.Places.{is_entered, IsEntered}
use Rattle.sn_names.proofs.table.NameTable.enter.Goals as goal

last : (c : goal.In_ok-place) → IsEntered vec_items c.self.inside.names.keys c.insert_full.new.self.keys c.args.name.now c.in_ok-place.place
last c =
    let keys = c.self.inside.names.keys in
    let n = c.args.name.now in
    let fresh : is_held c.args.self.now n ≡ false = search rules in
    is_entered vec_items keys c.insert_full.new.self.keys c.in_ok-copy.copy n c.in_ok-place.place c.in_ok-copy.ensures.items (ap (λ names. is_held names n) c.self.view_is ∙ fresh)
    c.self.invariant.distinct c.in_ok-place.ensures.keys c.in_ok-place.ensures.index

pub invariant_of-self-2 : goal.invariant_of-self-2
invariant_of-self-2 c =
    let many : length (map vec_items c.self.inside.names.keys) ≡ length c.args.self.now = ap length c.self.view_is in
    record {
      countable = omega (arith, (last c).one_more);
      distinct = (last c).distinct;
    }

pub returns-clause-ok : goal.returns-clause-ok
returns-clause-ok c = (last c).names ∙ ap (λ names. entered names c.args.name.now) c.self.view_is

pub returns-clause-number : goal.returns-clause-number
returns-clause-number c = (last c).number
