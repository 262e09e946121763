use Rattle.std.proofs.Common.{rules, ◌≡◌, ◌++◌, ◌∷◌, [], map, ap, ◌∙◌}
use Rattle.sn_dispatch.specs.declared.det_fork.Decision.TheVariants as decision
use Rattle.sn_fork.specs.Fork.{child_seen, forking_of}
use Rattle.sn_fork.specs.Seen.{Forking}
use Rattle.sn_fork.specs.Turns.{without_held}
use Rattle.sn_fork.proofs.OneChild.{held_by_all}
use Rattle.sn_fork.proofs.Items.{after_ending}
use Rattle.sn_fork.specs.Seen.{keys_of}
use Rattle.sn_fork.proofs.Table.{keyed_still, keys_held}
use Rattle.sn_fork.proofs.fork.Fork.take_end.Goals as goal

pub invariant_of-self-2 : goal.invariant_of-self-2
invariant_of-self-2 c =
    let noted : c.note.new.self ≡ c.self.inside.decisions ++ decision.End ∷ [] = search rules in
    record {
      forks = after_ending (forking_of c.self.inside) c.self.invariant.forks (map child_seen c.reserve_each.new.children.items) (map child_seen c.end_each.new.children.items) c.note.new.self
          c.reserve_each.ensures.same (ap (λ (f : Forking). f.waiting) c.self.view_is ∙ c.requires) c.end_each.ensures noted;
      keyed = keyed_still (map child_seen c.self.inside.children.items) (map child_seen c.end_each.new.children.items) c.self.inside.replicas (keys_held (map child_seen c.reserve_each.new.children.items) (map child_seen c.end_each.new.children.items) (held_by_all (map child_seen c.reserve_each.new.children.items) (map child_seen c.end_each.new.children.items) c.end_each.ensures) ∙ ap keys_of c.reserve_each.ensures.same) c.self.invariant.keyed;
    }

pub returns-clause-held : goal.returns-clause-held
returns-clause-held c =
    held_by_all (map child_seen c.reserve_each.new.children.items) (map child_seen c.end_each.new.children.items) c.end_each.ensures
    ∙ ap (map without_held) c.reserve_each.ensures.same ∙ ap (λ (f : Forking). map without_held f.children) c.self.view_is
