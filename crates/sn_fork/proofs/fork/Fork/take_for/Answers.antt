use Rattle.std.proofs.Common.{List, ap, refl, subst}
use Rattle.std.specs.Prelude.{slice_get, Some, ◌≡◌}
use Rattle.sn_fork.specs.declared.fork.Child.{Child}
use Rattle.sn_fork.specs.Fork.{forking_of}
use Rattle.sn_fork.specs.Seen.{Forking}
use Rattle.sn_fork.proofs.OneChild.{found_child}
use Rattle.sn_fork.proofs.Items.{lacking}
use Rattle.sn_fork.proofs.fork.Fork.take_for.Goals as goal

pub take_item-requires-clause-child : goal.take_item-requires-clause-child
take_item-requires-clause-child c =
    found_child c.self.inside.children.items c.args.self.now.children c.args.key c.in-Some.c (ap (λ (f : Forking). f.children) c.self.view_is)
    (subst (λ (l : List Child). (child : Child) × (slice_get l c.in-Some.c ≡ Some child) × (child.key ≡ c.args.key)) c.as_slice.ensures.value c.in-Some.ensures.some)

pub returns-in-None-clause-ok : goal.returns-in-None-clause-ok
returns-in-None-clause-ok c = (
  refl,
  (
    c.requires.wants,
    c.requires.child,
    lacking (forking_of c.self.inside) c.args.self.now c.self.inside.children.items c.as_slice.result.now c.args.key c.self.view_is refl c.as_slice.ensures.value c.requires.child
        (c.in-None.ensures.none refl),
  ),
)
