use Rattle.std.proofs.Common.{◌≡◌, List, ◌∷◌, [], ◌++◌, length, map, arith, ap, refl, ◌∙◌}
use mathlib.Core.List.{map-append}
use Rattle.std.proofs.lemmas.List.{length-map}
use Rattle.sn_streams.specs.Keys.{is_among}
use Rattle.sn_net.specs.Dispatchers.{stream_key}
use Rattle.sn_fork.specs.declared.fork.Child.{Child}
use Rattle.sn_fork.specs.Fork.{child_seen, forking_of}
use Rattle.sn_fork.specs.Seen.{Forking, keys_of}
use Rattle.sn_fork.proofs.Items.{after_adding}
use Rattle.sn_fork.proofs.Table.{keyed_more}
use Rattle.sn_fork.proofs.fork.Fork.add_child.Goals as goal

pub invariant_of-self-2 : goal.invariant_of-self-2
invariant_of-self-2 c =
    let xs : List Child = c.self.inside.children.items in
    let now : List Child = c.push_reserved.new.self.items in
    let more : now ≡ xs ++ c.args.child ∷ [] = c.push_reserved.ensures.items ∙ ap (λ l. l ++ c.args.child ∷ []) c.reserve.ensures.items in
    let many : c.len.result ≡ length (map child_seen xs) = omega (arith, c.len.ensures, c.reserve.ensures.len, c.self.inside.children.ok.0, length-map xs child_seen) in
    record {
      forks = after_adding (forking_of c.self.inside) c.args.self.now c.self.invariant.forks xs now c.args.child c.self.view_is refl more c.requires.lacks c.requires.there c.requires.fresh;
      keyed = keyed_more (map child_seen xs) (map child_seen now) (child_seen c.args.child) c.self.inside.replicas c.enter.new.replicas c.len.result
          (ap (map child_seen) more ∙ map-append child_seen xs (c.args.child ∷ [])) many
          (ap (λ (f : Forking). is_among (stream_key c.args.child.key) (keys_of f.children)) c.self.view_is ∙ c.requires.lacks.2) c.in_ok-enter.ensures.ok c.self.invariant.keyed;
    }
