use Rattle.std.proofs.Common.{◌≡◌, ◌<◌, length, None, sym, ap, ◌∙◌, subst, arith}
use Rattle.sn_scope.specs.Built.{IsBuilt, IsMade}
use Rattle.sn_scope.specs.Trees.{fitting, most_levels, tree, tree_of}
use Rattle.sn_scope.proofs.Fitting.{fit, tree_at, unfit}
use Rattle.sn_scope.proofs.resolution.claim.Goals as goal

pub returns-in-None : goal.returns-in-None
returns-in-None c =
    let boxes = c.args.declarations.now.boxes in
    let nets = c.as_slice-nets.result.now in
    let within : c.args.pending.net < length nets = omega (arith, c.if-pending-nets.false) in
    let at : tree_of boxes c.args.declarations.now.nets c.args.pending.net ≡ tree boxes most_levels nets c.index-nets-pending.result =
    ap (λ ns. tree_of boxes ns c.args.pending.net) (sym c.as_slice-nets.ensures) ∙ tree_at boxes nets c.args.pending.net c.index-nets-pending.result within c.index-nets-pending.is in
    let built : IsBuilt boxes (tree boxes most_levels nets c.index-nets-pending.result) c.args.room.now c.tree.new.room None =
    subst (λ b. IsBuilt boxes (tree boxes most_levels nets c.index-nets-pending.result) c.args.room.now c.tree.new.room b) c.in-None.is c.in_ok-faced.ensures in
    ap (fitting c.args.room.now) at ∙ unfit boxes c.args.room.now c.tree.new.room _ built

pub returns-in_ok-input-in-Some : goal.returns-in_ok-input-in-Some
returns-in_ok-input-in-Some c =
    let boxes = c.args.declarations.now.boxes in
    let nets = c.as_slice-nets.result.now in
    let made : IsMade boxes (tree boxes most_levels nets c.index-nets-pending.result) c.args.room.now c.tree.new.room c.in-Some.faced =
    subst (λ b. IsBuilt boxes (tree boxes most_levels nets c.index-nets-pending.result) c.args.room.now c.tree.new.room b) c.in-Some.is c.in_ok-faced.ensures in
    let within : c.args.pending.net < length nets = omega (arith, c.if-pending-nets.false) in
    let at : tree_of boxes c.args.declarations.now.nets c.args.pending.net ≡ tree boxes most_levels nets c.index-nets-pending.result =
    ap (λ ns. tree_of boxes ns c.args.pending.net) (sym c.as_slice-nets.ensures) ∙ tree_at boxes nets c.args.pending.net c.index-nets-pending.result within c.index-nets-pending.is in
    record {
      tree = c.in-Some.faced.net;
      fits = ap (fitting c.args.room.now) at ∙ fit boxes c.args.room.now c.tree.new.room _ c.in-Some.faced made;
      same = λ i. record { place = c.args.pending.place; net = (c.into_net.ensures ∙ ap (λ faced. faced.net) c.into_inner.ensures) i; input = c.in_ok-input-in-Some.ensures.input i; output = c.in_ok-input-in-Some.ensures.output i };
      left = omega (arith, made.room);
    }
