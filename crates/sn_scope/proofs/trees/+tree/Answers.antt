use Rattle.std.proofs.Common.{◌≡◌, suc, ◌+◌, ◌-◌, ◌<◌, ◌≤◌, ◌∷◌, length, drop, take, map, None, Some, IfOk, sym, ap, ◌∙◌, subst, arith}
use Rattle.std.proofs.lemmas.List.{drop_more, length-drop, take_all}
use Rattle.std.proofs.lemmas.Result.{IfOk-weaker}
use Rattle.sn_net.specs.declared.net.Net.TheVariants as net
use Rattle.sn_scope.specs.Built.{AreBuilt, IsBuilt, IsMade, node_of, part_of, parts_of, rest_of, series_of}
use Rattle.sn_scope.specs.Trees.{all_some}
use Rattle.sn_scope.specs.declared.network.Component.TheVariants as component
use Rattle.sn_scope.proofs.Building.{IsPartly, drop_past, left_unbuilt, partly_begun, partly_done, partly_more, partly_unbuilt, tree_built, tree_full, tree_low}
use Rattle.sn_scope.proofs.Levels.{node-Box, node-Choice, node-Filter, node-Serial, node-Split, node-Star, node-Sync, part-Made, part-Named, part-past, rest-more, rest-one, series-rest}
use Rattle.sn_scope.proofs.trees.+tree.Goals as goal
use Rattle.sn_scope.proofs.trees.+tree.Goals.{tree-then-levels-eq0-via-then-levels-eq0, tree-then-levels-eq0-via-else-levels-eq0+then-not-take_room, series_tree-then-levels-eq0-via-then-levels-eq0, series_tree-then-levels-eq0-via-else-levels-eq0+then-not-take_room}

pub node-returns-in-Box : goal.node-returns-in-Box
node-returns-in-Box t c =
    let boxes = c.args.boxes.now in
    let levels = c.args.levels in
    let nets = c.args.nets.now in
    subst (λ d. IfOk c.call.result (IsBuilt boxes d (suc c.args.room.now) c.args.room.now)) (sym (ap (node_of boxes levels nets) c.in-Box.is ∙ node-Box boxes (part_of boxes levels nets) (parts_of boxes levels nets) c.in-Box.place c.in-Box.number))
    (IfOk-weaker c.call.result _ _ (λ built all. all c.args.room.now) c.call.ensures)

pub node-returns-in-Filter : goal.node-returns-in-Filter
node-returns-in-Filter t c =
    let boxes = c.args.boxes.now in
    let levels = c.args.levels in
    let nets = c.args.nets.now in
    subst (λ d. IfOk c.filter_node.result (IsBuilt boxes d (suc c.args.room.now) c.args.room.now)) (sym (ap (node_of boxes levels nets) c.in-Filter.is ∙ node-Filter boxes (part_of boxes levels nets) (parts_of boxes levels nets) c.in-Filter.filter))
    (IfOk-weaker c.filter_node.result _ _ (λ built all. all boxes c.args.room.now) c.filter_node.ensures)

pub node-returns-in-Sync : goal.node-returns-in-Sync
node-returns-in-Sync t c =
    let boxes = c.args.boxes.now in
    let levels = c.args.levels in
    let nets = c.args.nets.now in
    subst (λ d. IfOk c.sync_node.result (IsBuilt boxes d (suc c.args.room.now) c.args.room.now))
    (sym
    (ap (node_of boxes levels nets) c.in-Sync.is ∙ node-Sync boxes (part_of boxes levels nets) (parts_of boxes levels nets) c.in-Sync.place c.in-Sync.patterns
    ∙ ap (λ patterns. Some (net.Sync c.in-Sync.place patterns)) (sym c.as_slice.ensures)))
    (IfOk-weaker c.sync_node.result _ _ (λ built all. all boxes c.args.room.now) c.sync_node.ensures)

pub node-returns-in_ok-branches-in-Choice : goal.node-returns-in_ok-branches-in-Choice
node-returns-in_ok-branches-in-Choice t c =
    let boxes = c.args.boxes.now in
    let levels = c.args.levels in
    let nets = c.args.nets.now in
    let part = part_of boxes levels nets in
    let branches = c.in_ok-branches-in-Choice.branches in
    let built : AreBuilt boxes (all_some (map part c.in-Choice.branches)) c.args.room.now c.trees.new.room branches =
    subst (λ bs. AreBuilt boxes (all_some (map part bs)) c.args.room.now c.trees.new.room branches) c.as_slice-in-Choice.ensures c.in_ok-branches-in-Choice.ensures in
    subst (λ d. IfOk c.choice_over.result (IsBuilt boxes d (suc c.args.room.now) c.trees.new.room))
    (sym (ap (node_of boxes levels nets) c.in-Choice.is ∙ node-Choice boxes part (parts_of boxes levels nets) c.in-Choice.place c.in-Choice.merge c.in-Choice.branches))
    (IfOk-weaker c.choice_over.result _ _ (λ made all. all boxes (all_some (map part c.in-Choice.branches)) c.args.room.now c.trees.new.room built) c.choice_over.ensures)

pub node-returns-in_ok-body-in-Star : goal.node-returns-in_ok-body-in-Star
node-returns-in_ok-body-in-Star t c =
    let boxes = c.args.boxes.now in
    let levels = c.args.levels in
    let nets = c.args.nets.now in
    let part = part_of boxes levels nets in
    let body = c.in_ok-body-in-Star.body in
    let built : IsBuilt boxes (part c.in-Star.body) c.args.room.now c.part.new.room body =
    subst (λ b. IsBuilt boxes (part b) c.args.room.now c.part.new.room body) c.get.ensures c.in_ok-body-in-Star.ensures in
    subst (λ d. IfOk c.star_over.result (IsBuilt boxes d (suc c.args.room.now) c.part.new.room))
    (sym (ap (node_of boxes levels nets) c.in-Star.is ∙ node-Star boxes part (parts_of boxes levels nets) c.in-Star.place c.in-Star.merge c.in-Star.body c.in-Star.exit c.in-Star.guard))
    (IfOk-weaker c.star_over.result _ _ (λ made all. all boxes (part c.in-Star.body) c.args.room.now c.part.new.room built) c.star_over.ensures)

pub node-returns-in_ok-body-in-Split : goal.node-returns-in_ok-body-in-Split
node-returns-in_ok-body-in-Split t c =
    let boxes = c.args.boxes.now in
    let levels = c.args.levels in
    let nets = c.args.nets.now in
    let part = part_of boxes levels nets in
    let body = c.in_ok-body-in-Split.body in
    let built : IsBuilt boxes (part c.in-Split.body) c.args.room.now c.part-in-Split.new.room body =
    subst (λ b. IsBuilt boxes (part b) c.args.room.now c.part-in-Split.new.room body) c.get-in-Split.ensures c.in_ok-body-in-Split.ensures in
    subst (λ d. IfOk c.split_over.result (IsBuilt boxes d (suc c.args.room.now) c.part-in-Split.new.room))
    (sym (ap (node_of boxes levels nets) c.in-Split.is ∙ node-Split boxes part (parts_of boxes levels nets) c.in-Split.place c.in-Split.merge c.in-Split.body c.in-Split.tag))
    (IfOk-weaker c.split_over.result _ _ (λ made all. all boxes (part c.in-Split.body) c.args.room.now c.part-in-Split.new.room built) c.split_over.ensures)

pub node-returns-in-Serial : goal.node-returns-in-Serial
node-returns-in-Serial t c =
    let boxes = c.args.boxes.now in
    let levels = c.args.levels in
    let nets = c.args.nets.now in
    let new = c.series.new.room in
    subst (λ d. IfOk c.series.result (IsBuilt boxes d (suc c.args.room.now) new))
    (ap (series_of boxes levels nets) c.as_slice-in-Serial.ensures ∙ sym (ap (node_of boxes levels nets) c.in-Serial.is ∙ node-Serial boxes (part_of boxes levels nets) (parts_of boxes levels nets) c.in-Serial.parts))
    c.series.ensures

pub part-returns-in-Made : goal.part-returns-in-Made
part-returns-in-Made t c =
    let boxes = c.args.boxes.now in
    let levels = c.args.levels in
    let nets = c.args.nets.now in
    let same = part-Made boxes levels nets c.args.network.now c.in-Made.component c.in-Made.is in
    subst (λ d. IfOk c.tree-in-Made.result (IsBuilt boxes d c.args.room.now c.tree-in-Made.new.room)) (sym same) c.tree-in-Made.ensures

pub rest-returns-then-parts-eq1 : goal.rest-returns-then-parts-eq1
rest-returns-then-parts-eq1 t c =
    let boxes = c.args.boxes.now in
    let same = rest-one boxes c.args.levels c.args.nets.now c.args.parts.now c.index-parts-0.result c.if-parts-eq1.true c.index-parts-0.is in
    subst (λ d. IfOk c.part.result (IsBuilt boxes d c.args.room.now c.part.new.room)) (sym same) c.part.ensures

pub rest-returns : goal.rest-returns
rest-returns t c =
    let boxes = c.args.boxes.now in
    let same = rest-more boxes c.args.levels c.args.nets.now c.args.parts.now (λ one. absurd (omega (arith, c.if-parts-eq1.false, one))) in
    subst (λ d. IfOk c.series_tree.result (IsBuilt boxes d c.args.room.now c.series_tree.new.room)) (sym same) c.series_tree.ensures

pub part-returns-then-number-nets : goal.part-returns-then-number-nets
part-returns-then-number-nets t c =
    let boxes = c.args.boxes.now in
    subst (λ d. IsBuilt boxes d c.args.room.now c.args.room.now None) (sym (part-past boxes c.args.levels c.args.nets.now c.args.network.now c.in-Named.number c.in-Named.is c.if-number-nets.true)) tt

pub part-returns-else-number-nets : goal.part-returns-else-number-nets
part-returns-else-number-nets t c =
    let boxes = c.args.boxes.now in
    let nets = c.args.nets.now in
    let within : c.in-Named.number < length nets = omega (arith, c.if-number-nets.false) in
    let same = part-Named boxes c.args.levels nets c.args.network.now c.in-Named.number c.index-nets-number.result c.in-Named.is within c.index-nets-number.is in
    subst (λ d. IfOk c.tree.result (IsBuilt boxes d c.args.room.now c.tree.new.room)) (sym same) c.tree.ensures

pub series-returns-in_default : goal.series-returns-in_default
series-returns-in_default t c =
    let boxes = c.args.boxes.now in
    let levels = c.args.levels in
    let nets = c.args.nets.now in
    let parts = c.args.parts.now in
    let two : 2 ≤ length parts = omega (arith, c.if-parts-lt2.false) in
    let left : IsBuilt boxes (part_of boxes levels nets c.index-parts-0.result) c.args.room.now c.part.new.room None =
    subst (λ b. IsBuilt boxes (part_of boxes levels nets c.index-parts-0.result) c.args.room.now c.part.new.room b) c.in_default.is c.in_ok-left.ensures in
    subst (λ d. IsBuilt boxes d (suc c.args.room.now) c.part.new.room None) (sym (series-rest boxes levels nets parts c.index-parts-0.result two c.index-parts-0.is))
    (left_unbuilt boxes _ _ c.args.room.now c.part.new.room left)

pub series-returns : goal.series-returns
series-returns t c =
    let boxes = c.args.boxes.now in
    let levels = c.args.levels in
    let nets = c.args.nets.now in
    let parts = c.args.parts.now in
    let two : 2 ≤ length parts = omega (arith, c.if-parts-lt2.false) in
    let left : IsMade boxes (part_of boxes levels nets c.index-parts-0.result) c.args.room.now c.part.new.room c.in-Some.left = subst (λ b. IsBuilt boxes (part_of boxes levels nets c.index-parts-0.result) c.args.room.now c.part.new.room b) c.in-Some.is c.in_ok-left.ensures in
    let whole : take (length parts - 1) (drop 1 parts) ≡ drop 1 parts = take_all (length parts - 1) (drop 1 parts) (omega (arith, length-drop 1 parts)) in
    let right : IfOk c.rest-right.result (IsBuilt boxes (rest_of boxes levels nets (drop 1 parts)) c.part.new.room c.rest-right.new.room) =
    subst (λ ps. IfOk c.rest-right.result (IsBuilt boxes (rest_of boxes levels nets ps) c.part.new.room c.rest-right.new.room)) whole c.rest-right.ensures in
    subst (λ d. IfOk c.serial_over.result (IsBuilt boxes d (suc c.args.room.now) c.rest-right.new.room)) (sym (series-rest boxes levels nets parts c.index-parts-0.result two c.index-parts-0.is))
    (IfOk-weaker c.serial_over.result _ _ (λ built all. all boxes _ _ c.args.room.now c.part.new.room c.rest-right.new.room left right) c.serial_over.ensures)

pub tree-returns-then-levels-eq0 : goal.tree-returns-then-levels-eq0
tree-returns-then-levels-eq0 t c =
    let boxes = c.args.boxes.now in
    elim c.then-levels-eq0.branch [
      | tree-then-levels-eq0-via-then-levels-eq0 w ↦ tree_low boxes c.args.levels c.args.nets.now c.args.component.now c.args.room.now c.args.room.now w.if-levels-eq0.true
      | tree-then-levels-eq0-via-else-levels-eq0+then-not-take_room w ↦ tree_full boxes _ c.args.room.now c.args.room.now (w.take_room.ensures.full w.if-not-take_room.true).0
    ]

pub series_tree-returns-then-levels-eq0 : goal.series_tree-returns-then-levels-eq0
series_tree-returns-then-levels-eq0 t c =
    let boxes = c.args.boxes.now in
    elim c.then-levels-eq0.branch [
      | series_tree-then-levels-eq0-via-then-levels-eq0 w ↦ tree_low boxes c.args.levels c.args.nets.now (component.Serial c.args.parts.now) c.args.room.now c.args.room.now w.if-levels-eq0.true
      | series_tree-then-levels-eq0-via-else-levels-eq0+then-not-take_room w ↦ tree_full boxes _ c.args.room.now c.args.room.now (w.take_room.ensures.full w.if-not-take_room.true).0
    ]

pub tree-returns : goal.tree-returns
tree-returns t c =
    let boxes = c.args.boxes.now in
    let levels = c.args.levels in
    let more : 0 < levels = omega (arith, c.if-levels-eq0.false) in
    subst (IsBuilt boxes _ c.args.room.now c.node.new.room) (sym c.narrow.ensures)
    (tree_built boxes levels c.args.nets.now c.args.component.now c.args.room.now c.take_room.new.room c.node.new.room c.in_ok-built.built more (c.take_room.ensures.taken c.if-not-take_room.false) c.in_ok-built.ensures)

pub series_tree-returns : goal.series_tree-returns
series_tree-returns t c =
    let boxes = c.args.boxes.now in
    let levels = c.args.levels in
    let nets = c.args.nets.now in
    let more : 0 < levels = omega (arith, c.if-levels-eq0.false) in
    let made : IsBuilt boxes (node_of boxes (levels - 1) nets (component.Serial c.args.parts.now)) (suc c.take_room.new.room) c.series.new.room c.in_ok-built.built =
    subst (λ d. IsBuilt boxes d (suc c.take_room.new.room) c.series.new.room c.in_ok-built.built) (sym (node-Serial boxes (part_of boxes (levels - 1) nets) (parts_of boxes (levels - 1) nets) c.args.parts.now)) c.in_ok-built.ensures in
    subst (IsBuilt boxes _ c.args.room.now c.series.new.room) (sym c.narrow.ensures)
    (tree_built boxes levels nets (component.Serial c.args.parts.now) c.args.room.now c.take_room.new.room c.series.new.room c.in_ok-built.built more (c.take_room.ensures.taken c.if-not-take_room.false) made)

pub trees-loop-network-init : goal.trees-loop-network-init
trees-loop-network-init t c =
    let boxes = c.args.boxes.now in
    let part = part_of boxes c.args.levels c.args.nets.now in
    let networks = c.args.networks.now in
    let room = c.args.room.now in
    subst (IsPartly boxes part networks networks room room) (sym c.new-made.ensures) (partly_begun boxes part networks room)

pub trees-loop-network-preserved : goal.trees-loop-network-preserved
trees-loop-network-preserved t c =
    let boxes = c.args.boxes.now in
    let part = part_of boxes c.args.levels c.args.nets.now in
    let networks = c.args.networks.now in
    let i = c.loop-network.network-index in
    let item = c.network-item.result in
    let old = c.args.room.now in
    let room = c.loop-network.room in
    let left = c.part.new.room in
    let behind : drop i networks ≡ item ∷ drop (i + 1) networks = drop_more networks i item c.loop-network-test.true ∙ ap (λ x. x ∷ drop (i + 1) networks) (sym c.network-item.is) in
    let built : IsMade boxes (part item) room left c.in-Some.faced = subst (λ b. IsBuilt boxes (part item) room left b) c.in-Some.is c.in_ok-faced.ensures in
    let here : IsMade boxes (part item) room left c.into_inner.result = subst (IsMade boxes (part item) room left) (sym c.into_inner.ensures) built in
    subst (IsPartly boxes part networks (drop (i + 1) networks) old left) (sym c.in_ok-append.ensures.ok)
    (partly_more boxes part networks (drop i networks) item (drop (i + 1) networks) old room left c.loop-network.made c.into_inner.result c.loop-network.invariant behind here)

pub trees-returns-in_default : goal.trees-returns-in_default
trees-returns-in_default t c =
    let boxes = c.args.boxes.now in
    let part = part_of boxes c.args.levels c.args.nets.now in
    let networks = c.args.networks.now in
    let i = c.loop-network.network-index in
    let item = c.network-item.result in
    let room = c.loop-network.room in
    let left = c.part.new.room in
    let behind : drop i networks ≡ item ∷ drop (i + 1) networks = drop_more networks i item c.loop-network-test.true ∙ ap (λ x. x ∷ drop (i + 1) networks) (sym c.network-item.is) in
    let unbuilt : IsBuilt boxes (part item) room left None = subst (λ b. IsBuilt boxes (part item) room left b) c.in_default.is c.in_ok-faced.ensures in
    partly_unbuilt boxes part networks (drop i networks) item (drop (i + 1) networks) c.args.room.now room left c.loop-network.made c.loop-network.invariant behind unbuilt

pub trees-returns : goal.trees-returns
trees-returns t c =
    let boxes = c.args.boxes.now in
    partly_done boxes (part_of boxes c.args.levels c.args.nets.now) c.args.networks.now (drop c.loop-network.network-index c.args.networks.now) c.args.room.now c.loop-network.room c.loop-network.made
    c.loop-network.invariant (drop_past c.loop-network.network-index c.args.networks.now c.loop-network-test.false)
