use Rattle.std.proofs.Common.{refl, subst, ◌∙◌, length}
use Rattle.sn_node.specs.Local.{given_of}
use Rattle.sn_graph.specs.Room.{HasRoom}
use Rattle.sn_graph.proofs.Locals.{given_after, given_enabled, of_changed, still_within, there_in}
use Rattle.sn_graph.proofs.Reserving.{room_stays}
use Rattle.sn_graph.proofs.arena.Arena.local_given.Goals as goal

pub send_given-requires : goal.send_given-requires
send_given-requires c =
    room_stays c.index.result.now.made.goes (length (given_of c.args.given)) c.args.i c.pop-passed.new.self c.reserve.new.self _ refl refl
    (c.requires.apart c.index.result.now (there_in c.args.self.now.nodes.items c.args.i c.index.result.now c.requires.within c.index.ensures))
    (subst (λ n. HasRoom c.index.result.now.made.goes n c.reserve.new.self) c.len.ensures c.in_ok-reserve.ensures.room)

pub returns-clause-enabled : goal.returns-clause-enabled
returns-clause-enabled c = given_enabled c.args.self.now c.args.i c.index.result.now c.requires.within c.index.ensures (given_of c.args.given) c.requires.gives

pub returns-clause-after : goal.returns-clause-after
returns-clause-after c =
    c.send_given.ensures.view
    ∙ given_after c.args.self.now c.reserve.new.self c.args.i c.index.result.now c.index_mut.result.now c.pop-passed.new.self c.reserve.ensures.view
    c.requires.within c.index.ensures (still_within c.args.self.now c.reserve.new.self c.args.i c.reserve.ensures.view c.requires.within) c.index_mut.ensures.value (given_of c.args.given) c.requires.gives c.pop-passed.ensures.rest

pub returns-clause-of : goal.returns-clause-of
returns-clause-of c run is =
    c.send_given.ensures.of run
    (of_changed c.reserve.new.self _ run c.args.i c.index_mut.result.now c.pop-passed.new.self (still_within c.args.self.now c.reserve.new.self c.args.i c.reserve.ensures.view c.requires.within) c.index_mut.ensures.value c.pop-passed.ensures.made refl refl (c.reserve.ensures.of run is))
