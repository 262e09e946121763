use Rattle.std.proofs.Common.{refl, sym, ap, ◌∙◌, ◌∷◌, [], ◌++◌, map, append_assoc, length, subst}
use Rattle.std.specs.Vec.Iter.{into_iter_items}
use Rattle.std.proofs.lemmas.List.{map-append}
use Rattle.sn_net.specs.Item.{modelled}
use Rattle.sn_view.specs.View.{It}
use Rattle.sn_view.specs.Next.{send, items}
use Rattle.sn_node.specs.Seen.{target_of}
use Rattle.sn_graph.specs.Arena.{view_of}
use Rattle.sn_graph.proofs.Sending.{send-nil, send-append}
use Rattle.sn_graph.specs.Room.{HasRoom}
use Rattle.sn_graph.proofs.Reserving.{quiet_twice, room_for_one, room_for_rest}
use Rattle.sn_graph.proofs.arena.Arena.send_items.Goals as goal

pub loop-item-init : goal.loop-item-init
loop-item-init c = record { whole = refl; sent = sym (send-nil (target_of c.args.goes) (view_of c.args.self.now)); room = subst (λ xs. HasRoom c.args.goes (length xs) c.args.self.now) (sym (c.into_iter-item-iterator.ensures.into_iter_gives.0 ∙ c.into_vec-item-items.ensures)) c.requires; of = λ run is. is; quiet = record { places = refl; agenda = refl } }

pub send-requires : goal.send-requires
send-requires c = room_for_one c.args.goes c.loop-item.self c.in-Some.item (into_iter_items c.next.new.self) (into_iter_items c.loop-item.item-iterator) c.in-Some.ensures.steps.0 c.loop-item.invariant.room

pub loop-item-preserved : goal.loop-item-preserved
loop-item-preserved c =
    record {
      whole =
          append_assoc c.loop-item.yielded (c.in-Some.item ∷ []) (into_iter_items c.next.new.self)
          ∙ ap (λ xs. c.loop-item.yielded ++ xs) (sym c.in-Some.ensures.steps.0) ∙ c.loop-item.invariant.whole;
      sent =
          c.send.ensures.view
          ∙ ap (send (target_of c.args.goes) (It (modelled c.in-Some.item) ∷ [])) c.loop-item.invariant.sent
          ∙ send-append (target_of c.args.goes) (items (map modelled c.loop-item.yielded)) (It (modelled c.in-Some.item) ∷ []) (view_of c.args.self.now)
          ∙ ap (λ es. send (target_of c.args.goes) es (view_of c.args.self.now))
          (sym (ap items (map-append modelled c.loop-item.yielded (c.in-Some.item ∷ [])) ∙ map-append (λ item. It item) (map modelled c.loop-item.yielded) (modelled c.in-Some.item ∷ [])));
      room = c.send.ensures.room (length (into_iter_items c.next.new.self))
          (room_for_rest c.args.goes c.loop-item.self c.in-Some.item (into_iter_items c.next.new.self) (into_iter_items c.loop-item.item-iterator) c.in-Some.ensures.steps.0 c.loop-item.invariant.room);
      of = λ run is. c.send.ensures.of run (c.loop-item.invariant.of run is);
      quiet = quiet_twice c.args.self.now c.loop-item.self c.send.new.self c.loop-item.invariant.quiet c.send.ensures.quiet;
    }
