use Rattle.std.proofs.Common.{refl}
use Rattle.sn_graph.proofs.Tabling.{empty_if_none, none_if_empty}
use Rattle.sn_graph.proofs.arena.Arena.none_in_flight.Goals as goal

pub returns : goal.returns
returns c =
    let arena = c.args.self.now in (
      λ empty. none_if_empty arena c.requires (c.is_empty.ensures.0 empty),
      λ none. c.is_empty.ensures.1 (empty_if_none arena c.requires none arena.places.entries refl),
    )
