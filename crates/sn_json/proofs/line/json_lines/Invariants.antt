use Rattle.std.proofs.Common.{◌≡◌, take}
use Rattle.std.specs.List.{All, flat_map}
use Rattle.sn_json.specs.Lines.{IsReadBack, json_line}
use Rattle.sn_json.proofs.line.json_lines.Given as goal

abbrev pub invariant-loop-shown : goal.invariant-loop-shown
invariant-loop-shown l =
    (l.text ≡ flat_map (json_line l.input.names) (take l.shown-index l.shown-items)) × All (IsReadBack l.input.names) (take l.shown-index l.shown-items)
