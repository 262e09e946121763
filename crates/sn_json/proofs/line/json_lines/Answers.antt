use Rattle.std.proofs.Common.{◌≡◌, ◌<◌, ◌+◌, ◌++◌, ◌∷◌, [], get_or, length, take, ap, sym, subst, ◌∙◌}
use Rattle.std.specs.List.{All, flat_map}
use Rattle.std.proofs.lemmas.List.{flat_map_more, take_more}
use Rattle.std.proofs.lemmas.List.Elements.{All-push}
use Rattle.sn_record_roundtrip.specs.Writable.{IsWritable}
use Rattle.sn_json.specs.Lines.{IsReadBack, json_line}
use Rattle.sn_json.proofs.line.json_lines.Goals as goal

pub json_line-requires : goal.json_line-requires
json_line-requires c =
    let i = c.loop-shown.shown-index in
    let same = c.as_slice-shown-items.ensures in
    subst (IsWritable c.args.input.now.names) (sym (c.shown-item.is ∙ ap (λ xs. get_or xs i c.shown-item.result) same))
    (c.requires i c.shown-item.result (subst (λ xs. i < length xs) same c.loop-shown-test.true))

pub loop-shown-preserved : goal.loop-shown-preserved
loop-shown-preserved c =
    let names = c.args.input.now.names in
    let xs = c.as_slice-shown-items.result.now in
    let i = c.loop-shown.shown-index in
    let r = c.shown-item.result in
    let one_more : take (i + 1) xs ≡ take i xs ++ r ∷ [] = take_more xs i r c.loop-shown-test.true ∙ ap (λ x. take i xs ++ x ∷ []) (sym c.shown-item.is) in (
      c.in_ok-extend_from_slice.ensures.ok
          ∙ ap (λ t. c.loop-shown.text ++ t) (c.as_slice.ensures ∙ c.in_ok-line.ensures.line)
          ∙ ap (λ t. t ++ json_line names r) c.loop-shown.invariant.0
          ∙ flat_map_more (json_line names) [] (take i xs) r
          ∙ ap (flat_map (json_line names)) (sym one_more),
      subst (All (IsReadBack names)) (sym one_more) (All-push (IsReadBack names) (take i xs) r c.loop-shown.invariant.1 c.in_ok-line.ensures.reads),
    )
