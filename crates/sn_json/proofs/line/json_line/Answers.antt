use Rattle.std.proofs.Common.{◌++◌, codes, ap, ◌∙◌}
use Rattle.sn_json.proofs.Converted.{read_back, text_is}
use Rattle.sn_json.proofs.line.json_line.Goals as goal

pub returns-clause-line : goal.returns-clause-line
returns-clause-line c =
    let text = text_is _ _ c.args.names.now c.args.shown.now c.in_ok-to_vec.ensures.text c.in_ok-json.ensures in
    c.in_ok-extend_from_slice.ensures.ok ∙ ap (λ t. t ++ codes "\n") (c.from_vec-text.ensures ∙ text)

pub returns-clause-reads : goal.returns-clause-reads
returns-clause-reads c = read_back _ _ c.args.names.now c.args.shown.now c.requires c.in_ok-to_vec.ensures.text c.in_ok-to_vec.ensures.reads_back c.in_ok-json.ensures
