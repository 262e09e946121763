use Rattle.std.proofs.Common.{Ok, subst}
use Rattle.sn_input.specs.Reading.{ReadsFile}
use Rattle.sn_json.proofs.Files.{file_writable}
use Rattle.sn_json.proofs.line.json_of_lines.Goals as goal

pub json_lines-requires : goal.json_lines-requires
json_lines-requires c =
    file_writable c.args.lines.now c.in_ok-input.input (subst (λ names. ReadsFile names c.args.lines.now (Ok c.in_ok-input.input)) c.in_ok-names.ensures.none c.in_ok-input.ensures.answer)
