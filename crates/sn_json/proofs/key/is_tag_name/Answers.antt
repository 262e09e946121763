use Rattle.std.proofs.Common.{refl, sym, ◌∙◌}
use Rattle.sn_lexer.specs.Spelling.{is_name}
use Rattle.sn_lexer.proofs.TagNames.{skips_test}
use Rattle.sn_json.proofs.key.is_tag_name.Goals as goal

pub returns : goal.returns
returns c = c.is_name.ensures ∙ sym (skips_test is_name _ _ c.after_mark.ensures refl)
