use Rattle.std.proofs.Common.{sym, ap, ◌∙◌}
use Rattle.sn_terminal.specs.Words.{bracketed}
use Rattle.sn_terminal.proofs.Contents.{between}
use Rattle.sn_terminal.proofs.token.name_in.Goals as goal

pub returns : goal.returns
returns c = c.requires.1 ∙ ap bracketed (sym (between c.args.tag.now c.requires.0 60 62 c.requires.1))
