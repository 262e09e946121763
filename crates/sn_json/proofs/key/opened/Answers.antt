use Rattle.std.proofs.lemmas.Str.Pattern.{strip_prefix_char}
use Rattle.sn_json.proofs.key.opened.Goals as goal
use Rattle.std.proofs.Common.{arith}

pub returns : goal.returns
returns c = strip_prefix_char 60 c.args.text.now c.strip_prefix.result c.strip_prefix.ensures.cases (omega arith)
