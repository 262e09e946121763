use Rattle.std.proofs.lemmas.Str.Pattern.{strip_suffix_char}
use Rattle.sn_json.proofs.key.closed.Goals as goal
use Rattle.std.proofs.Common.{arith}

pub returns : goal.returns
returns c = strip_suffix_char 62 c.args.text.now c.strip_suffix.result c.strip_suffix.ensures.cases (omega arith)
