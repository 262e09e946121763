use Rattle.sn_json.proofs.Back.{json_back}
use Rattle.sn_json.proofs.laws.json_reads_back.Goals as goal

pub returns : goal.returns
returns c = λ names shown are writable. json_back names are.distinct shown writable
