use Rattle.sn_record_tokens.proofs.Walks.{no_token}
use Rattle.sn_record_tokens.proofs.scan.read_token.Goals as goal

pub returns-in-None : goal.returns-in-None
returns-in-None c =
    no_token _ c.in_default.ensures c.in_default-read_number.ensures
    (rw c.in_default-2.is at c.in_ok-bytes.ensures)
    (rw c.in_default-3.is at c.in_ok-bytes-2.ensures)
    (rw c.in-None.is at c.in_ok-bytes-3.ensures)
