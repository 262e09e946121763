-- A fault that is passed on.
use Rattle.std.proofs.Common.{MatchResult, Result}
use Rattle.std.proofs.lemmas.Result.{MatchResult-weaker}
use Rattle.sn_record_parser.specs.Answers.{IfWrong, IsWrong}
use Rattle.sn_record_parser.specs.declared.entry.EntryFault.{EntryFault}
use Rattle.sn_record_parser.specs.declared.entry.EntryFault.TheVariants.{Wrong, Memory}

pub if_wrong : {P Q : Type 0} (fault : EntryFault) → IfWrong fault P → (P → Q) → IfWrong fault Q
if_wrong Wrong p f = f p
if_wrong Memory p f = tt

pub is_wrong : {P Q : Type 0} (fault : EntryFault) → IsWrong fault P → (P → Q) → IfWrong fault Q
is_wrong Wrong p f = f p
is_wrong Memory p f = tt

-- where a last call's result is returned as it is
pub passed_on : {T P Q A B : Type 0} (r : Result T EntryFault) → MatchResult r (λ _. P) (λ fault. IsWrong fault Q) → (P → A) → (Q → B) → MatchResult r (λ _. A) (λ fault. IfWrong fault B)
passed_on r m p q = MatchResult-weaker r m (λ _. p) (λ fault w. is_wrong fault w q)
