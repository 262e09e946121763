use Rattle.sn_outcomes.proofs.Tokens.{same_tokens, same_refusal, tokens_or_refusal}
use Rattle.sn_outcomes.proofs.laws.tokens_are_one.Goals as goal

pub returns-clause-one_list : goal.returns-clause-one_list
returns-clause-one_list c = same_tokens

pub returns-clause-one_refusal : goal.returns-clause-one_refusal
returns-clause-one_refusal c = same_refusal

pub returns-clause-never_both : goal.returns-clause-never_both
returns-clause-never_both c = tokens_or_refusal
