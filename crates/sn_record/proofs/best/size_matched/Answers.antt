use Rattle.std.proofs.Common.{◌∙◌, ap, sym, Some}
use Rattle.std.proofs.lemmas.Bool.{false≢true}
use Rattle.sn_record.proofs.Scores.{size_matched-match, size_matched-no_match}
use Rattle.sn_record.proofs.best.size_matched.Goals as goal

-- src/best.rt:13:9
pub returns-then-matches : goal.returns-then-matches
returns-then-matches c = ap (λ n. Some n) c.len.ensures ∙ sym (size_matched-match _ _ (c.matches.ensures.0 c.if-matches.true))

-- src/best.rt:9:1
pub returns : goal.returns
returns c = sym (size_matched-no_match _ _ (λ matches. false≢true (sym c.if-matches.false ∙ c.matches.ensures.1 matches)))
