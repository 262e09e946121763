use Rattle.std.proofs.Common.{◌∙◌, ◌||◌, ap, ap₂}
use Rattle.std.proofs.lemmas.Result.{IfOk-weaker}
use Rattle.sn_words.proofs.forms.with_word.Goals as goal

pub returns-clause-local : goal.returns-clause-local
returns-clause-local c =
    let is_local = ap (λ arg. arg.global) c.required.ensures ∙ c.new.ensures.optional.1 in
    IfOk-weaker c.arg.result _ _ (λ longer adds was. adds.globals ∙ ap₂ ◌||◌ was is_local) c.arg.ensures
