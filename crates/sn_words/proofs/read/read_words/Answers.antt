use Rattle.std.proofs.Common.{◌≡◌, ◌∙◌, [], sym, ap, subst, map}
use Rattle.std.specs.String.{string_bytes}
use Rattle.std.proofs.lemmas.Result.{IfOk-weaker}
use Rattle.clap.specs.Kinds.{HasKind}
use Rattle.clap.specs.Faults.{fault_of, is_simple_and_free}
use Rattle.clap.specs.Simple.{app_of, is_simple, subcommand_of, subcommand_rows_of}
use Rattle.sn_words.specs.Clap.{asked_in, program}
use Rattle.sn_words.specs.Words.{command_of}
use Rattle.sn_words.proofs.Found.{are_texts, fault_of_err, found_is, none_is, simple}
use Rattle.sn_words.proofs.Program.{program_simple}
use Rattle.sn_words.proofs.read.read_words.Goals as goal

pub returns-in-Err-clause-usage : goal.returns-in-Err-clause-usage
returns-in-Err-clause-usage c =
    let words = map string_bytes c.args.words.now in
    let is : app_of c.into_inner.result ≡ program = ap app_of c.into_inner.ensures ∙ c.in_ok-program.ensures in
    let kinds : HasKind (fault_of (app_of c.into_inner.result) words) c.in-Err.error = c.in-Err.ensures.kinds (ap is_simple_and_free is ∙ program_simple) in
    λ h. none_is words c.in-Err.error (are_texts c.args.words.now) (c.fault_from.ensures (fault_of_err c.fault_from.result _ h))
    (subst (λ app. HasKind (fault_of app words) c.in-Err.error) is kinds)

pub returns-clause-ok : goal.returns-clause-ok
returns-clause-ok c =
    let words = map string_bytes c.args.words.now in
    let is : app_of c.into_inner.result ≡ program = ap app_of c.into_inner.ensures ∙ c.in_ok-program.ensures in
    let fine : fault_of (app_of c.into_inner.result) words ≡ [] = c.in-Ok.ensures.kinds (ap is_simple_and_free is ∙ program_simple) in
    let found : subcommand_rows_of c.in-Ok.matches ≡ subcommand_of (app_of c.into_inner.result) words = (c.in-Ok.ensures.matches (ap is_simple is ∙ simple)).1 in
    let same : asked_in (subcommand_rows_of c.in-Ok.matches) ≡ command_of words = found_is words c.in-Ok.matches (are_texts c.args.words.now)
    (sym (ap (λ app. fault_of app words) is) ∙ fine) (found ∙ ap (λ app. subcommand_of app words) is) in
    IfOk-weaker c.make_found.result _ _ (λ command h. sym same ∙ h) c.make_found.ensures.ok

pub returns-clause-usage : goal.returns-clause-usage
returns-clause-usage c =
    let words = map string_bytes c.args.words.now in
    let is : app_of c.into_inner.result ≡ program = ap app_of c.into_inner.ensures ∙ c.in_ok-program.ensures in
    let fine : fault_of (app_of c.into_inner.result) words ≡ [] = c.in-Ok.ensures.kinds (ap is_simple_and_free is ∙ program_simple) in
    let found : subcommand_rows_of c.in-Ok.matches ≡ subcommand_of (app_of c.into_inner.result) words = (c.in-Ok.ensures.matches (ap is_simple is ∙ simple)).1 in
    let same : asked_in (subcommand_rows_of c.in-Ok.matches) ≡ command_of words = found_is words c.in-Ok.matches (are_texts c.args.words.now)
    (sym (ap (λ app. fault_of app words) is) ∙ fine) (found ∙ ap (λ app. subcommand_of app words) is) in
    λ h. sym same ∙ c.make_found.ensures.usage h
