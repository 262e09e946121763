use Rattle.std.proofs.lemmas.Result.{err_from_is_err_and}
use Rattle.std.proofs.Common.{◌∙◌, Err, ap, sym}
use Rattle.sn_words.specs.Clap.{look_of}
use Rattle.sn_words.proofs.Found.{fault_of_err}
use Rattle.sn_words.proofs.Asked.{none_of, run_of}
use Rattle.sn_words.proofs.read.make_run.Goals as goal

pub returns-in_err-source-clause-usage : goal.returns-in_err-source-clause-usage
returns-in_err-source-clause-usage c =
    let p = err_from_is_err_and c.from_residual.result c.from_residual.ensures.1 in
    rw (p.1, p.2) (λ h. none_of (look_of c.args.given.now) (c.in_err-source.ensures.usage (ap Err (fault_of_err _ _ h))))

pub returns-clause-ok : goal.returns-clause-ok
returns-clause-ok c = run_of (look_of c.args.given.now) _ _ c.in_ok-source.ensures.ok (sym c.number.ensures.value ∙ c.in-Some.is)
