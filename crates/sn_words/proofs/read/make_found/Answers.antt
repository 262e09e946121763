use Rattle.std.proofs.Common.{◌∙◌, ap}
use Rattle.std.proofs.lemmas.Result.{IfOk-weaker}
use Rattle.clap.specs.Walk.{rows_of}
use Rattle.clap.specs.Matches.{found_of}
use Rattle.sn_words.specs.Clap.{asked_in}
use Rattle.sn_words.proofs.Found.{asked_back, met_rows}
use Rattle.sn_words.proofs.read.make_found.Goals as goal

pub returns-clause-ok : goal.returns-clause-ok
returns-clause-ok c =
    let is = met_rows c.args.matches.now c.in-Some.name.now (rows_of (found_of c.in-Some.given.now)) c.in-Some.ensures.name c.in-Some.ensures.rows in
    IfOk-weaker c.make_named.result _ _ (λ command h. ap asked_in is ∙ (asked_back c.in-Some.name.now c.in-Some.given.now) ∙ h) c.make_named.ensures.ok

pub returns-clause-usage : goal.returns-clause-usage
returns-clause-usage c =
    let is = met_rows c.args.matches.now c.in-Some.name.now (rows_of (found_of c.in-Some.given.now)) c.in-Some.ensures.name c.in-Some.ensures.rows in
    λ h. ap asked_in is ∙ asked_back c.in-Some.name.now c.in-Some.given.now ∙ c.make_named.ensures.usage h
