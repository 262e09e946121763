use Rattle.sn_words.specs.Clap.{look_of}
use Rattle.sn_words.proofs.Found.{none_asked}
use Rattle.sn_words.proofs.read.make_named.Goals as goal

pub returns-in_default-clause-usage : goal.returns-in_default-clause-usage
returns-in_default-clause-usage c =
    let other = c.in_default in
    λ h. none_asked c.args.name.now (look_of c.args.given.now)
    (other.not-run, (other.not-once, (other.not-check, (other.not-print, (other.not-plan, (other.not-trace, (other.not-replay, (other.not-feed, (other.not-sample, tt)))))))))
