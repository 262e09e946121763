use Rattle.std.proofs.Common.{◌≡◌, ◌∙◌, ap}
use Rattle.std.proofs.lemmas.Result.{IfOk-weaker}
use Rattle.clap.specs.Words.{Shape}
use Rattle.clap.specs.Simple.{App, with_subcommand, app_of}
use Rattle.clap.specs.declared.builder.Command.{Command}
use Rattle.sn_words.proofs.forms.with_command.Goals as goal

both : (a b : Command) (s t : Shape) → a ≡ b → s ≡ t → with_subcommand (app_of a) s ≡ with_subcommand (app_of b) t
both a b s t same alike = ap (λ (x : Command). with_subcommand (app_of x) s) same ∙ ap (λ (x : Shape). with_subcommand (app_of b) x) alike

pub returns : goal.returns
returns c =
    IfOk-weaker c.new.result _ _ (λ form h. ap app_of h
    ∙ c.in_ok-program.ensures.shape c.in_ok-command.ensures.local
    ∙ both _ _ _ _ c.into_inner.ensures (ap (λ (a : App). a.top) c.in_ok-command.ensures.shape)) c.new.ensures
