use Rattle.std.proofs.Common.{◌∙◌, ap}
use Rattle.std.proofs.lemmas.Result.{IfOk-weaker}
use Rattle.clap.specs.Simple.{App, with_subcommand, app_of}
use Rattle.sn_words.specs.Clap.{form_app}
use Rattle.sn_words.specs.Words.{Form, run_form, once_form, check_form, print_form, plan_form, trace_form, replay_form, feed_form, sample_form}
use Rattle.sn_words.proofs.forms.program_form.Goals as goal

-- a program with one more command
abbrev plus : Form → App → App
plus form app = with_subcommand app (form_app form).top

pub returns : goal.returns
returns c =
    let with_run = c.in_ok-form-2.ensures ∙ ap (λ f. plus run_form (app_of f)) c.in_ok-form.ensures ∙ ap (plus run_form) c.bare_form.ensures in
    let with_once = c.in_ok-form-3.ensures ∙ ap (plus once_form) with_run in
    let with_check = c.in_ok-form-4.ensures ∙ ap (plus check_form) with_once in
    let with_print = c.in_ok-form-5.ensures ∙ ap (plus print_form) with_check in
    let with_plan = c.in_ok-form-6.ensures ∙ ap (plus plan_form) with_print in
    let with_trace = c.in_ok-form-7.ensures ∙ ap (plus trace_form) with_plan in
    let with_replay = c.in_ok-form-8.ensures ∙ ap (plus replay_form) with_trace in
    let with_feed = c.in_ok-form-9.ensures ∙ ap (plus feed_form) with_replay in
    IfOk-weaker c.with_command-9.result _ _ (λ form h. h ∙ ap (plus sample_form) with_feed) c.with_command-9.ensures
