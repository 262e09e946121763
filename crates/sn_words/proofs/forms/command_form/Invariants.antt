use Rattle.std.proofs.Common.{◌≡◌, map, drop, false}
use Rattle.clap.specs.Simple.{app_of, new_app}
use Rattle.clap.specs.declared.builder.Command.TheViews.{out-Command as fields_of}
use Rattle.sn_words.specs.Clap.{with_options, with_words}
use Rattle.sn_words.proofs.forms.command_form.Given as goal

-- with the words that are left, the form is that of all
abbrev pub invariant-loop-word : goal.invariant-loop-word
invariant-loop-word l = (with_words (app_of l.form) (map (λ word. word.now) (drop l.word-index l.words))
    ≡ with_words (new_app l.fn.name) (map (λ word. word.now) l.words))
    × ((fields_of l.form).has_globals ≡ false)

abbrev pub invariant-loop-option : goal.invariant-loop-option
invariant-loop-option l = (with_options (app_of l.form) (map (λ option. option.now) (drop l.option-index l.options))
    ≡ with_options (with_words (new_app l.fn.name) (map (λ word. word.now) l.fn.words)) (map (λ option. option.now) l.options))
    × ((fields_of l.form).has_globals ≡ false)
